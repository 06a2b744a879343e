use Rattle.std.proofs.Common.{refl}
use Rattle.refusal.proofs.Loop.{keeps-on}
use Rattle.walks.proofs.Emitted.{emit-less}
use Rattle.card.proofs.acting.emit.Goals as goal

pub loop-w-preserved : goal.loop-w-preserved
loop-w-preserved c =
    let e = c.emit_turn-w.ensures in
    keeps-on _ _ emit-less c.loop-w.invariant c.loop-w-test.true (λ i. record { work = e.0 i; out = e.1 i }) refl
