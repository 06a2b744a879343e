use Rattle.std.proofs.Common.{refl}
use Rattle.refusal.proofs.Loop.{keeps-on}
use Rattle.walks.proofs.Put.{join-less}
use Rattle.card.proofs.acting.join.Goals as goal

pub loop-w-preserved : goal.loop-w-preserved
loop-w-preserved c =
    let e = c.join_turn-w.ensures in
    keeps-on _ _ (λ t. join-less) c.loop-w.invariant c.loop-w-test.true (λ i. record { work = e.0 i; slots = e.1 i }) refl
