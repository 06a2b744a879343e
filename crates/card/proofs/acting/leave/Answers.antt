use Rattle.std.proofs.Common.{refl}
use Rattle.refusal.proofs.Loop.{keeps-on}
use Rattle.walks.proofs.Kept.{leave-less}
use Rattle.card.proofs.acting.leave.Goals as goal

pub loop-w-preserved : goal.loop-w-preserved
loop-w-preserved c =
    let e = c.leave_turn-w.ensures in
    keeps-on _ _ (λ t. leave-less) c.loop-w.invariant c.loop-w-test.true (λ i. record { work = e.0 i; slots = e.1.0 i; done = e.1.1 i }) refl
