-- What is left of the loop comes to what the whole does.
use Rattle.refusal.proofs.Loop.{Keeps}
use Rattle.walks.specs.Acting.{Left, leave_turn}
use Rattle.card.proofs.acting.leave.Given as goal

abbrev pub invariant-loop-w : goal.invariant-loop-w
invariant-loop-w l =
    Keeps (λ (x : Left). x.work.moving.left) (λ (t : Unit {0}). leave_turn) tt (record { work = l.fn.start; slots = l.fn.slots; done = l.fn.done }) tt (record { work = l.w; slots = l.slots; done = l.done })

abbrev pub decreases-loop-w : goal.decreases-loop-w
decreases-loop-w l = l.w.moving.left
