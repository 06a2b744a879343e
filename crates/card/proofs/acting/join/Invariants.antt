-- What is left of the loop comes to what the whole does.
use Rattle.refusal.proofs.Loop.{Keeps}
use Rattle.walks.specs.Acting.{Joined, join_turn}
use Rattle.card.proofs.acting.join.Given as goal

abbrev pub invariant-loop-w : goal.invariant-loop-w
invariant-loop-w l =
    Keeps (λ (x : Joined). x.work.moving.left) (λ (t : Unit {0}). join_turn) tt (record { work = l.fn.start; slots = l.fn.slots }) tt (record { work = l.w; slots = l.slots })

abbrev pub decreases-loop-w : goal.decreases-loop-w
decreases-loop-w l = l.w.moving.left
