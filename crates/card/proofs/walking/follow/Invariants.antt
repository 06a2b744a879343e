-- What is left of the walk comes to what the whole does.
use Rattle.refusal.proofs.Loop.{Keeps}
use Rattle.rules.specs.Slots.{slot_at}
use Rattle.card.proofs.walking.follow.Given as goal

abbrev pub invariant-loop-w : goal.invariant-loop-w
invariant-loop-w g l =
    let m = g.W.Walk in
    Keeps m.remaining (λ s w. m.onward w (slot_at s (m.next w))) l.fn.slots l.fn.start l.slots l.w

abbrev pub decreases-loop-w : goal.decreases-loop-w
decreases-loop-w g l = g.W.Walk.remaining l.w
