-- What is left of the loop comes to what the whole does.
use Rattle.refusal.proofs.Loop.{Keeps}
use Rattle.walks.specs.Acting.{Emitted, emit_turn}
use Rattle.card.proofs.acting.emit.Given as goal

abbrev pub invariant-loop-w : goal.invariant-loop-w
invariant-loop-w l =
    Keeps (λ (x : Emitted). x.work.left) emit_turn l.fn.slots (record { work = l.fn.start; out = l.fn.out }) l.slots (record { work = l.w; out = l.out })

abbrev pub decreases-loop-w : goal.decreases-loop-w
decreases-loop-w l = l.w.left
