-- What is left of the loop comes to what the whole does, and no record is written.
use Rattle.std.proofs.Common.{List}
use Rattle.refusal.proofs.Loop.{Keeps}
use Rattle.rules.specs.declared.Pair.{Pair}
use Rattle.rules.specs.declared.Slot.{Slot}
use Rattle.audit.specs.declared.Auditing.{Auditing}
use Rattle.audit.specs.Loops as Loops
use Rattle.card.proofs.auditing.audit_pairs.Given as goal

abbrev pub invariant-loop-v : goal.invariant-loop-v
invariant-loop-v l =
    Keeps (λ (x : Auditing). x.left) (λ (t : List Pair × List Slot). Loops.audit_turn t.0 t.1) (l.fn.pairs, l.fn.slots) l.fn.start (l.pairs, l.slots) l.v

abbrev pub decreases-loop-v : goal.decreases-loop-v
decreases-loop-v l = l.v.left
