-- The digits so far stand at the row's end.
use Rattle.text.proofs.Spelling.{Spelled}
use Rattle.text.proofs.page.spell.Given as goal

abbrev pub invariant-loop-i : goal.invariant-loop-i
invariant-loop-i l = Spelled l.fn.n l.i l.rest l.digits
