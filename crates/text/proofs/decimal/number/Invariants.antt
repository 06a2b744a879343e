-- The bytes so far say `n`.
use Rattle.text.proofs.Numbers.{Reading}
use Rattle.text.proofs.decimal.number.Given as goal

abbrev pub invariant-loop-b : goal.invariant-loop-b
invariant-loop-b l = Reading l.word l.n l.b-index
