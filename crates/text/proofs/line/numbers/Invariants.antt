-- `i` numbers are read, and the words of `rest` are left.
use Rattle.text.specs.Words.{words}
use Rattle.text.proofs.Asking.{Gathered}
use Rattle.text.proofs.line.numbers.Given as goal

abbrev pub invariant-loop-i : goal.invariant-loop-i
invariant-loop-i l = Gathered (words l.line) l.count (words l.rest) l.i l.args
