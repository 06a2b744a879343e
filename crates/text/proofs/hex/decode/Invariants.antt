-- The first `i` bytes are in the buffer.
use Rattle.text.proofs.Decoding.{Filling}
use Rattle.text.proofs.hex.decode.Given as goal

abbrev pub invariant-loop-i : goal.invariant-loop-i
invariant-loop-i l = Filling l.word l.initial.out l.out l.i
