-- The bytes so far are put.
use Rattle.text.specs.Hex.{lower}
use Rattle.text.specs.Out.{out as Out·out}
use Rattle.text.proofs.Putting.{Putting}
use Rattle.text.proofs.page.put_octets.Given as goal

abbrev pub invariant-loop-b : goal.invariant-loop-b
invariant-loop-b l = Putting lower l.octets (Out·out l.fn.bytes l.at) l.bytes l.to l.b-index
