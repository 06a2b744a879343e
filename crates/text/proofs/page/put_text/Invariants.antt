-- The bytes so far are put.
use Rattle.std.proofs.Common.{ℕ, List}
use Rattle.text.specs.Out.{out as Out·out}
use Rattle.text.proofs.Putting.{Putting}
use Rattle.text.proofs.page.put_text.Given as goal

abbrev pub invariant-loop-b : goal.invariant-loop-b
invariant-loop-b l = Putting (λ (x : List ℕ). x) l.text (Out·out l.fn.bytes l.at) l.bytes l.to l.b-index
