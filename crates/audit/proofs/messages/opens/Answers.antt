-- `opens` meets its contract.
use native.Mathlib.Numerals.{unary_clauses}
use borrow.Author.Tests.{le-leb}
use Rattle.rules.specs.Passes.Stage.{opens}
use Rattle.audit.proofs.Both.{both}
use Rattle.audit.proofs.messages.opens.Goals as goal

pub returns-then-p-le6 : goal.returns-then-p-le6
unfolding opens
returns-then-p-le6 c =
    simp (
      le-leb _ _ c.if-p-le6.true,
      both,
      c.is_made.ensures,
      c.plus.ensures,
      c.from-op.ensures,
      c.heading-m.ensures,
      c.mtu.ensures.0,
      unary_clauses,
    )
