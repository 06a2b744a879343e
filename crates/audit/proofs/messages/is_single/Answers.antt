-- `is_single` meets its contract.
use mathlib.Core.Path.{sym, ◌∙◌}
use borrow.Author.Tests.{eqb-true}
use Rattle.rules.specs.Message.{read_request}
use Rattle.rules.specs.Passes.Stage.{single}
use Rattle.message.specs.Capped.{capped}
use Rattle.audit.proofs.Both.{both}
use Rattle.audit.proofs.Opcodes.{request-is, no-single}
use Rattle.audit.proofs.messages.is_single.Goals as goal

pub returns-then-allowed_to : goal.returns-then-allowed_to
unfolding single
returns-then-allowed_to c =
    let read = sym c.is_read.ensures ∙ c.if-is_read.true in
    simp (
      c.is_request.ensures,
      request-is c.args.p (eqb-true c.args.p.opcode read_request read),
      ← c.alone.ensures,
      sym c.allowed_to.ensures ∙ c.if-allowed_to.true,
      read,
      both,
    )

pub returns-then-p-lt4 : goal.returns-then-p-lt4
returns-then-p-lt4 c = no-single (capped c.args.s) c.args.p (sym c.is_read.ensures ∙ c.if-is_read.false) c.if-p-lt4.true
