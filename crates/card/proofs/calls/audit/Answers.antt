-- The steps along the tables answer what the rules' test answers.
use Rattle.std.specs.Prelude.{is_some}
use Rattle.std.proofs.Common.{◌∙◌, ap}
use Rattle.audit.proofs.Decided.{audited-is}
use Rattle.card.specs.Lent.{lent}
use Rattle.card.proofs.calls.audit.Goals as goal

pub returns : goal.returns
returns c = c.is_some.ensures ∙ ap is_some c.audit_tables.ensures ∙ audited-is (lent c.args.pairs.now c.args.ends.now c.args.slots.now)
