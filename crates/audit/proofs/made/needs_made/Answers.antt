-- `needs_made` meets its contract.
use Rattle.rules.specs.Passes.Tests.{◌and◌}
use Rattle.std.proofs.Common.{rules}
use Rattle.audit.proofs.made.needs_made.Goals as goal

pub returns-then-p-total : goal.returns-then-p-total
unfolding ◌and◌
returns-then-p-total c = search rules

pub returns-else-p-total : goal.returns-else-p-total
unfolding ◌and◌
returns-else-p-total c = search rules
