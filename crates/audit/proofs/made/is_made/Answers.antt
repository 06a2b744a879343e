-- `is_made` meets its contract.
use Rattle.rules.specs.Passes.Tests.{◌and◌}
use Rattle.rules.specs.Passes.Stage.{same}
use Rattle.std.proofs.Common.{rules}
use Rattle.audit.proofs.made.is_made.Goals as goal

pub returns-then-p-len : goal.returns-then-p-len
unfolding same ◌and◌
returns-then-p-len c = search rules

pub returns-else-p-len : goal.returns-else-p-len
unfolding same ◌and◌
returns-else-p-len c = search rules
