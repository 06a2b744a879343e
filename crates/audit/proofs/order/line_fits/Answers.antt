-- `line_fits` meets its contract.
use Rattle.rules.specs.Passes.Tests.{◌and◌}
use Rattle.std.proofs.Common.{rules}
use Rattle.audit.proofs.order.line_fits.Goals as goal

pub returns-else-h-n : goal.returns-else-h-n
unfolding ◌and◌
returns-else-h-n c = search rules
