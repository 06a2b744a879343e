-- `first_fits` meets its contract.
use Rattle.rules.specs.Passes.Tests.{◌and◌}
use Rattle.std.proofs.Common.{rules}
use Rattle.audit.proofs.order.first_fits.Goals as goal

pub returns-else-gone-eq0 : goal.returns-else-gone-eq0
unfolding ◌and◌
returns-else-gone-eq0 c = search rules
