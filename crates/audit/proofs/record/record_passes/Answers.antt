-- `record_passes` meets its contract.
use Rattle.rules.specs.Passes.Tests.{◌and◌}
use Rattle.rules.specs.Passes.Record.{record_passes}
use Rattle.std.proofs.Common.{rules, arith}
use Rattle.std.proofs.lemmas.Grind.{common_steps}
use Rattle.audit.proofs.record.record_passes.Goals as goal

pub returns-in-Ok-Closed : goal.returns-in-Ok-Closed
unfolding record_passes ◌and◌
returns-in-Ok-Closed c = search rules

pub returns-else-is_bounded : goal.returns-else-is_bounded
unfolding record_passes ◌and◌
returns-else-is_bounded c = search rules

pub returns-then-is_bounded-2 : goal.returns-then-is_bounded-2
unfolding record_passes ◌and◌
returns-then-is_bounded-2 c = search rules

pub returns-in-Err : goal.returns-in-Err
unfolding record_passes ◌and◌
returns-in-Err c = grind (arith, common_steps)
