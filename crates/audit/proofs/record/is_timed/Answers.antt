-- `is_timed` meets its contract: the five tests in their order.
use mathlib.Core.Path.{◌∙◌}
use Rattle.std.proofs.Common.{rules}
use Rattle.rules.specs.Passes.Tests.{◌and◌}
use Rattle.audit.proofs.Facts.{timeout-same}
use Rattle.audit.proofs.record.is_timed.Goals as goal

pub returns-then-t-ne0 : goal.returns-then-t-ne0
unfolding ◌and◌
returns-then-t-ne0 c =
    let most = c.timeout-most.ensures.0 ∙ timeout-same c.args.t.settings c.requires in
    search rules

pub returns-else-t-ne0 : goal.returns-else-t-ne0
unfolding ◌and◌
returns-else-t-ne0 c =
    let most = c.timeout-most.ensures.0 ∙ timeout-same c.args.t.settings c.requires in
    search rules

pub returns-else-still-2 : goal.returns-else-still-2
unfolding ◌and◌
returns-else-still-2 c =
    let most = c.timeout-most.ensures.0 ∙ timeout-same c.args.t.settings c.requires in
    search rules
