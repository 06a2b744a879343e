use Rattle.std.proofs.Common.{sym, ◌∙◌}
use Rattle.replay.proofs.Listing.{listed-more, listed-end}
use Rattle.replay.proofs.Text.{listed-is}
use Rattle.replay.proofs.lists.put_items.Goals as goal

pub loop-preserved : goal.loop-preserved
loop-preserved c =
    record {
      same = c.put_item.ensures.same ∙ c.loop.invariant.same;
      put = listed-more _ _ _ _ c.loop-test.true c.slot_at-s.ensures c.put_item.ensures.after ∙ c.loop.invariant.put;
    }

pub returns-clause-after : goal.returns-clause-after
returns-clause-after c = sym (listed-end _ _ _ _ c.loop-test.false) ∙ c.loop.invariant.put ∙ listed-is _ _ _ _ _
