use Rattle.std.proofs.Common.{refl, ◌∙◌}
use Rattle.answers.proofs.Saying.{joining-start, joining-more}
use Rattle.answers.proofs.buffers.put_items.Goals as goal

pub loop-i-init : goal.loop-i-init
loop-i-init g c = record { same = refl; long = refl; put = joining-start _ _ _ _ }

pub loop-i-preserved : goal.loop-i-preserved
loop-i-preserved g c =
    record {
      same = c.put_item.ensures.same ∙ c.loop-i.invariant.same;
      long = c.put_item.ensures.long ∙ c.loop-i.invariant.long;
      put = joining-more c.loop-i.invariant.put c.loop-i-test.true c.put_item.ensures.after;
    }
