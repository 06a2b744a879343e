use Rattle.std.proofs.Common.{refl, ap, ◌∙◌}
use Rattle.refusal.proofs.Loop.{keeps-on}
use Rattle.rules.specs.Slots.{slot_at}
use Rattle.card.proofs.walking.follow.Goals as goal

pub loop-w-preserved : goal.loop-w-preserved
loop-w-preserved g c =
    let m = g.W.Walk in
    let step = c.step-w.ensures ∙ ap (m.onward c.loop-w.w) (c.slot_at.ensures ∙ ap (slot_at c.args.slots.now) c.at.ensures) in
    keeps-on _ _ (λ s w. g.met.W.Walk.less w _) c.loop-w.invariant (rw c.left.ensures at c.loop-w-test.true) step refl
