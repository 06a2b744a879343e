use Rattle.std.proofs.Common.{sym, ap, ◌∙◌}
use Rattle.refusal.proofs.Loop.{loop-more}
use Rattle.replay.specs.declared.desk.Desk.{Desk}
use Rattle.replay.specs.Serving.{fed, fed_all}
use Rattle.replay.proofs.Less.{fed-less}
use Rattle.replay.proofs.desk.Desk.feed.Goals as goal

pub loop-self-smaller : goal.loop-self-smaller
loop-self-smaller c = rw c.take.ensures (fed-less c.args.input.now c.loop-self.self c.loop-self-test.true)

pub loop-self-preserved : goal.loop-self-preserved
loop-self-preserved c =
    let input = c.args.input.now in
    ap (fed_all input) c.take.ensures
    ∙ sym (loop-more (λ (x : Desk). x.place.left) (fed input) (fed-less input) c.loop-self.self c.loop-self-test.true)
    ∙ c.loop-self.invariant
