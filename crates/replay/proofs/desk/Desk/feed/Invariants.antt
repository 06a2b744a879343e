-- What is left of the bytes comes to what all of them do.
use Rattle.std.proofs.Common.{◌≡◌}
use Rattle.replay.specs.Serving.{fed_all}
use Rattle.replay.proofs.desk.Desk.feed.Given as goal

abbrev pub invariant-loop-self : goal.invariant-loop-self
invariant-loop-self l = fed_all l.input l.self ≡ fed_all l.input l.initial.self

abbrev pub decreases-loop-self : goal.decreases-loop-self
decreases-loop-self l = l.self.place.left
