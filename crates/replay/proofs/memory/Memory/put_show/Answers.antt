use borrow.Author.Tests.{le-ltb}
use Rattle.replay.proofs.Rest.{no_pair}
use Rattle.replay.proofs.memory.Memory.put_show.Goals as goal

pub returns-then-pair-ge-PAIRS-clause-after : goal.returns-then-pair-ge-PAIRS-clause-after
returns-then-pair-ge-PAIRS-clause-after c = rw (le-ltb c.args.pair 64 c.if-pair-ge-PAIRS.true) (no_pair _ _ c.put_reply.ensures.after)
