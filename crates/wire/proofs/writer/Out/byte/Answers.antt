-- One byte.
use Rattle.std.proofs.Common.{subst}
use Rattle.wire.specs.Inner.Out.{Adds}
use Rattle.wire.proofs.Adding.{one-byte}
use Rattle.wire.proofs.writer.Out.byte.Goals as goal

pub returns : goal.returns
returns c = subst (Adds c.args.self c.put.result) (one-byte c.args.value c.ranges.value.fits) c.put.ensures
