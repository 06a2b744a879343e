-- Filled with nothing.
use Rattle.std.proofs.Common.{refl}
use Rattle.wire.specs.Inner.Out.{filled}
use Rattle.wire.proofs.writer.Out.new.Goals as goal

pub returns : goal.returns
unfolding filled
returns c = refl
