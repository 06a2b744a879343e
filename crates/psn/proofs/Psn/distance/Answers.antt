-- Taking both remainders first changes nothing.
use Rattle.std.proofs.Common.{arith}
use Rattle.psn.specs.Psn.{distance}
use Rattle.psn.proofs.Psn.distance.Goals as goal

pub returns : goal.returns
unfolding distance
returns c = omega arith
