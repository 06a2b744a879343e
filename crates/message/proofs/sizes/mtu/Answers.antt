-- `mtu` meets its contract: a capped code shifts over no width.
use mathlib.Core.Path.{refl}
use Prim.Native.Nat.{min}
use native.Mathlib.Nat.{min-le_right}
use native.Mathlib.Omega.{arith}
use Rattle.message.specs.Capped.{capped}
use Rattle.message.proofs.Numbers.{shifted}
use Rattle.message.proofs.sizes.mtu.Goals as goal

pub returns : goal.returns
unfolding capped
returns c =
    let code = min c.args.s.pmtu 5 in
    let e = shifted 7 32 5 code (omega arith) (min-le_right c.args.s.pmtu 5) in
    rw (c.min.ensures, e.exact, e.is) (refl, e.low, e.high)
