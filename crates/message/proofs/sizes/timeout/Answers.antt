-- `timeout` meets its contract: a capped code shifts over no width.
use mathlib.Core.Path.{refl}
use Prim.Native.Nat.{min}
use native.Mathlib.Nat.{min-le_right}
use native.Mathlib.Omega.{arith}
use Rattle.message.specs.Capped.{capped}
use Rattle.message.proofs.Numbers.{shifted}
use Rattle.message.proofs.sizes.timeout.Goals as goal

pub returns : goal.returns
unfolding capped
returns c =
    let code = min c.args.s.timeout 31 in
    let e = shifted 12 64 31 code (omega arith) (min-le_right c.args.s.timeout 31) in
    rw (c.min.ensures, e.exact) (refl, rw e.is e.high)
