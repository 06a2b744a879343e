-- `make` meets its contract: an address and an offset of their widths are not cut.
use mathlib.Core.Path.{◌≡◌}
use Prim.Native.Nat.{◌%◌, ◌^◌}
use native.Mathlib.Omega.{arith}
use Rattle.message.specs.Capped.{cut}
use Rattle.std.proofs.Common.{rules}
use Rattle.message.proofs.places.make.Goals as goal

pub returns-then-has_immediate : goal.returns-then-has_immediate
unfolding cut
returns-then-has_immediate c =
    let offset : c.args.offset % 2 ^ 32 ≡ c.args.offset = omega arith in
    search rules

pub returns-else-has_immediate : goal.returns-else-has_immediate
unfolding cut
returns-else-has_immediate c =
    let offset : c.args.offset % 2 ^ 32 ≡ c.args.offset = omega arith in
    search rules
