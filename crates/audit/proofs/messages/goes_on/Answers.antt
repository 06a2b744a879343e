-- `goes_on` meets its contract.
use mathlib.Core.Path.{◌≡◌, sym, ◌∙◌}
use mathlib.Core.Bool.{true}
use Prim.Native.Nat.{suc, ◌+◌}
use native.Mathlib.Omega.{arith}
use lib.Dec.{ltb}
use Rattle.rules.specs.Passes.Tests.{◌and◌}
use Rattle.rules.specs.Passes.Stage.{same, middle, goes_on}
use Rattle.message.specs.Capped.{capped}
use Rattle.audit.proofs.Opcodes.{no_middle}
use Rattle.audit.proofs.messages.goes_on.Goals as goal

pub returns-then-from-op : goal.returns-then-from-op
returns-then-from-op c = no_middle (capped c.args.s) c.args.w c.args.p (rw (c.from.ensures, c.from-2.ensures) at c.if-from-op.true)

pub returns-then-is_made : goal.returns-then-is_made
unfolding goes_on capped ◌and◌
returns-then-is_made c =
    let a = c.args in
    let here : same a.p (middle (capped a.s) a.w) ≡ true =
    rw (c.plus.ensures, c.post_of-m.ensures, c.from.ensures, c.from-3.ensures, c.from-4.ensures, c.mtu-size.ensures.0) at (sym c.is_made.ensures ∙ c.if-is_made.true) in
    let next : a.w.count + 1 ≡ suc a.w.count = omega arith in
    rw (c.from-then-is_made.ensures, c.from-then-is_made-2.ensures, next) (λ j. sym here j and ltb (suc a.w.count) a.s.ceiling)
