-- `inner` meets its contract.
use Rattle.rules.specs.Passes.Stage.{goes_on}
use Rattle.message.specs.Capped.{capped}
use Rattle.rules.proofs.Passes.Tests.{both}
use Prim.Native.Nat.{suc}
use native.Mathlib.Omega.{arith}
use mathlib.Core.Path.{sym, ◌∙◌}
use borrow.Author.Tests.{ltb-true}
use Rattle.audit.proofs.messages.inner.Goals as goal

pub more-requires : goal.more-requires
unfolding goes_on capped
more-requires c =
    let a = c.args in
    omega (arith, ltb-true (suc a.w.count) a.s.ceiling (both (sym c.goes_on.ensures ∙ c.if-goes_on.true)).1)
