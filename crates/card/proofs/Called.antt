-- A call that may use all of the buffer that is lent for it is the rules' call.
use mathlib.Core.Path.{◌≡◌, ap, subst, ◌∙◌}
use mathlib.Core.List.{List, []}
use Prim.Native.Nat.{ℕ, min}
use native.Mathlib.Omega.{arith}
use lib.ListN.{length}
use Rattle.rules.specs.declared.Ends.{Ends}
use Rattle.rules.specs.declared.Pair.{Pair}
use Rattle.std.specs.Prelude.{Result}
use Rattle.refusal.specs.declared.Refusal.{Refusal}
use Rattle.rules.specs.declared.Reply.{Reply}
use Rattle.rules.specs.declared.Slot.{Slot}
use Rattle.rules.specs.Slots.{Tables}
use Rattle.engine.specs.declared.Ask.{Ask}
use Rattle.engine.specs.Asked.{lent_of}
use Rattle.engine.specs.Body.{Ran, acted, plan_for, body, ruled}
use Rattle.engine.proofs.Called.{body_is}
use Rattle.card.specs.declared.Limits.{Limits}
use Rattle.card.specs.Inner.{plan_with, body_in, Runs, with_numbers, Leaves}

pub min-same : (n : ℕ) → min n n ≡ n
min-same n = omega arith

module _ (r : Limits) (at : ℕ) (ask : Ask) (t : Tables) (done out : List ℕ) where
  abbrev used : ℕ
  used = lent_of ask (min r.numbers (length done)) (min r.bytes (length out))

  pub ran-is : used ≡ lent_of ask (length done) (length out) → body_in r at ask t done out ≡ ruled at ask t done out
  unfolding body_in body plan_for
  ran-is e = ap (λ (n : ℕ). acted at t done out (plan_with at ask t n)) e ∙ body_is at ask t done out

-- what a call by its own name leaves
pub runs-ruled : (r : Limits) (at : ℕ) (ask : Ask) (t : Tables) (done out : List ℕ) → used r at ask t done out ≡ lent_of ask (length done) (length out)
    → {y : Result Reply Refusal} {ps : List Pair} {e : Ends} {ss : List Slot} {ns bs : List ℕ}
    → Runs (body_in r at ask t done out) y ps e ss ns bs → Runs (ruled at ask t done out) y ps e ss ns bs
runs-ruled r at ask t done out enough {y} {ps} {e} {ss} {ns} {bs} = subst (λ (x : Ran). Runs x y ps e ss ns bs) (ran-is r at ask t done out enough)

-- and one that is lent numbers alone
pub numbers-ruled : (at : ℕ) (ask : Ask) (t : Tables) (done : List ℕ) → used (record { numbers = length done; bytes = 0 }) at ask t done [] ≡ lent_of ask (length done) 0
    → {y : Result Reply Refusal} {ps : List Pair} {e : Ends} {ss : List Slot} {ns : List ℕ}
    → Leaves (with_numbers at ask t done) y ps e ss ns → Leaves (ruled at ask t done []) y ps e ss ns
numbers-ruled at ask t done enough {y} {ps} {e} {ss} {ns} =
    subst (λ (x : Ran). Leaves x y ps e ss ns) (ran-is (record { numbers = length done; bytes = 0 }) at ask t done [] enough)
