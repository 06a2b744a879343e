-- The loops over the tables: what a turn does to what is left to do.
use Rattle.std.specs.Prelude.{Option}
use mathlib.Core.Path.{◌≡◌, refl, sym, ap, ◌∙◌}
use mathlib.Core.List.{List, [], ◌∷◌, map}
use Prim.Native.Nat.{ℕ, zero, suc, ◌-◌, ◌<◌}
use native.Mathlib.Nat.{not-suc-le-zero, le_of_suc-le-suc}
use native.Mathlib.Omega.{arith}
use lib.ListN.{length, drop}
use Rattle.rules.specs.declared.Standing.{Standing}
use Rattle.rules.specs.declared.Pair.{Pair}
use Rattle.rules.specs.declared.Slot.{Slot}
use Rattle.rules.specs.declared.carried.Trail.{Trail}
use Rattle.rules.specs.declared.carried.Walk.{Walk}
use Rattle.rules.specs.declared.carried.Tally.{Tally}
use Rattle.rules.specs.Slots.{slot_at, pair_at}
use Rattle.rules.specs.Passes.Links.{trail_step, trailed}
use Rattle.rules.specs.Passes.Queue.{step, walked}
use Rattle.rules.specs.Passes.Tables.{Entry, tally_step, tallied}

-- all pairs: pair p is taken in, and those after it are left
module _ (slots : ℕ) (f : Pair → Entry) where
  pub tally-turn : (t : Option Tally) (ps : List Pair) (p : ℕ) → p < length ps
      → tallied slots t (map f (drop p ps)) ≡ tallied slots (tally_step slots t (f (pair_at ps p))) (map f (drop (suc p) ps))
  unfolding pair_at
  tally-turn t [] p h = absurd (not-suc-le-zero h)
  tally-turn t (x ∷ ps) zero h = refl
  tally-turn t (x ∷ ps) (suc p) h = tally-turn t ps p (le_of_suc-le-suc h)

  pub tally-last : (t : Option Tally) (ps : List Pair) → tallied slots t (map f (drop (length ps) ps)) ≡ t
  tally-last t [] = refl
  tally-last t (x ∷ ps) = tally-last t ps

-- one queue: a slot is looked at, and one fewer is left; the table's length is a number
module _ (n : ℕ) (t : Standing) (s : List Slot) (size : length s ≡ n) where
  pub turn : (w w' : Walk) (x : Slot) (k : ℕ) (end : Walk) → 0 < k → x ≡ slot_at s w.trail.at → w' ≡ step n t w x → walked t s w k ≡ end → walked t s w' (k - 1) ≡ end
  turn w w' x zero end h e f g = absurd (not-suc-le-zero h)
  turn w w' x (suc k) end h e f g =
      let one : suc k - 1 ≡ k = omega arith in
      rw one (ap (λ (v : Walk). walked t s v k) (f ∙ (λ j. step (sym size j) t w (e j))) ∙ g)

-- the free queue's links
module _ (n : ℕ) (s : List Slot) (size : length s ≡ n) where
  pub free-turn : (w w' : Trail) (x : Slot) (k : ℕ) (end : Trail) → 0 < k → x ≡ slot_at s w.at → w' ≡ trail_step n w x → trailed s w k ≡ end → trailed s w' (k - 1) ≡ end
  free-turn w w' x zero end h e f g = absurd (not-suc-le-zero h)
  free-turn w w' x (suc k) end h e f g =
      let one : suc k - 1 ≡ k = omega arith in
      rw one (ap (λ (v : Trail). trailed s v k) (f ∙ (λ j. trail_step (sym size j) w (e j))) ∙ g)
