-- How a number is read, byte by byte: what the digits so far and those that follow say together. Assumes nothing.
use mathlib.Core.Path.{◌≡◌, refl, sym, ap, ◌∙◌}
use mathlib.Core.Bool.{true, false, and-false, true≢false}
use mathlib.Core.List.{List, [], ◌∷◌}
use Prim.Native.Nat.{ℕ, ◌+◌, ◌-◌, ◌*◌, ◌^◌, ◌≤◌, ◌<◌}
use native.Mathlib.Omega.{arith}
use native.Mathlib.Nat.{le_refl, le_trans, suc-ne-zero}
use lib.Dec.{eqb}
use lib.ListN.{length, get_or, drop, drop_of_length-le}
use borrow.Author.Tests.{lt-ltb, le-ltb, eqb-true}
use Rattle.std.specs.Prelude.{Some, None}
use Rattle.text.specs.Number.{digit, digits, value, number_from, number_of}
use Rattle.text.proofs.Parts.{drop_at}

-- more digits make no smaller number
value_grows : (n : ℕ) (bs : List ℕ) → n ≤ value n bs
unfolding value
value_grows n [] = le_refl n
value_grows n (b ∷ bs) = le_trans {n = n} (omega arith) (value_grows (n * 10 + (b - 48)) bs)

from-digit : (n b : ℕ) (bs : List ℕ) → digit b ≡ true → number_from n (b ∷ bs) ≡ number_from (n * 10 + (b - 48)) bs
unfolding digits value
from-digit n b bs h = rw h

from-other : (n b : ℕ) (bs : List ℕ) → digit b ≡ false → number_from n (b ∷ bs) ≡ None
unfolding digits value
from-other n b bs h = rw h

from-large : (n : ℕ) (bs : List ℕ) → 2 ^ 64 ≤ n → number_from n bs ≡ None
from-large n bs h = rw (le-ltb (value n bs) (2 ^ 64) (le_trans h (value_grows n bs)), and-false)

pub number-none : (w : List ℕ) → eqb (length w) 0 ≡ true → None ≡ number_of w
unfolding number_of
number-none [] e = refl
number-none (b ∷ w) e = absurd (suc-ne-zero (length w) (eqb-true _ _ e))

-- after i bytes of w, which say n
pub record Reading (w : List ℕ) (n i : ℕ) : Type 0 where
  pub high : i ≤ length w
  pub small : n < 2 ^ 64
  pub same : number_of w ≡ number_from n (drop i w)

pub reading-start : (w : List ℕ) → eqb (length w) 0 ≡ false → Reading w 0 0
unfolding number_of
reading-start [] h = absurd (true≢false h)
reading-start (b ∷ w) h = record { high = omega arith; small = omega arith; same = refl }

module _ {w : List ℕ} {n i : ℕ} where
  cut : Reading w n i → i < length w → number_of w ≡ number_from n (get_or w i 0 ∷ drop (i + 1) w)
  cut r h = r.same ∙ ap (number_from n) (drop_at w i (get_or w i 0) h refl)

  pub reading-more : {m : ℕ} → Reading w n i → i < length w → digit (get_or w i 0) ≡ true → m ≡ n * 10 + (get_or w i 0 - 48) → m < 2 ^ 64
      → Reading w m (i + 1)
  reading-more r h k e s =
      record { high = omega arith; small = s; same = cut r h ∙ from-digit n (get_or w i 0) (drop (i + 1) w) k ∙ ap (λ (m : ℕ). number_from m (drop (i + 1) w)) (sym e) }

  pub reading-other : Reading w n i → i < length w → digit (get_or w i 0) ≡ false → None ≡ number_of w
  reading-other r h k = sym (cut r h ∙ from-other n (get_or w i 0) (drop (i + 1) w) k)

  pub reading-large : Reading w n i → i < length w → digit (get_or w i 0) ≡ true → 2 ^ 64 ≤ n * 10 + (get_or w i 0 - 48) → None ≡ number_of w
  reading-large r h k s =
      sym (cut r h ∙ from-digit n (get_or w i 0) (drop (i + 1) w) k ∙ from-large (n * 10 + (get_or w i 0 - 48)) (drop (i + 1) w) s)

  pub reading-end : Reading w n i → length w ≤ i → Some n ≡ number_of w
  unfolding digits value
  reading-end r h = sym (r.same ∙ ap (number_from n) (drop_of_length-le w h) ∙ rw (lt-ltb n (2 ^ 64) r.small))
