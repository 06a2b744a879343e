-- How numbers and texts are put one after the other. Assumes nothing.
use mathlib.Core.Path.{◌≡◌, refl, ap, ◌∙◌}
use mathlib.Core.List.{List, [], ◌++◌}
use Prim.Native.Nat.{ℕ, ◌+◌, ◌≤◌, ◌<◌}
use native.Mathlib.Omega.{arith}
use native.Mathlib.Numerals.{add-one}
use lib.ListN.{length, get_or, drop}
use Rattle.text.specs.Out.{Out, out, put_all}
use Rattle.text.proofs.Parts.{drop_at}
use Rattle.text.proofs.Putting.{put_then}
use Rattle.answers.specs.Said.{numeral, spaced}
use Rattle.answers.specs.Replied.{joined}

pub spaced-at : (s : List ℕ) (i : ℕ) → i < length s → spaced (drop i s) ≡ numeral (get_or s i 0) ++ spaced (drop (i + 1) s)
unfolding spaced
spaced-at s i h = ap spaced (drop_at s i (get_or s i 0) h refl)

pub spaced-none : spaced [] ≡ []
unfolding spaced
spaced-none = refl

-- ---- texts in a row, of which those up to i are put

pub record Joining (f : ℕ → List ℕ) (n : ℕ) (o : Out) (bs : List ℕ) (to i : ℕ) : Type 0 where
  pub high : i ≤ n
  pub put : out bs to ≡ put_all o (joined f i)

pub joining-start : (f : ℕ → List ℕ) (n : ℕ) (bs : List ℕ) (k : ℕ) → Joining f n (out bs k) bs k 0
unfolding joined put_all
joining-start f n bs k = record { high = omega arith; put = refl }

module _ {f : ℕ → List ℕ} {n : ℕ} {o : Out} {bs : List ℕ} {to i : ℕ} where
  pub joining-more : {bs' : List ℕ} {to' : ℕ} → Joining f n o bs to i → i < n → out bs' to' ≡ put_all (out bs to) (f i)
      → Joining f n o bs' to' (i + 1)
  unfolding joined
  joining-more j h e =
      record {
        high = omega arith;
        put = put_then o (joined f i) (f i) j.put e ∙ rw add-one;
      }
