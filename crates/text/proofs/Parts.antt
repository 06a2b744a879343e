-- What is left of a list from a place on. Assumes nothing.
use mathlib.Core.Path.{◌≡◌}
use mathlib.Core.List.{List, ◌∷◌}
use Prim.Native.Nat.{ℕ, ◌+◌, ◌<◌}
use native.Mathlib.Numerals.{add-one}
use lib.ListN.{length, get_or, drop}
use lib.Seq.{drop-cons}

-- the byte there, and what is left after it
pub drop_at : (l : List ℕ) (i b : ℕ) → i < length l → b ≡ get_or l i 0 → drop i l ≡ b ∷ drop (i + 1) l
drop_at l i b h e = rw (add-one, e) (drop-cons l i 0 h)
