-- What every definition above is written with: one of some tests, one of some numbers, each of a list.
-- Assumes nothing.
use Rattle.std.specs.Prelude.{Bool, false, ◌||◌, List, [], ◌∷◌, ℕ, eqb}

-- one of some tests holds
abbrev pub any_of : List Bool → Bool
any_of [] = false
any_of (t ∷ ts) = t || any_of ts

-- n is one of some numbers
abbrev pub among : ℕ → List ℕ → Bool
among n [] = false
among n (k ∷ ks) = eqb n k || among n ks

-- P holds of each
abbrev pub Each : {A : Type 0} → (A → Type 0) → List A → Type 0
Each P [] = Unit {0}
Each P (x ∷ xs) = P x × Each P xs
