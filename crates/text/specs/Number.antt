-- "A number is decimal digits, at most 2^64 − 1 (leading zeros are fine)."
-- Assumes nothing.
use Rattle.std.specs.Prelude.{ℕ, ◌+◌, ◌-◌, ◌*◌, ◌^◌, Bool, true, ◌&&◌, List, [], ◌∷◌, Option, None, Some, leb, ltb, if◌then◌else◌}

-- `0` to `9`
abbrev pub digit : ℕ → Bool
digit b = leb 48 b && leb b 57

unfoldable pub digits : List ℕ → Bool
digits [] = true
digits (b ∷ bs) = digit b && digits bs

-- what digits say that stand behind those of n
unfoldable pub value : ℕ → List ℕ → ℕ
value n [] = n
value n (b ∷ bs) = value (n * 10 + (b - 48)) bs

abbrev pub number_from : ℕ → List ℕ → Option ℕ
number_from n bs = if digits bs && ltb (value n bs) (2 ^ 64) then Some (value n bs) else None

-- no digits are no number
unfoldable pub number_of : List ℕ → Option ℕ
number_of [] = None
number_of (b ∷ bs) = number_from 0 (b ∷ bs)
