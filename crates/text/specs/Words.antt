-- "It is words separated by spaces or tabs; a carriage return is a character like any other."
-- Assumes nothing.
use Rattle.std.specs.Prelude.{ℕ, Bool, false, not, ◌||◌, List, [], ◌∷◌, eqb, if◌then◌else◌}

-- a space or a tab
abbrev pub blank : ℕ → Bool
blank b = eqb b 32 || eqb b 9

-- does a word go on here?
abbrev pub goes_on : List ℕ → Bool
goes_on [] = false
goes_on (b ∷ bs) = not (blank b)

-- a byte in front of the first word
abbrev pub onto : ℕ → List (List ℕ) → List (List ℕ)
onto b [] = (b ∷ []) ∷ []
onto b (w ∷ ws) = (b ∷ w) ∷ ws

unfoldable pub words : List ℕ → List (List ℕ)
words [] = []
words (b ∷ bs) = if blank b then words bs else if goes_on bs then onto b (words bs) else (b ∷ []) ∷ words bs
