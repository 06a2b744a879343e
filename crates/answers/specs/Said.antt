-- A line of an answer: a word and numbers. Assumes nothing.
use Rattle.std.specs.Prelude.{ℕ, List, [], ◌∷◌, ◌++◌}
use Prim.Native.String.{String}
use Rattle.text.specs.Text.{bytes}
use Rattle.text.specs.Out.{decimal}

-- a number with a space before it
abbrev pub numeral : ℕ → List ℕ
numeral n = bytes " " ++ decimal n

unfoldable pub spaced : List ℕ → List ℕ
spaced [] = []
spaced (n ∷ ns) = numeral n ++ spaced ns

abbrev pub line : List ℕ → List ℕ → List ℕ
line w ns = w ++ spaced ns ++ bytes "\n"

abbrev pub said : String → List ℕ → List ℕ
said s ns = line (bytes s) ns

-- "Any refusal is `refused N`, and only that."
abbrev pub refused_text : ℕ → List ℕ
refused_text n = said "refused" (n ∷ [])

-- "A line that is not read changes nothing and writes `unread L`"
abbrev pub unread_text : ℕ → List ℕ
unread_text n = said "unread" (n ∷ [])
