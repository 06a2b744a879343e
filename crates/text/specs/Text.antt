-- Texts as bytes. Assumes nothing.
use Rattle.std.specs.Prelude.{ℕ, Bool, List, [], ◌∷◌}
use Rattle.std.specs.Str.{bytes_eq}
use Prim.Native.Char.{code}
use Prim.Native.String.{String, [] as done, ◌∷◌ as ◌before◌}

-- the bytes of a text in ASCII
abbrev pub bytes : String → List ℕ
bytes done = []
bytes (c before s) = code c ∷ bytes s

-- are the two the same bytes?
abbrev pub same : List ℕ → List ℕ → Bool
same a b = bytes_eq a b
