-- Tests that must hold together. Assumes nothing.
use Rattle.std.specs.Prelude.{Bool, true, ◌&&◌, List, [], ◌∷◌}

infixr 10 ◌and◌
-- both tests: shut, so that a proof takes it apart by name
unfoldable pub ◌and◌ : Bool → Bool → Bool
a and b = a && b

-- all of some tests hold
abbrev pub all_of : List Bool → Bool
all_of [] = true
all_of (t ∷ ts) = t and all_of ts
