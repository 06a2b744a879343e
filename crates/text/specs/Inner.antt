-- What the contracts of private functions cite: steps on the way, which nobody has to believe.
-- Assumes nothing.
use Rattle.std.specs.Prelude.{ℕ, Bool, true, List, [], ◌∷◌, Option, None, Some, leb, if◌then◌else◌}
use Rattle.text.specs.declared.Follow.{Follow}
use Rattle.text.specs.declared.Follow.TheVariants.{Numbers, Sizes, Hex}
use Rattle.text.specs.declared.Row.{Row}
use Rattle.text.specs.Text.{same}
use Rattle.text.specs.Line.{Entry, table}

-- the row of the first entry whose name w is
abbrev pub row_in : List Entry → List ℕ → Option Row
row_in [] w = None
row_in (e ∷ es) w = if same w e.name then Some e.row else row_in es w

abbrev pub row_of : List ℕ → Option Row
row_of w = row_in table w

-- the array has room for the numbers
abbrev pub few_args : Follow → Bool
few_args (Numbers n) = leb n 11
few_args (Sizes x y) = true
few_args Hex = true
