-- "Refusal numbers": a table of rows `test gives refusal`, of which the first that holds is given.
-- Assumes nothing.
use Rattle.std.specs.Prelude.{Bool, List, [], ◌∷◌, Option, None, Some, if◌then◌else◌}
use Rattle.refusal.specs.declared.Refusal.{Refusal}

infix 80 ◌gives◌
pub record Row : Type 0 where
  pub holds : Bool
  pub refusal : Refusal

abbrev pub ◌gives◌ : Bool → Refusal → Row
t gives r = record { holds = t; refusal = r }

-- the refusal of the first row that holds, if one does
abbrev pub first_given : List Row → Option Refusal
first_given [] = None
first_given (l ∷ ls) = if l.holds then Some l.refusal else first_given ls
