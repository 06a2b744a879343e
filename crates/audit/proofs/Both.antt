-- Tests that must hold together, as code tries them: the second where the first holds.
use mathlib.Core.Path.{◌≡◌, refl}
use mathlib.Core.Bool.{Bool, true, false}
use Rattle.rules.specs.Passes.Tests.{◌and◌}

pub true_first : (b : Bool) → true and b ≡ b
unfolding ◌and◌
true_first b = refl

pub false_first : (b : Bool) → false and b ≡ false
unfolding ◌and◌
false_first b = refl

pub true_last : (a : Bool) → a and true ≡ a
unfolding ◌and◌
true_last true = refl
true_last false = refl

pub ruleset both = (true_first, false_first, true_last)
