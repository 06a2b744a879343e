-- A loop that goes on while something is left: `loop left f x` applies f as long as left is not 0, and at most left x times. Assumes nothing.
use Rattle.std.specs.Prelude.{ℕ, zero, suc, ltb, if◌then◌else◌}

abbrev pub while-of : {X : Type 0} → (X → ℕ) → (X → X) → ℕ → X → X
while-of left f zero x = x
while-of left f (suc n) x = if ltb 0 (left x) then while-of left f n (f x) else x

abbrev pub loop : {X : Type 0} → (X → ℕ) → (X → X) → X → X
loop left f x = while-of left f (left x) x
