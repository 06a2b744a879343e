-- Two tests together, and lists past their end. Assumes nothing.
use mathlib.Core.Path.{◌≡◌, refl, sym, ◌∙◌}
use mathlib.Core.Bool.{Bool, ◌||◌}
use mathlib.Core.List.{List, [], ◌∷◌}
use Prim.Native.Nat.{ℕ, zero, suc, ◌≤◌}
use native.Mathlib.Omega.{arith}
use lib.ListN.{length, get_or}

-- of two tests that were made before
pub either_is : {r a b x y t : Bool} → r ≡ (a || b) → a ≡ x → b ≡ y → r ≡ t → (x || y) ≡ t
either_is e p q h = (λ i. sym p i || sym q i) ∙ sym e ∙ h

-- past a list's end
pub get_d_past : (xs : List ℕ) (i : ℕ) → length xs ≤ i → get_or xs i 0 ≡ 0
get_d_past [] i l = refl
get_d_past (x ∷ xs) zero l = absurd (omega (arith, l))
get_d_past (x ∷ xs) (suc i) l = get_d_past xs i (omega (arith, l))
