-- A loop is x where nothing is left, and the loop from f x where something is, for an f that lowers what is left; and what a loop in code keeps, turn by turn. Assumes nothing.
use Rattle.std.specs.Prelude.{if◌then◌else◌}
use mathlib.Core.Path.{◌≡◌, refl, sym, ap, ◌∙◌}
use mathlib.Core.Bool.{Bool}
use Prim.Native.Nat.{ℕ, zero, suc, ◌≤◌, ◌<◌}
use native.Mathlib.Omega.{arith}
use borrow.Author.Tests.{lt-ltb, le-ltb}
use Rattle.refusal.specs.Loop.{while-of, loop}

module _ {X : Type 0} (left : X → ℕ) (f : X → X) (less : (x : X) → 0 < left x → left (f x) < left x) where
  still : (n : ℕ) (x : X) → left x ≤ 0 → while-of left f n x ≡ x
  still zero x z = refl
  still (suc n) x z = ap (λ (t : Bool). if t then while-of left f n (f x) else x) (le-ltb 0 (left x) z)

  one : (n : ℕ) (x : X) → 0 < left x → while-of left f (suc n) x ≡ while-of left f n (f x)
  one n x l = ap (λ (t : Bool). if t then while-of left f n (f x) else x) (lt-ltb 0 (left x) l)

  enough : (n m : ℕ) (x : X) → left x ≤ n → left x ≤ m → while-of left f n x ≡ while-of left f m x
  enough zero m x l k = sym (still m x l)
  enough (suc n) zero x l k = still (suc n) x k
  enough (suc n) (suc m) x l k = cases (left x) refl (λ p. enough n m (f x) (omega (arith, less x p, l)) (omega (arith, less x p, k)))
    where
      cases : (j : ℕ) → left x ≡ j → (0 < left x → while-of left f n (f x) ≡ while-of left f m (f x)) → while-of left f (suc n) x ≡ while-of left f (suc m) x
      cases zero e h = still (suc n) x (omega (arith, e)) ∙ sym (still (suc m) x (omega (arith, e)))
      cases (suc j) e h = let p : 0 < left x = omega (arith, e) in one n x p ∙ h p ∙ sym (one m x p)

  pub loop-done : (x : X) → left x ≡ 0 → loop left f x ≡ x
  loop-done x z = still (left x) x (omega (arith, z))

  pub loop-more : (x : X) → 0 < left x → loop left f x ≡ loop left f (f x)
  loop-more x l = opened (left x) refl
    where
      opened : (n : ℕ) → left x ≡ n → while-of left f n x ≡ while-of left f (left (f x)) (f x)
      opened zero e = absurd (omega (arith, e, l))
      opened (suc n) e = one n x l ∙ enough n (left (f x)) (f x) (omega (arith, less x l, e)) (omega arith)

-- ---- a loop in code: each turn reads t and leaves it, and makes of x what f says

module _ {T X : Type 0} (left : X → ℕ) (f : T → X → X) where
  -- what is left of the loop comes to what the whole does, and t is what it was
  pub record Keeps (t₀ : T) (x₀ : X) (t : T) (x : X) : Type 0 where
    pub comes : loop left (f t₀) x ≡ loop left (f t₀) x₀
    pub same : t ≡ t₀

  pub keeps-start : (t : T) (x : X) → Keeps t x t x
  keeps-start t x = record { comes = refl; same = refl }

  module _ (less : (t : T) (x : X) → 0 < left x → left (f t x) < left x) where
    pub keeps-on : {t₀ t u : T} {x₀ x y : X} → Keeps t₀ x₀ t x → 0 < left x → y ≡ f t x → u ≡ t → Keeps t₀ x₀ u y
    keeps-on {t₀ = t₀} {x = x} k l e d =
        record {
          comes = ap (loop left (f t₀)) (e ∙ ap (λ (s : T). f s x) k.same) ∙ sym (loop-more left (f t₀) (less t₀) x l) ∙ k.comes;
          same = d ∙ k.same;
        }

    pub keeps-end : {t₀ t : T} {x₀ x : X} → Keeps t₀ x₀ t x → left x ≤ 0 → x ≡ loop left (f t₀) x₀
    keeps-end {t₀ = t₀} {x = x} k z = sym (loop-done left (f t₀) (less t₀) x (omega (arith, z))) ∙ k.comes
