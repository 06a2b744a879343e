-- A test over all the numbers below one, computed once. Assumes nothing.
use mathlib.Core.Path.{◌≡◌, subst⁻¹}
use mathlib.Core.Bool.{Bool, true, ◌&&◌}
use Prim.Native.Nat.{ℕ, zero, suc, ◌<◌}
use native.Mathlib.Nat.{not-suc-le-zero}
use native.Mathlib.Omega.{arith}
use native.Mathlib.Decide.{dec_lt}
use Rattle.refusal.proofs.Cases.{and_left, and_right}

abbrev pub every_below : (ℕ → Bool) → ℕ → Bool
every_below f zero = true
every_below f (suc n) = f n && every_below f n

-- it holds at each of them
pub below-every : (f : ℕ → Bool) (n : ℕ) → every_below f n ≡ true → (k : ℕ) → k < n → f k ≡ true
below-every f zero h k l = absurd (not-suc-le-zero l)
below-every f (suc n) h k l = go (below-every f n (and_right (f n) (every_below f n) h) k) (dec_lt k n)
  where
    go : (k < n → f k ≡ true) → Dec (k < n) → f k ≡ true
    go ih (yes m) = ih m
    go ih (no m) =
        let last : k ≡ n = omega arith in
        subst⁻¹ (λ (j : ℕ). f j ≡ true) last (and_left (f n) (every_below f n) h)
