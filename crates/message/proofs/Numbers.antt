-- Facts on numbers that the code needs.
use mathlib.Core.Path.{◌≡◌, sym, ◌∙◌}
use mathlib.Core.Bool.{Bool, false, ◌&&◌}
use Prim.Native.Nat.{ℕ, suc, ◌+◌, ◌-◌, ◌*◌, ◌/◌, ◌%◌, ◌^◌, ◌≤◌, ◌<◌}
use native.Mathlib.Omega.{arith}
use native.Mathlib.Nat.{mul-le-mul, le-div_iff_mul-le, div-lt_iff_lt-mul}
use lib.Dec.{ltb}
use borrow.Author.Tests.{ltb-true, ltb-false, lt-ltb, le-ltb}
use lib.Pow.{pow_mono, pow-lt, pow-add, shl_exact}
use Rattle.refusal.proofs.Cases.{by-test}

-- ---- a shift by a code that is capped runs over no width

pub record Shifted (j w most k : ℕ) : Type 0 where
  pub exact : (2 ^ j * 2 ^ k) % 2 ^ w ≡ 2 ^ j * 2 ^ k
  pub is : 2 ^ j * 2 ^ k ≡ 2 ^ (j + k)
  pub low : 2 ^ j ≤ 2 ^ (j + k)
  pub high : 2 ^ (j + k) ≤ 2 ^ (j + most)

pub shifted : (j w most k : ℕ) → j + most < w → k ≤ most → Shifted j w most k
shifted j w most k h l =
    record {
      exact = shl_exact (suc j) k w (pow-lt (omega arith)) (omega arith);
      is = sym (pow-add 2 j k);
      low = pow_mono (omega arith);
      high = pow_mono (omega arith);
    }

-- ---- products and quotients

pub small_product : (a b : ℕ) → a < 2 ^ 32 → b ≤ 4096 → a * b ≤ 17592186040320
small_product a b h k =
    let e : a * b ≤ 4294967295 * 4096 = mul-le-mul (let q : a ≤ 4294967295 = omega arith in q) k in
    omega (arith, e)

pub record Parts (mtu len : ℕ) : Type 0 where
  pub low : 1 ≤ (len + (mtu - 1)) / mtu
  pub high : (len + (mtu - 1)) / mtu ≤ 33554432

-- so many packets of at least 128 bytes
pub parts-of : (mtu len : ℕ) → 128 ≤ mtu → 0 < len → len < 2 ^ 32 → Parts mtu len
parts-of mtu len h k l =
    let pos : 0 < mtu = omega arith in
    let most : (len + (mtu - 1)) / mtu < 33554433 = (div-lt_iff_lt-mul pos).1 (omega arith) in
    record { low = (le-div_iff_mul-le pos).1 (omega arith); high = omega (arith, most) }

-- ---- sums that run past a width

pub past_is : (w a l : ℕ) → l ≤ w → ltb (w - l) a ≡ ltb w (a + l)
past_is w a l k =
    by-test (ltb w (a + l))
    (λ t. lt-ltb (w - l) a (omega (arith, ltb-true w (a + l) t)) ∙ sym t)
    (λ t. le-ltb (w - l) a (omega (arith, ltb-false w (a + l) t)) ∙ sym t)

pub reach-none : (k l : ℕ) (past : Bool) → l ≡ 0 → false ≡ (ltb 0 k && ltb 0 l && past)
reach-none k l past e = by-test (ltb 0 k) (λ t. rw (t, e)) (λ t. rw t)
