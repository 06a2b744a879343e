-- Facts on a word's bits that the code needs.
use mathlib.Core.Path.{◌≡◌, sym, ap, ◌∙◌}
use Prim.Native.Nat.{ℕ, suc, ◌+◌, ◌-◌, ◌*◌, ◌/◌, ◌%◌, ◌^◌, ◌≤◌, ◌<◌}
use native.Mathlib.Omega.{arith}
use native.Mathlib.Nat.{mul-le-mul_right, mod-lt}
use lib.Pow.{pow_pos, pow-add, shl_exact, shr_lt, split}

pub shift_one : (b : ℕ) → b < 64 → (1 * 2 ^ b) % 18446744073709551616 ≡ 2 ^ b
shift_one b h =
    let e : (1 * 2 ^ b) % 2 ^ 64 ≡ 1 * 2 ^ b = shl_exact 1 b 64 (let l : 1 < 2 ^ 1 = omega arith in l) (omega arith) in
    e ∙ omega arith

-- a bit that is 0 has room
pub bit-room : (w b : ℕ) → w < 18446744073709551616 → b < 64 → w / 2 ^ b % 2 ≡ 0 → w + 2 ^ b < 18446744073709551616
bit-room w b h k e =
    let whole : 2 ^ suc (63 - b) * 2 ^ b ≡ 18446744073709551616 = sym (pow-add 2 (suc (63 - b)) b) ∙ ap (λ (x : ℕ). 2 ^ x) size in
    let low : w / 2 ^ b < 2 ^ suc (63 - b) = shr_lt (suc (63 - b)) b (rw size h) in
    let two : w / 2 ^ b + 2 ≤ 2 ^ suc (63 - b) = omega (arith, low, e) in
    let most : (w / 2 ^ b + 2) * 2 ^ b ≤ 2 ^ suc (63 - b) * 2 ^ b = mul-le-mul_right (2 ^ b) two in
    omega (arith, split w b, mod-lt w (pow_pos b), most, whole)
  where
    size : suc (63 - b) + b ≡ 64
    size = omega arith
