-- A set of numbers as words of 64 bits: putting a number in adds it and changes nothing else.
use mathlib.Core.Path.{◌≡◌, refl, sym, ap, ◌∙◌}
use mathlib.Core.Logic.{◌≢◌}
use mathlib.Core.Bool.{true, false}
use mathlib.Core.List.{List}
use Prim.Native.Nat.{ℕ, zero, suc, ◌+◌, ◌-◌, ◌*◌, ◌/◌, ◌%◌, ◌^◌, ◌≤◌, ◌<◌}
use native.Mathlib.Omega.{arith}
use native.Mathlib.Nat.{add-div_right, add-mul-div_left, div-div-eq-div-mul, pow-suc, zero-div}
use lib.Pow.{pow_pos, pow-add}
use lib.Dec.{eqb, ltb}
use borrow.Author.Tests.{ltb-true, ltb-false, eqb-true, eqb-false, eq-eqb}
use lib.ListN.{length, get_or, replicate, length-set}
use lib.Seq.{get_or-set_same, get_or-set_other}
use Rattle.rules.specs.Passes.Tables.{has, put, none_of}
use Rattle.refusal.proofs.Cases.{by-test}

-- ---- one word

module _ (w b : ℕ) (off : w / 2 ^ b % 2 ≡ 0) where
  at_same : (w + 2 ^ b) / 2 ^ b % 2 ≡ 1
  at_same = omega (arith, add-div_right w (pow_pos b))

  at_low : (c d : ℕ) → b ≡ c + suc d → (w + 2 ^ b) / 2 ^ c % 2 ≡ w / 2 ^ c % 2
  at_low c d e =
      let p : 2 ^ b ≡ 2 ^ c * 2 ^ suc d = ap (λ (k : ℕ). 2 ^ k) e ∙ pow-add 2 c (suc d) in
      let q : (w + 2 ^ b) / 2 ^ c ≡ w / 2 ^ c + 2 ^ suc d = ap (λ (x : ℕ). (w + x) / 2 ^ c) p ∙ add-mul-div_left w (2 ^ suc d) (pow_pos c) in
      omega (arith, q)

  half_up : (w + 2 ^ b) / 2 ^ b / 2 ≡ w / 2 ^ b / 2
  half_up = omega (arith, add-div_right w (pow_pos b))

  at_high : (c d : ℕ) → c ≡ suc b + d → (w + 2 ^ b) / 2 ^ c % 2 ≡ w / 2 ^ c % 2
  at_high c d e = ap (λ (x : ℕ). x % 2) (parts (w + 2 ^ b) ∙ ap (λ (x : ℕ). x / 2 ^ d) half_up ∙ sym (parts w))
    where
      power : 2 ^ c ≡ 2 ^ b * 2 * 2 ^ d
      power = ap (λ (k : ℕ). 2 ^ k) e ∙ pow-add 2 (suc b) d ∙ ap (λ (x : ℕ). x * 2 ^ d) (pow-suc 2 b)

      parts : (x : ℕ) → x / 2 ^ c ≡ x / 2 ^ b / 2 / 2 ^ d
      parts x =
          ap (λ (y : ℕ). x / y) power ∙ sym (div-div-eq-div-mul x (2 ^ b * 2) (2 ^ d)) ∙ ap (λ (y : ℕ). y / 2 ^ d) (sym (div-div-eq-div-mul x (2 ^ b) 2))

  at_other : (c : ℕ) → c ≢ b → (w + 2 ^ b) / 2 ^ c % 2 ≡ w / 2 ^ c % 2
  at_other c d =
      by-test (ltb c b)
      (λ t. at_low c (b - suc c) (omega (arith, ltb-true c b t)))
      (λ t. at_high c (c - suc b) (omega (arith, ltb-false c b t, d)))

-- ---- the set

pub has-put-same : (m : List ℕ) (i : ℕ) → i < 64 * length m → has m i ≡ false → has (put m i) i ≡ true
unfolding has put
has-put-same m i h e =
    rw (get_or-set_same m (i / 64) (get_or m (i / 64) 0 + 2 ^ (i % 64)) 0 (omega arith))
    (eq-eqb ((get_or m (i / 64) 0 + 2 ^ (i % 64)) / 2 ^ (i % 64) % 2) 1
    (at_same (get_or m (i / 64) 0) (i % 64) (omega (arith, eqb-false (get_or m (i / 64) 0 / 2 ^ (i % 64) % 2) 1 e))))

pub has-put-other : (m : List ℕ) (i j : ℕ) → i < 64 * length m → has m i ≡ false → j ≢ i → has (put m i) j ≡ has m j
unfolding has put
has-put-other m i j h e d =
    by-test (eqb (j / 64) (i / 64))
    (λ t.
    let q = eqb-true (j / 64) (i / 64) t in
    rw (q, get_or-set_same m (i / 64) (get_or m (i / 64) 0 + 2 ^ (i % 64)) 0 (omega arith))
    (ap (λ (x : ℕ). eqb x 1)
    (at_other (get_or m (i / 64) 0) (i % 64) (omega (arith, eqb-false (get_or m (i / 64) 0 / 2 ^ (i % 64) % 2) 1 e)) (j % 64) (λ r. omega (arith, q, r, d)))))
    (λ t. rw (get_or-set_other m (i / 64) (j / 64) (get_or m (i / 64) 0 + 2 ^ (i % 64)) 0 (eqb-false (j / 64) (i / 64) t)))

pub length-put : (m : List ℕ) (i : ℕ) → length (put m i) ≡ length m
unfolding put
length-put m i = simp length-set

-- ---- the empty set

zeros : (z n k : ℕ) → get_or (replicate n z) k z ≡ z
zeros z zero k = refl
zeros z (suc n) zero = refl
zeros z (suc n) (suc k) = zeros z n k

length-zeros : (z n : ℕ) → length (replicate n z) ≡ n
length-zeros z zero = refl
length-zeros z (suc n) = ap suc (length-zeros z n)

pub has-none : (slots i : ℕ) → has (none_of slots) i ≡ false
unfolding has none_of
has-none slots i =
    ap (λ (x : ℕ). eqb (x / 2 ^ (i % 64) % 2) 1) (zeros 0 ((slots + 63) / 64) (i / 64)) ∙ ap (λ (x : ℕ). eqb (x % 2) 1) (zero-div (2 ^ (i % 64)))

-- there is room for every slot
pub none-room : (slots : ℕ) → slots ≤ 64 * length (none_of slots)
unfolding none_of
none-room slots = omega (arith, length-zeros 0 ((slots + 63) / 64))
