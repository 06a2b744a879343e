-- Bytes and the numbers that they spell: there and back, and over a join of two. Assumes nothing.
use mathlib.Core.Path.{◌≡◌, refl, sym, ◌∙◌, ap, ap₂}
use mathlib.Core.List.{List, [], ◌∷◌, ◌++◌}
use Prim.Native.Nat.{ℕ, zero, suc, ◌+◌, ◌*◌, ◌/◌, ◌%◌, ◌^◌, ◌<◌}
use native.Mathlib.Omega.{arith}
use native.Mathlib.Nat.{zero-add, zero-mul, mul-add, add-mul, mul_assoc, add_assoc, suc-add, mul_comm, mod-eq_of_lt}
use lib.Arith.{digits_lt}
use Rattle.std.proofs.Math.Nat.{pow-suc}
use lib.Pow.{pow-add, high, low, mod-pow-add, field, mod-mod-pow, shr-shr}
use lib.ListN.{length, length-append}
use Rattle.wire.specs.Bytes.{octet, AllBytes, number, bytes}

-- ---- powers

one_more : (k : ℕ) → octet * suc k ≡ octet + octet * k
one_more k = omega arith

pow_more : (k : ℕ) → 2 ^ (octet * suc k) ≡ 256 * 2 ^ (octet * k)
pow_more k = ap (λ (n : ℕ). 2 ^ n) (one_more k) ∙ pow-add 2 8 (octet * k)

pub pow-byte : (k : ℕ) → 256 ^ k ≡ 2 ^ (octet * k)
pow-byte zero = refl
pow-byte (suc k) = pow-suc 256 k ∙ ap (λ (n : ℕ). n * 256) (pow-byte k) ∙ mul_comm (2 ^ (octet * k)) 256 ∙ sym (pow_more k)

pub pow-sum : (m k : ℕ) → 2 ^ (octet * (m + k)) ≡ 2 ^ (octet * m) * 2 ^ (octet * k)
pow-sum m k = ap (λ (n : ℕ). 2 ^ n) (mul-add octet m k) ∙ pow-add 2 (octet * m) (octet * k)

pub regroup : (b p q n m : ℕ) → b * (p * q) + (n * q + m) ≡ (b * p + n) * q + m
regroup b p q n m = rw (add-mul, mul_assoc, add_assoc)

-- ---- the number that bytes spell

pub number-below : (bs : List ℕ) → AllBytes bs → number bs < 2 ^ (octet * length bs)
unfolding number
number-below [] o = omega arith
number-below (b ∷ bs) o = rw (pow_more (length bs)) (digits_lt (o 0) (number-below bs (λ i. o (suc i))))

pub number_append : (bs cs : List ℕ) → number (bs ++ cs) ≡ number bs * 2 ^ (octet * length cs) + number cs
unfolding number
number_append [] cs = omega (arith, zero-mul (2 ^ (octet * length cs)))
number_append (b ∷ bs) cs =
    ap₂ (λ (p n : ℕ). b * p + n) (ap (λ (l : ℕ). 2 ^ (octet * l)) (length-append bs cs) ∙ pow-sum (length bs) (length cs)) (number_append bs cs)
    ∙ regroup b (2 ^ (octet * length bs)) (2 ^ (octet * length cs)) (number bs) (number cs)

-- ---- the bytes of a number

pub bytes-length : (k n : ℕ) → length (bytes k n) ≡ k
unfolding bytes
bytes-length zero n = refl
bytes-length (suc k) n = ap suc (bytes-length k n)

-- they see no more of it than they hold
pub bytes-mod : (k i n : ℕ) → bytes k (n % 2 ^ (octet * (i + k))) ≡ bytes k n
unfolding bytes
bytes-mod zero i n = refl
bytes-mod (suc k) i n =
    let top : octet * (i + suc k) ≡ octet * i + octet + octet * k = omega arith in
    let other : i + suc k ≡ suc i + k = omega arith in
    ap₂ (λ (x : ℕ) (xs : List ℕ). x ∷ xs)
    (ap (λ (j : ℕ). n % 2 ^ j / 2 ^ (octet * k) % 256) top
    ∙ ap (λ (x : ℕ). x % 256) (field n (octet * i + octet) (octet * k))
    ∙ mod-mod-pow (n / 2 ^ (octet * k)) (octet * i) octet)
    (ap (λ (j : ℕ). bytes k (n % 2 ^ (octet * j))) other ∙ bytes-mod k (suc i) n)

pub bytes_low : (k a b : ℕ) → b < 2 ^ (octet * k) → bytes k (a * 2 ^ (octet * k) + b) ≡ bytes k b
bytes_low k a b h =
    let n = a * 2 ^ (octet * k) + b in
    sym (bytes-mod k 0 n)
    ∙ ap (λ (j : ℕ). bytes k (n % 2 ^ (octet * j))) (zero-add k)
    ∙ ap (bytes k) (low a (octet * k) h)

-- a number of two parts
pub bytes-append : (m k a b : ℕ) → b < 2 ^ (octet * k) → bytes (m + k) (a * 2 ^ (octet * k) + b) ≡ bytes m a ++ bytes k b
unfolding bytes
bytes-append zero k a b h = rw zero-add (bytes_low k a b h)
bytes-append (suc m) k a b h =
    let n = a * 2 ^ (octet * k) + b in
    let sum : octet * (m + k) ≡ octet * k + octet * m = omega arith in
    ap (λ (j : ℕ). bytes j n) (suc-add m k)
    ∙ ap₂ (λ (x : ℕ) (xs : List ℕ). x ∷ xs)
    (ap (λ (j : ℕ). n / 2 ^ j % 256) sum
    ∙ ap (λ (x : ℕ). x % 256) (sym (shr-shr n (octet * k) (octet * m)) ∙ ap (λ (x : ℕ). x / 2 ^ (octet * m)) (high a (octet * k) h)))
    (bytes-append m k a b h)

-- ---- there and back

pub number-bytes : (k n : ℕ) → number (bytes k n) ≡ n % 2 ^ (octet * k)
unfolding number bytes
number-bytes zero n = omega arith
number-bytes (suc k) n =
    ap₂ (λ (l m : ℕ). n / 2 ^ (octet * k) % 256 * 2 ^ (octet * l) + m) (bytes-length k n) (number-bytes k n)
    ∙ sym (ap (λ (j : ℕ). n % 2 ^ j) (one_more k) ∙ mod-pow-add n octet (octet * k))

pub bytes-number : (bs : List ℕ) → AllBytes bs → bytes (length bs) (number bs) ≡ bs
unfolding number bytes
bytes-number [] o = refl
bytes-number (b ∷ bs) o =
    let low = number-below bs (λ i. o (suc i)) in
    ap₂ (λ (x : ℕ) (xs : List ℕ). x ∷ xs)
    (ap (λ (x : ℕ). x % 256) (high b (octet * length bs) low) ∙ mod-eq_of_lt (o 0))
    (bytes_low (length bs) b (number bs) low ∙ bytes-number bs (λ i. o (suc i)))
