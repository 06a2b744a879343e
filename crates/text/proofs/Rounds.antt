-- What is written is read again as it was. Assumes nothing.
use mathlib.Core.Path.{◌≡◌, refl, sym, ap, ap₂, ◌∙◌}
use mathlib.Core.Bool.{Bool, true, false, cond, ◌&&◌, or-true, true≢false}
use mathlib.Core.List.{List, [], ◌∷◌, ◌++◌}
use Prim.Native.Nat.{ℕ, zero, suc, ◌+◌, ◌-◌, ◌*◌, ◌/◌, ◌%◌, ◌^◌, ◌<◌}
use native.Mathlib.Omega.{arith}
use native.Mathlib.Decide.{dec_lt}
use lib.Dec.{ltb, eqb}
use lib.ListN.{length, get_or, get_or-append}
use native.Mathlib.Nat.{pow-suc, suc-ne-zero}
use borrow.Author.Tests.{lt-ltb, le-ltb, le-leb, eq-eqb, ne_eqb, eqb-true}
use Rattle.std.specs.Prelude.{Option, Some, None, is_some, unwrap_or}
use Rattle.std.specs.Option.{option_eq}
use Rattle.text.specs.Number.{digit, digits, value, number_of}
use Rattle.text.specs.Hex.{nibble, hex_digits, is_hex, octets, glyph, lower, hex_text}
use Rattle.text.specs.Out.{decimal_in, decimal}
use Rattle.refusal.proofs.Below.{every_below, below-every}
use Rattle.refusal.proofs.Cases.{and_left, and_right}
use Rattle.text.proofs.Numbers.{reading-start}

-- ---- numbers

value-snoc : (m b : ℕ) (xs : List ℕ) → value m (xs ++ (b ∷ [])) ≡ value m xs * 10 + (b - 48)
unfolding value
value-snoc m b [] = refl
value-snoc m b (x ∷ xs) = value-snoc (m * 10 + (x - 48)) b xs

digits-snoc : (b : ℕ) (xs : List ℕ) → digits xs ≡ true → digit b ≡ true → digits (xs ++ (b ∷ [])) ≡ true
unfolding digits
digits-snoc b [] h k = rw k
digits-snoc b (x ∷ xs) h k =
    rw (and_left (digit x) (digits xs) h) (digits-snoc b xs (and_right (digit x) (digits xs) h) k)

is_digit : (d : ℕ) → d < 10 → digit (48 + d) ≡ true
is_digit d h = ap₂ ◌&&◌ (le-leb 48 (48 + d) (omega arith)) (le-leb (48 + d) 57 (omega arith))

decimal-digits : (k n : ℕ) → digits (decimal_in k n) ≡ true
unfolding digits decimal_in
decimal-digits zero n = refl
decimal-digits (suc k) n = go (decimal-digits k (n / 10)) (dec_lt n 10)
  where
    go : digits (decimal_in k (n / 10)) ≡ true → Dec (n < 10)
        → digits (cond (ltb n 10) ((48 + n) ∷ []) (decimal_in k (n / 10) ++ ((48 + n % 10) ∷ []))) ≡ true
    go ih (yes h) = rw (lt-ltb n 10 h, is_digit n h)
    go ih (no h) = rw (le-ltb n 10 (omega arith)) (digits-snoc (48 + n % 10) (decimal_in k (n / 10)) ih (is_digit (n % 10) (omega arith)))

decimal-value : (k n : ℕ) → n < 10 ^ k → value 0 (decimal_in k n) ≡ n
unfolding value decimal_in
decimal-value zero n h = omega arith
decimal-value (suc k) n h = go (decimal-value k (n / 10)) (dec_lt n 10)
  where
    go : (n / 10 < 10 ^ k → value 0 (decimal_in k (n / 10)) ≡ n / 10) → Dec (n < 10)
        → value 0 (cond (ltb n 10) ((48 + n) ∷ []) (decimal_in k (n / 10) ++ ((48 + n % 10) ∷ []))) ≡ n
    go ih (yes l) = rw (lt-ltb n 10 l) (omega arith)
    go ih (no l) =
        let less : n / 10 < 10 ^ k = omega (arith, pow-suc 10 k) in
        rw (le-ltb n 10 (omega arith)) (value-snoc 0 (48 + n % 10) (decimal_in k (n / 10)) ∙ omega (arith, ih less))

snoc-some : (b : ℕ) (xs : List ℕ) → length (xs ++ (b ∷ [])) ≡ 0 → ⊥
snoc-some b [] h = suc-ne-zero 0 h
snoc-some b (x ∷ xs) h = suc-ne-zero (length (xs ++ (b ∷ []))) h

decimal-some : (k n : ℕ) → length (decimal_in (suc k) n) ≡ 0 → ⊥
unfolding decimal_in
decimal-some k n = go (ltb n 10)
  where
    go : (t : Bool) → length (cond t ((48 + n) ∷ []) (decimal_in k (n / 10) ++ ((48 + n % 10) ∷ []))) ≡ 0 → ⊥
    go true = suc-ne-zero 0
    go false = snoc-some (48 + n % 10) (decimal_in k (n / 10))

-- a number is read from its digits
pub decimal-read : (n : ℕ) → n < 2 ^ 64 → number_of (decimal n) ≡ Some n
decimal-read n h =
    let is : value 0 (decimal n) ≡ n = decimal-value 20 n (omega arith) in
    (reading-start (decimal n) (ne_eqb _ _ (decimal-some 19 n))).same
    ∙ rw (decimal-digits 20 n, is, lt-ltb n (2 ^ 64) h)

one-digit : (n : ℕ) (more : List ℕ) → n < 10 → get_or (cond (ltb n 10) ((48 + n) ∷ []) more) 0 0 ≡ 48 → n ≡ 0
one-digit n more h e =
    let first : 48 + n ≡ 48 = rw (lt-ltb n 10 h) at e in
    omega arith

fewest-in : (k n : ℕ) → n < 10 ^ suc k → get_or (decimal_in (suc k) n) 0 0 ≡ 48 → n ≡ 0
unfolding decimal_in
fewest-in zero n h e = one-digit n (decimal_in zero (n / 10) ++ ((48 + n % 10) ∷ [])) h e
fewest-in (suc k) n h e = go (fewest-in k (n / 10)) (dec_lt n 10)
  where
    go : (n / 10 < 10 ^ suc k → get_or (decimal_in (suc k) (n / 10)) 0 0 ≡ 48 → n / 10 ≡ 0) → Dec (n < 10) → n ≡ 0
    go ih (yes l) = one-digit n (decimal_in (suc k) (n / 10) ++ ((48 + n % 10) ∷ [])) l e
    go ih (no l) =
        let front = decimal_in (suc k) (n / 10) in
        let some : 0 < length front = omega (arith, decimal-some k (n / 10)) in
        let less : n / 10 < 10 ^ suc k = omega (arith, pow-suc 10 (suc k)) in
        let first : get_or (front ++ ((48 + n % 10) ∷ [])) 0 0 ≡ 48 = rw (le-ltb n 10 (omega arith)) at e in
        let none : n / 10 ≡ 0 = ih less (sym (get_or-append front ((48 + n % 10) ∷ []) 0 0 some) ∙ first) in
        omega arith

-- in the fewest digits: the first is 0 for 0 alone
pub decimal-fewest : (n : ℕ) → n < 2 ^ 64 → get_or (decimal n) 0 0 ≡ 48 → n ≡ 0
decimal-fewest n h e = fewest-in 19 n (omega arith) e

-- ---- bytes

back : ℕ → Bool
back d = option_eq eqb (nibble (glyph d)) (Some d)

all_back : every_below back 16 ≡ true
unfolding back
all_back = refl

same-digit : (o : Option ℕ) (d : ℕ) → option_eq eqb o (Some d) ≡ true → o ≡ Some d
same-digit None d e = absurd (true≢false (sym e))
same-digit (Some x) d e = ap Some (eqb-true x d e)

nibble-glyph : (d : ℕ) → d < 16 → nibble (glyph d) ≡ Some d
unfolding back
nibble-glyph d h = same-digit (nibble (glyph d)) d (below-every back 16 all_back d h)

octets-lower : (bs : List ℕ) → ((k : ℕ) → get_or bs k 0 < 256) → octets (lower bs) ≡ bs
unfolding octets lower
octets-lower [] h = refl
octets-lower (b ∷ bs) h =
    let small : b < 256 = h 0 in
    let whole : b / 16 * 16 + b % 16 ≡ b = omega arith in
    ap₂ ◌∷◌ (ap₂ (λ (x y : Option ℕ). unwrap_or x 16 * 16 + unwrap_or y 16) (nibble-glyph (b / 16) (omega arith)) (nibble-glyph (b % 16) (omega arith)) ∙ whole)
    (octets-lower bs (λ k. h (suc k)))

-- bytes are read from their digits
pub hex-read : (bs : List ℕ) → ((k : ℕ) → get_or bs k 0 < 256) → octets (hex_text bs) ≡ bs
unfolding octets
hex-read [] h = refl
hex-read (b ∷ bs) h = octets-lower (b ∷ bs) h

lower-even : (bs : List ℕ) → length (lower bs) ≡ 2 * length bs
unfolding lower
lower-even [] = refl
lower-even (b ∷ bs) = omega (arith, lower-even bs)

lower-digits : (bs : List ℕ) → ((k : ℕ) → get_or bs k 0 < 256) → hex_digits (lower bs) ≡ true
unfolding lower
lower-digits [] h = refl
lower-digits (b ∷ bs) h =
    let small : b < 256 = h 0 in
    ap₂ (λ (x y : Option ℕ). is_some x && (is_some y && hex_digits (lower bs))) (nibble-glyph (b / 16) (omega arith)) (nibble-glyph (b % 16) (omega arith))
    ∙ lower-digits bs (λ k. h (suc k))

pub hex-is : (bs : List ℕ) → ((k : ℕ) → get_or bs k 0 < 256) → is_hex (hex_text bs) ≡ true
hex-is [] h = refl
hex-is (b ∷ bs) h =
    let even : length (lower (b ∷ bs)) % 2 ≡ 0 = omega (arith, lower-even (b ∷ bs)) in
    rw (eq-eqb (length (lower (b ∷ bs)) % 2) 0 even, lower-digits (b ∷ bs) h, or-true)
