-- How a number is spelt in decimal, and bytes in hexadecimal. Assumes nothing.
use mathlib.Core.Path.{◌≡◌, refl, sym, ap, ◌∙◌}
use mathlib.Core.Bool.{false, true≢false}
use mathlib.Core.List.{List, [], ◌∷◌, ◌++◌, append-nil, append_assoc}
use Prim.Native.Nat.{ℕ, zero, suc, ◌+◌, ◌-◌, ◌/◌, ◌%◌, ◌≤◌, ◌<◌}
use native.Mathlib.Omega.{arith}
use lib.Dec.{eqb}
use lib.ListN.{length, get_or, drop, set, length-set, drop_of_length-le}
use Rattle.std.proofs.lemmas.List.{drop-set}
use borrow.Author.Tests.{lt-ltb, le-ltb}
use Rattle.text.specs.Hex.{octet_text, lower, hex_text}
use Rattle.text.specs.Out.{Out, put_byte, put_all, decimal, decimal_in}
use Rattle.text.proofs.Parts.{drop_at}
use Rattle.text.proofs.Putting.{put-append, put_one}

-- ---- decimal

pub more-digits : (o : Out) (p n : ℕ) {d : ℕ} {m q : Out} → (p ≡ 0 → ⊥) → 10 ≤ n → m ≡ put_all o (decimal_in (p - 1) (n / 10)) → d ≡ 48 + n % 10
    → q ≡ put_byte m d → q ≡ put_all o (decimal_in p n)
unfolding decimal_in
more-digits o zero n z h k e i = absurd (z refl)
more-digits o (suc p) n {d} {m} z h k e i =
    let back : suc p - 1 ≡ p = omega arith in
    i ∙ ap (put_byte m) e ∙ sym (put_one m (48 + n % 10))
    ∙ ap (λ (w : Out). put_all w ((48 + n % 10) ∷ [])) (k ∙ ap (λ (j : ℕ). put_all o (decimal_in j (n / 10))) back)
    ∙ sym (put-append o (decimal_in p (n / 10)) ((48 + n % 10) ∷ []))
    ∙ rw (le-ltb n 10 h)

-- what is left of a number, rest, has i places, and the digits behind them stand in the row from i on
pub record Spelled (n i rest : ℕ) (row : List ℕ) : Type 0 where
  pub long : length row ≡ 20
  pub is : decimal n ≡ decimal_in i rest ++ drop i row

pub spelled-start : (n : ℕ) (row : List ℕ) → length row ≡ 20 → Spelled n 20 n row
spelled-start n row e =
    let none : drop 20 row ≡ [] = drop_of_length-le row (let most : length row ≤ 20 = omega (arith, e) in most) in
    record { long = e; is = sym (append-nil (decimal n)) ∙ ap (λ (l : List ℕ). decimal n ++ l) (sym none) }

-- a number of more digits, and one of a single digit, in so many places
digits-more : (i : ℕ) → 0 < i → (rest : ℕ) (t : List ℕ) → 10 ≤ rest → decimal_in i rest ++ t ≡ decimal_in (i - 1) (rest / 10) ++ ((48 + rest % 10) ∷ t)
unfolding decimal_in
digits-more zero l rest t h = absurd (omega (arith, l))
digits-more (suc k) l rest t h =
    let back : suc k - 1 ≡ k = omega arith in
    rw (le-ltb rest 10 h, back) (append_assoc (decimal_in k (rest / 10)) ((48 + rest % 10) ∷ []) t)

digits-last : (i : ℕ) → 0 < i → (rest : ℕ) (t : List ℕ) → rest < 10 → decimal_in i rest ++ t ≡ (48 + rest % 10) ∷ t
unfolding decimal_in
digits-last zero l rest t h = absurd (omega (arith, l))
digits-last (suc k) l rest t h =
    let small : rest ≡ rest % 10 = omega (arith, h) in
    rw (lt-ltb rest 10 h) (ap (λ (d : ℕ). (48 + d) ∷ t) small)

module _ {n i rest : ℕ} {row : List ℕ} (s : Spelled n i rest row) (l : 0 < i) where
  abbrev digit : ℕ
  digit = 48 + rest % 10

  inside : i - 1 < length row → drop (i - 1) (set row (i - 1) digit) ≡ digit ∷ drop i row
  inside h = let next : i - 1 + 1 ≡ i = omega arith in drop-set row (i - 1) digit h ∙ ap (λ (k : ℕ). digit ∷ drop k row) next

  -- a digit more, where others stand before it
  pub spelled-more : (rest / 10 ≡ 0 → ⊥) → i ≤ 20 → Spelled n (i - 1) (rest / 10) (set row (i - 1) digit)
  spelled-more z h =
      record {
        long = length-set row (i - 1) digit ∙ s.long;
        is = s.is ∙ digits-more i l rest (drop i row) (omega (arith, z)) ∙ ap (λ (t : List ℕ). decimal_in (i - 1) (rest / 10) ++ t) (sym (inside (omega (arith, s.long))));
      }

  -- the first digit
  pub spelled-last : rest / 10 ≡ 0 → i ≤ 20 → drop (i - 1) (set row (i - 1) digit) ≡ decimal n
  spelled-last z h = inside (omega (arith, s.long)) ∙ sym (s.is ∙ digits-last i l rest (drop i row) (omega (arith, z)))

pub spelled-all : {n i rest : ℕ} {row : List ℕ} → Spelled n i rest row → i ≤ 0 → drop 0 row ≡ decimal n
unfolding decimal_in
spelled-all {i = zero} s e = sym s.is
spelled-all {i = suc k} s e = absurd (omega (arith, e))

-- ---- hexadecimal

pub lower-at : (s : List ℕ) (i : ℕ) → i < length s
    → lower (drop i s) ≡ octet_text (get_or s i 0) ++ lower (drop (i + 1) s)
unfolding lower
lower-at s i h = ap lower (drop_at s i (get_or s i 0) h refl)

pub lower-none : lower [] ≡ []
unfolding lower
lower-none = refl

pub text-some : (s : List ℕ) → eqb (length s) 0 ≡ false → lower s ≡ hex_text s
text-some [] h = absurd (true≢false h)
text-some (b ∷ s) h = refl
