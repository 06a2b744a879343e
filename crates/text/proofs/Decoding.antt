-- How the digits of a HEX become bytes. Assumes nothing.
use mathlib.Core.Path.{◌≡◌, refl, sym, ap, ap₂, ◌∙◌}
use mathlib.Core.Bool.{Bool, true, false, cond, ◌&&◌, false≢true}
use mathlib.Core.List.{List, [], ◌∷◌, ◌++◌}
use Prim.Native.Nat.{ℕ, zero, suc, ◌+◌, ◌*◌, ◌/◌, ◌≤◌, ◌<◌}
use native.Mathlib.Omega.{arith}
use native.Mathlib.Numerals.{add-one}
use native.Mathlib.Nat.{not-suc-le-zero, le_of_suc-le-suc}
use lib.Dec.{leb, eqb}
use lib.ListN.{length, get_or, take, drop, set, length-set}
use lib.Seq.{take-suc, take_all, drop-cons, set_at, length-take-le, append_snoc, take_at}
use borrow.Author.Tests.{le-leb, lt-leb}
use Rattle.std.specs.Prelude.{Option, Some, None, is_some, unwrap_or}
use Rattle.refusal.proofs.Cases.{and_left, and_right, and_none}
use Rattle.text.specs.Hex.{nibble, hex_digits, is_hex, octets, fits, filled, buffered}

pub octets-length : (w : List ℕ) → length (octets w) ≡ length w / 2
unfolding octets
octets-length [] = refl
octets-length (a ∷ []) = refl
octets-length (a ∷ b ∷ w) = omega (arith, octets-length w)

-- a digit's value, and 16 where it is none
abbrev pub value : ℕ → ℕ
value b = unwrap_or (nibble b) 16

-- ---- of a HEX each byte is a digit, so what stands for another is not asked

sure : (o : Option ℕ) → is_some o ≡ true → unwrap_or o 0 ≡ unwrap_or o 16
sure None e = absurd (false≢true e)
sure (Some v) e = refl

digit-at : (w : List ℕ) (k : ℕ) → hex_digits w ≡ true → k < length w → is_some (nibble (get_or w k 0)) ≡ true
digit-at [] k e h = absurd (not-suc-le-zero h)
digit-at (b ∷ w) zero e h = and_left _ _ e
digit-at (b ∷ w) (suc k) e h = digit-at w k (and_right _ _ e) (le_of_suc-le-suc h)

digits_of : (w : List ℕ) → 2 ≤ length w → is_hex w ≡ true → hex_digits w ≡ true
digits_of [] l e = absurd (omega (arith, l))
digits_of (a ∷ []) l e = absurd (omega (arith, l))
digits_of (a ∷ b ∷ w) l e = and_right _ _ (rw (and_none (eqb a 45)) at e)

pub value-is : (w : List ℕ) (k : ℕ) → is_hex w ≡ true → 2 ≤ length w → k < length w → unwrap_or (nibble (get_or w k 0)) 0 ≡ value (get_or w k 0)
value-is w k e l h = sure (nibble (get_or w k 0)) (digit-at w k (digits_of w l e) h)

pub octets-at : (w : List ℕ) (i : ℕ) → 2 * i + 1 < length w
    → get_or (octets w) i 0 ≡ value (get_or w (2 * i) 0) * 16 + value (get_or w (2 * i + 1) 0)
unfolding octets
octets-at [] i h = absurd (not-suc-le-zero h)
octets-at (a ∷ []) i h = absurd (short h)
  where
    short : 2 * i + 1 < 1 → ⊥
    short k = omega arith
octets-at (a ∷ b ∷ w) zero h = refl
octets-at (a ∷ b ∷ w) (suc i) h =
    let high : 2 * suc i ≡ suc (suc (2 * i)) = omega arith in
    let low : 2 * suc i + 1 ≡ suc (suc (2 * i + 1)) = omega arith in
    octets-at w i (omega arith)
    ∙ ap₂ (λ (j k : ℕ). value (get_or (a ∷ b ∷ w) j 0) * 16 + value (get_or (a ∷ b ∷ w) k 0)) (sym high) (sym low)

-- ---- into a buffer

fits-is : {t : Bool} (w d : List ℕ) → fits w d ≡ t
    → (filled w d ≡ cond t (Some (length (octets w))) None) × (buffered w d ≡ cond t (octets w ++ drop (length (octets w)) d) d)
fits-is w d e = (ap (λ (t : Bool). cond t (Some (length (octets w))) None) e, ap (λ (t : Bool). cond t (octets w ++ drop (length (octets w)) d) d) e)

pub no-hex : (w d : List ℕ) → is_hex w ≡ false → (None ≡ filled w d) × (d ≡ buffered w d)
no-hex w d e =
    let not : fits w d ≡ false = ap (λ (t : Bool). t && leb (length (octets w)) (length d)) e in
    (sym (fits-is w d not).0, sym (fits-is w d not).1)

pub no_room : (w d : List ℕ) → is_hex w ≡ true → length d < length w / 2 → (None ≡ filled w d) × (d ≡ buffered w d)
no_room w d e h =
    let long : leb (length (octets w)) (length d) ≡ false = lt-leb (length (octets w)) (length d) (omega (arith, octets-length w)) in
    let not : fits w d ≡ false = ap₂ ◌&&◌ e long in
    (sym (fits-is w d not).0, sym (fits-is w d not).1)

-- the first i bytes are in the buffer o, which was d
pub record Filling (w d o : List ℕ) (i : ℕ) : Type 0 where
  pub few : i ≤ length w / 2
  pub long : length o ≡ length d
  pub is : o ≡ take i (octets w) ++ drop i d

module _ {w d o : List ℕ} {i : ℕ} where
  pub filling-more : {h l : ℕ} → Filling w d o i → i < length w / 2 → length w / 2 ≤ length d
      → h ≡ value (get_or w (2 * i) 0) → l ≡ value (get_or w (2 * i + 1) 0) → Filling w d (set o i (h * 16 + l)) (i + 1)
  filling-more {h} {l} f k room eh el =
      let s = octets w in
      let in-s : i < length s = omega (arith, octets-length w) in
      let byte : h * 16 + l ≡ get_or s i 0 = ap₂ (λ (x y : ℕ). x * 16 + y) eh el ∙ sym (octets-at w i (omega arith)) in
      let put : set (take i s ++ drop i d) i (get_or s i 0) ≡ take (suc i) s ++ drop (suc i) d
      = ap (λ (r : List ℕ). set (take i s ++ r) i (get_or s i 0)) (drop-cons d i 0 (omega arith))
      ∙ set_at (take i s) (get_or d i 0) (drop (suc i) d) (get_or s i 0) i (length-take-le i s (omega arith))
      ∙ sym (append_snoc (take i s) (get_or s i 0) (drop (suc i) d))
      ∙ ap (λ (r : List ℕ). r ++ drop (suc i) d) (sym (take-suc s i 0 in-s)) in
      record {
        few = omega arith;
        long = length-set o i (h * 16 + l) ∙ f.long;
        is = ap₂ (λ (r : List ℕ) (v : ℕ). set r i v) f.is byte ∙ put ∙ ap (λ (k : ℕ). take k s ++ drop k d) (sym (add-one i));
      }

  pub filling-end : Filling w d o i → length w / 2 ≤ i → is_hex w ≡ true → length w / 2 ≤ length d
      → (Some (length w / 2) ≡ filled w d) × (o ≡ buffered w d)
  filling-end f k e room =
      let short : leb (length (octets w)) (length d) ≡ true = le-leb (length (octets w)) (length d) (omega (arith, octets-length w)) in
      let ok : fits w d ≡ true = ap₂ ◌&&◌ e short in
      let all : i ≡ length (octets w) = omega (arith, octets-length w, f.few) in (
        ap Some (sym (octets-length w)) ∙ sym (fits-is w d ok).0,
        f.is ∙ ap (λ (k : ℕ). take k (octets w) ++ drop k d) all ∙ ap (λ (r : List ℕ). r ++ drop (length (octets w)) d) (take_all (length (octets w)) (octets w) (omega arith))
            ∙ sym (fits-is w d ok).1,
      )

-- what is decoded of a HEX that fits: all of its bytes, and they stand at the front
pub decoded : (w d : List ℕ) → is_hex w ≡ true → length (octets w) ≤ length d
    → (filled w d ≡ Some (length (octets w))) × (take (length (octets w)) (buffered w d) ≡ octets w)
decoded w d e h =
    let ok : fits w d ≡ true = ap₂ ◌&&◌ e (le-leb (length (octets w)) (length d) h) in
    ((fits-is w d ok).0, ap (take (length (octets w))) (fits-is w d ok).1 ∙ take_at (octets w) (drop (length (octets w)) d) (length (octets w)) refl)
