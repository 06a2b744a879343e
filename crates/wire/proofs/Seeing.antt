-- What the reader sees of a frame: runs of bytes join, and a field is found in the bytes of its own group. Assumes nothing.
use mathlib.Core.Path.{◌≡◌, refl, sym, ◌∙◌, ap, ap₂, subst}
use mathlib.Core.Bool.{false, true≢false}
use mathlib.Core.List.{List, [], ◌∷◌, ◌++◌}
use Prim.Native.Nat.{ℕ, zero, suc, ◌+◌, ◌*◌, ◌/◌, ◌%◌, ◌^◌, ◌<◌, ◌≤◌}
use native.Mathlib.Omega.{arith}
use native.Mathlib.Nat.{zero-add, add-zero, suc-add, add-suc, mod-eq_of_lt}
use lib.ListN.{length, get_or, take, drop}
use lib.Seq.{drop-cons}
use Rattle.std.specs.Int.{w16, w32, w64, from_be_bytes}
use Rattle.refusal.proofs.Cases.{by-test}
use Rattle.wire.specs.Bytes.{octet, number, AllBytes}
use Rattle.wire.specs.Layout.{Name, Layout, ◌bits◌, size, same, has, field}
use Rattle.wire.specs.Inner.Seen.{seen, found}
use Rattle.wire.proofs.Bytes.{number-below, number_append}
use Rattle.wire.proofs.Fields.{same_self, field-low, field-first, field-second}

-- ---- runs of bytes

pub seen-length : (s : List ℕ) (at k : ℕ) → length (seen s at k) ≡ k
seen-length s at zero = refl
seen-length s at (suc k) = ap suc (seen-length s (suc at) k)

pub seen_bytes : (s : List ℕ) → AllBytes s → (at k : ℕ) → AllBytes (seen s at k)
seen_bytes s h at zero i = omega arith
seen_bytes s h at (suc k) zero = h at
seen_bytes s h at (suc k) (suc i) = seen_bytes s h (suc at) k i

pub seen-append : (s : List ℕ) (at m k : ℕ) → seen s at (m + k) ≡ seen s at m ++ seen s (at + m) k
seen-append s at zero k = ap₂ (seen s) (sym (add-zero at)) (zero-add k)
seen-append s at (suc m) k =
    ap (seen s at) (suc-add m k)
    ∙ ap (λ (l : List ℕ). get_or s at 0 ∷ l) (seen-append s (suc at) m k ∙ ap (λ (i : ℕ). seen s (suc at) m ++ seen s i k) (suc-add at m ∙ sym (add-suc at m)))

pub seen-take : (s : List ℕ) (at k : ℕ) → at + k ≤ length s → seen s at k ≡ take k (drop at s)
seen-take s at zero h = refl
seen-take s at (suc k) h =
    ap (λ (l : List ℕ). get_or s at 0 ∷ l) (seen-take s (suc at) k (omega arith))
    ∙ sym (ap (take (suc k)) (drop-cons s at 0 (omega arith)))

-- ---- numbers

pub number-seen : (s : List ℕ) (at m k : ℕ) → number (seen s at (m + k)) ≡ number (seen s at m) * 2 ^ (octet * k) + number (seen s (at + m) k)
number-seen s at m k =
    ap number (seen-append s at m k)
    ∙ number_append (seen s at m) (seen s (at + m) k)
    ∙ ap (λ (l : ℕ). number (seen s at m) * 2 ^ (octet * l) + number (seen s (at + m) k)) (seen-length s (at + m) k)

-- the higher bytes and the lower
pub join-seen : (s : List ℕ) (at m k x y : ℕ) → x ≡ number (seen s at m) → y ≡ number (seen s (at + m) k)
    → x * 2 ^ (octet * k) + y ≡ number (seen s at (m + k))
join-seen s at m k x y p q = ap₂ (λ (a b : ℕ). a * 2 ^ (octet * k) + b) p q ∙ sym (number-seen s at m k)

pub seen_below : (s : List ℕ) → AllBytes s → (at k : ℕ) → number (seen s at k) < 2 ^ (octet * k)
seen_below s h at k = subst (λ (l : ℕ). number (seen s at k) < 2 ^ (octet * l)) (seen-length s at k) (number-below (seen s at k) (seen_bytes s h at k))

pub one_byte : (s : List ℕ) (at : ℕ) → number (seen s at 1) ≡ get_or s at 0
unfolding number
one_byte s at = omega arith

-- ---- fields

pub field-absent : (n : Name) (fs : Layout) (x : ℕ) → has n fs ≡ false → field n fs x ≡ 0
unfolding field
field-absent n [] x e = refl
field-absent n (f ∷ fs) x e =
    by-test (same n f.name) (λ t. absurd (true≢false (rw t at e))) (λ t. rw t (field-absent n fs x (rw t at e)))

module _ (s : List ℕ) (small : AllBytes s) (at m k : ℕ) (n : Name) (fs gs : Layout) (p : size gs ≡ octet * k) where
  abbrev high : ℕ
  high = number (seen s at m)

  abbrev low : ℕ
  low = number (seen s (at + m) k)

  abbrev whole : ℕ
  whole = number (seen s at (m + k))

  parts : whole ≡ high * 2 ^ size gs + low
  parts = number-seen s at m k ∙ ap (λ (j : ℕ). high * 2 ^ j + low) (sym p)

  low_below : low < 2 ^ size gs
  low_below = subst (λ (j : ℕ). low < 2 ^ j) (sym p) (seen_below s small (at + m) k)

  -- what the second of two parts lacks is found in the first
  pub found_first : has n gs ≡ false → found s at (m + k) (fs ++ gs) n ≡ found s at m fs n
  found_first e =
      by-test (has n fs)
      (λ t. ap (field n (fs ++ gs)) parts ∙ field-first n fs gs high low t low_below)
      (λ t. field-second n fs gs whole t ∙ field-absent n gs whole e ∙ sym (field-absent n fs high t))

  -- what the first of two parts lacks is found in the second
  pub found-second : has n fs ≡ false → found s at (m + k) (fs ++ gs) n ≡ found s (at + m) k gs n
  found-second e = field-second n fs gs whole e ∙ ap (field n gs) parts ∙ field-low n gs high low low_below

-- one field of whole bytes
found-one : (s : List ℕ) → AllBytes s → (at k : ℕ) (n : Name) → found s at k (n bits (octet * k) ∷ []) n ≡ number (seen s at k)
unfolding field
found-one s h at k n =
    let x = number (seen s at k) in
    let all : x / 1 ≡ x = omega arith in
    rw (same_self n) (ap (λ (y : ℕ). y % 2 ^ (octet * k)) all ∙ mod-eq_of_lt (seen_below s h at k))

-- a group of whole bytes in the midst of a header: i bytes before it, k of its own, j after it
module _ (s : List ℕ) (small : AllBytes s) (at i k j : ℕ) (n : Name) (fs : Layout) where
  pub found-group : (g gs : Layout) → size g ≡ octet * k → size gs ≡ octet * j → has n fs ≡ false → has n gs ≡ false
      → found s at (i + k + j) (fs ++ g ++ gs) n ≡ found s (at + i) k g n
  found-group g gs p q e f =
      found_first s small at (i + k) j n (fs ++ g) gs q f ∙ found-second s small at i k n fs g p e

  -- a single field there
  pub found-place : (gs : Layout) → size gs ≡ octet * j → has n fs ≡ false → has n gs ≡ false
      → found s at (i + k + j) (fs ++ (n bits (octet * k) ∷ []) ++ gs) n ≡ number (seen s (at + i) k)
  found-place gs q e f =
      found-group (n bits (octet * k) ∷ []) gs (add-zero (octet * k)) q e f ∙ found-one s small (at + i) k n

-- bytes that are each what stands at their place
pub seen-each : (s : List ℕ) (at k : ℕ) (xs : List ℕ) → length xs ≡ k → ((i : ℕ) → i < k → get_or xs i 0 ≡ get_or s (at + i) 0) → xs ≡ seen s at k
seen-each s at zero [] e h = refl
seen-each s at zero (x ∷ xs) e h = absurd (omega (arith, e))
seen-each s at (suc k) [] e h = absurd (omega (arith, e))
seen-each s at (suc k) (x ∷ xs) e h =
    let first : x ≡ get_or s at 0 = h 0 (omega arith) ∙ ap (λ (i : ℕ). get_or s i 0) (add-zero at) in
    let others : (i : ℕ) → i < k → get_or xs i 0 ≡ get_or s (suc at + i) 0 =
    λ i l. h (suc i) (omega arith) ∙ ap (λ (i : ℕ). get_or s i 0) (add-suc at i ∙ sym (suc-add at i)) in
    ap₂ (λ (y : ℕ) (ys : List ℕ). y ∷ ys) first (seen-each s (suc at) k xs (omega (arith, e)) others)

-- the library's word for a number of so many bytes is ours
pub two_bytes : (s : List ℕ) (at : ℕ) → from_be_bytes w16 (seen s at 2) ≡ number (seen s at 2)
unfolding number
two_bytes s at = omega arith

pub three_bytes : (s : List ℕ) (at : ℕ) → from_be_bytes w32 (0 ∷ seen s at 3) ≡ number (seen s at 3)
unfolding number
three_bytes s at = omega arith

pub four_bytes : (s : List ℕ) (at : ℕ) → from_be_bytes w32 (seen s at 4) ≡ number (seen s at 4)
unfolding number
four_bytes s at = omega arith

pub eight_bytes : (s : List ℕ) (at : ℕ) → from_be_bytes w64 (seen s at 8) ≡ number (seen s at 8)
unfolding number
eight_bytes s at = omega arith
