-- Reading, case by case: each field in its own header, what is refused, and what is read. Assumes nothing.
use Rattle.std.specs.Prelude.{Ok, Err, if◌then◌else◌}
use mathlib.Core.Path.{◌≡◌, refl, sym, ◌∙◌, ap}
use mathlib.Core.Bool.{Bool, true, false, not, ◌&&◌, ◌||◌, true≢false}
use mathlib.Core.List.{List, [], ◌∷◌, ◌++◌}
use Prim.Native.Nat.{ℕ, ◌+◌, ◌%◌, ◌≤◌, ◌<◌}
use native.Mathlib.Omega.{arith}
use native.Mathlib.Nat.{zero-add}
use lib.Dec.{ltb, eqb}
use lib.ListN.{length}
use borrow.Author.Tests.{ltb-false, lt-ltb, le-ltb, eq-eqb, ne_eqb}
use Rattle.refusal.specs.declared.Refusal.TheVariants.{Short, Opcode, Version, Rest}
use Rattle.refusal.proofs.Cases.{by-test, or_left, or_right}
use Rattle.wire.specs.Bytes.{number, AllBytes}
use Rattle.wire.specs.Layout as fields
use Rattle.wire.specs.Layout.{Name, Layout, bth, reth, immediate_data, aeth, same, has, field}
use Rattle.wire.specs.Opcodes.{known, has_reth, has_immediate, has_aeth, is_bare, joined, layout, header_length, row_of}
use Rattle.wire.specs.Frame.{got, opcode_of, length_of, rest_of, value_in, is_bad_rest, frame_of, read_of}
use Rattle.wire.specs.Inner.Seen.{seen, found, count, bth_in, reth_in, immediate_in, aeth_in, header_in}
use Rattle.wire.proofs.Rows.{size-carried, size-joined}
use Rattle.wire.proofs.Seeing.{seen-take, one_byte, found_first, found-second}
use Rattle.wire.proofs.Parts.{bth-bytes}

-- ---- names that a layout lacks

absent : (n : Name) (fs : Layout) (t : Bool) → has n fs ≡ false → has n (if t then fs else []) ≡ false
absent n fs true e = e
absent n fs false e = refl

pub has-append : (n : Name) (fs gs : Layout) → has n fs ≡ false → has n gs ≡ false → has n (fs ++ gs) ≡ false
has-append n [] gs p q = q
has-append n (f ∷ fs) gs p q =
    by-test (same n f.name) (λ t. absurd (true≢false (rw t at p))) (λ t. rw t (has-append n fs gs (rw t at p) q))

-- ---- each header's fields, in the bytes of that header

module _ (s : List ℕ) (small : AllBytes s) (r i a : Bool) (n : Name) where
  abbrev R : Layout
  R = if r then reth else []

  abbrev I : Layout
  I = if i then immediate_data else []

  abbrev A : Layout
  A = if a then aeth else []

  abbrev all : ℕ
  all = found s 0 (12 + count r 16 + count i 4 + count a 4) (joined r i a) n

  without-aeth : has n aeth ≡ false → all ≡ found s 0 (12 + count r 16 + count i 4) (bth ++ R ++ I) n
  without-aeth e = found_first s small 0 (12 + count r 16 + count i 4) (count a 4) n (bth ++ R ++ I) A (size-carried a aeth 4 refl) (absent n aeth a e)

  without-immediate : has n immediate_data ≡ false → found s 0 (12 + count r 16 + count i 4) (bth ++ R ++ I) n ≡ found s 0 (12 + count r 16) (bth ++ R) n
  without-immediate e = found_first s small 0 (12 + count r 16) (count i 4) n (bth ++ R) I (size-carried i immediate_data 4 refl) (absent n immediate_data i e)

  pub in-bth : has n reth ≡ false → has n immediate_data ≡ false → has n aeth ≡ false → all ≡ found s 0 12 bth n
  in-bth e f g =
      without-aeth g ∙ without-immediate f ∙ found_first s small 0 12 (count r 16) n bth R (size-carried r reth 16 refl) (absent n reth r e)

  pub in-reth : has n bth ≡ false → has n immediate_data ≡ false → has n aeth ≡ false → all ≡ found s 12 (count r 16) R n
  in-reth e f g =
      without-aeth g ∙ without-immediate f ∙ found-second s small 0 12 (count r 16) n bth R (size-carried r reth 16 refl) e

  pub in-immediate : has n bth ≡ false → has n reth ≡ false → has n aeth ≡ false → all ≡ found s (12 + count r 16) (count i 4) I n
  in-immediate e f g =
      without-aeth g
      ∙ found-second s small 0 (12 + count r 16) (count i 4) n (bth ++ R) I (size-carried i immediate_data 4 refl) (has-append n bth R e (absent n reth r f))
      ∙ ap (λ (at : ℕ). found s at (count i 4) I n) (zero-add (12 + count r 16))

  pub in-aeth : has n bth ≡ false → has n reth ≡ false → has n immediate_data ≡ false
      → all ≡ found s (12 + count r 16 + count i 4) (count a 4) A n
  in-aeth e f g =
      found-second s small 0 (12 + count r 16 + count i 4) (count a 4) n (bth ++ R ++ I) A (size-carried a aeth 4 refl)
      (has-append n (bth ++ R) I (has-append n bth R e (absent n reth r f)) (absent n immediate_data i g))
      ∙ ap (λ (at : ℕ). found s at (count a 4) A n) (zero-add (12 + count r 16 + count i 4))

-- ---- a frame as long as its headers

pub opcode-is : (s : List ℕ) → AllBytes s → (bth_in s).opcode ≡ opcode_of s
opcode-is s small = ap (λ b. b.opcode) (bth-bytes s small) ∙ one_byte s 0

module _ (s : List ℕ) (small : AllBytes s) (long : length_of s ≤ length s) where
  abbrev op : ℕ
  op = opcode_of s

  abbrev r : Bool
  r = has_reth op

  abbrev i : Bool
  i = has_immediate op

  abbrev a : Bool
  a = has_aeth op

  places : length_of s ≡ 12 + count r 16 + count i 4 + count a 4
  unfolding header_length layout
  places = omega (arith, size-joined r i a)

  value-is : (n : Name) → value_in s n ≡ found s 0 (12 + count r 16 + count i 4 + count a 4) (joined r i a) n
  unfolding value_in layout
  value-is n =
      ap (λ (l : List ℕ). field n (layout op) (number l)) (sym (seen-take s 0 (length_of s) (omega arith)))
      ∙ ap (λ (k : ℕ). field n (layout op) (number (seen s 0 k))) places

  bth-value : (n : Name) → has n reth ≡ false → has n immediate_data ≡ false → has n aeth ≡ false → value_in s n ≡ found s 0 12 bth n
  bth-value n e f g = value-is n ∙ in-bth s small r i a n e f g

  pub version-is : value_in s fields.version ≡ (bth_in s).version
  unfolding bth_in
  version-is = bth-value fields.version refl refl refl

  pub pad-is : value_in s fields.pad ≡ (bth_in s).pad
  unfolding bth_in
  pad-is = bth-value fields.pad refl refl refl

  pub header_is : got (value_in s) ≡ header_in s (bth_in s) (row_of op)
  unfolding header_in bth_in reth_in immediate_in aeth_in
  header_is =
      let reth-value : (n : Name) → has n bth ≡ false → has n immediate_data ≡ false → has n aeth ≡ false → value_in s n ≡ found s 12 (count r 16) (if r then reth else []) n
      = λ n e f g. value-is n ∙ in-reth s small r i a n e f g in
      let aeth-value : (n : Name) → has n bth ≡ false → has n reth ≡ false → has n immediate_data ≡ false → value_in s n ≡ found s (12 + count r 16 + count i 4) (count a 4) (if a then aeth else []) n
      = λ n e f g. value-is n ∙ in-aeth s small r i a n e f g in
      λ j. record {
        opcode = bth-value fields.opcode refl refl refl j;
        pad = bth-value fields.pad refl refl refl j;
        pkey = bth-value fields.p_key refl refl refl j;
        far = bth-value fields.far_pair refl refl refl j;
        psn = bth-value fields.psn refl refl refl j;
        address = reth-value fields.address refl refl refl j;
        key = reth-value fields.key refl refl refl j;
        length = reth-value fields.dma_length refl refl refl j;
        value = (value-is fields.immediate ∙ in-immediate s small r i a fields.immediate refl refl refl) j;
        syndrome = aeth-value fields.syndrome refl refl refl j;
        msn = aeth-value fields.msn refl refl refl j;
      }

-- ---- the cases of `read_of`

-- a rest that is not refused holds its pad
pub pad-fits : (rest pad : ℕ) (bare : Bool) → is_bad_rest rest pad bare ≡ false → pad ≤ rest
pad-fits rest pad bare e =
    ltb-false rest pad
    (or_left (ltb rest pad) ((bare && ltb 0 rest) || false) (or_right (not (eqb (rest % 4) 0)) (ltb rest pad || ((bare && ltb 0 rest) || false)) e))

module _ (s : List ℕ) where
  pub read_short : length s < 12 → read_of s ≡ Err Short
  unfolding read_of
  read_short h = rw (lt-ltb (length s) 12 h)

  module _ (h : 12 ≤ length s) where
    pub read-opcode : known (opcode_of s) ≡ false → read_of s ≡ Err Opcode
    unfolding read_of
    read-opcode k = rw (le-ltb (length s) 12 h, k)

    module _ (k : known (opcode_of s) ≡ true) where
      pub read-cut : length s < length_of s → read_of s ≡ Err Short
      unfolding read_of
      read-cut l = rw (le-ltb (length s) 12 h, k, lt-ltb (length s) (length_of s) l)

      module _ (l : length_of s ≤ length s) where
        pub read-version : (value_in s fields.version ≡ 0 → ⊥) → read_of s ≡ Err Version
        unfolding read_of
        read-version v = rw (le-ltb (length s) 12 h, k, le-ltb (length s) (length_of s) l, ne_eqb (value_in s fields.version) 0 v)

        module _ (v : value_in s fields.version ≡ 0) where
          pub read-rest : is_bad_rest (rest_of s) (value_in s fields.pad) (is_bare (opcode_of s)) ≡ true → read_of s ≡ Err Rest
          unfolding read_of
          read-rest b = rw (le-ltb (length s) 12 h, k, le-ltb (length s) (length_of s) l, eq-eqb (value_in s fields.version) 0 v, b)

          pub read_whole : is_bad_rest (rest_of s) (value_in s fields.pad) (is_bare (opcode_of s)) ≡ false
              → read_of s ≡ Ok (frame_of s)
          unfolding read_of
          read_whole b = rw (le-ltb (length s) 12 h, k, le-ltb (length s) (length_of s) l, eq-eqb (value_in s fields.version) 0 v, b)
