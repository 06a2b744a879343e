-- "Writing what was read gives the same bytes when the reserved bits were zero and those three as written." Assumes nothing.
use Rattle.std.specs.Prelude.{Option, None, Some, Ok, Err}
use mathlib.Core.Path.{◌≡◌, refl, sym, ◌∙◌, ap, subst}
use mathlib.Core.Bool.{Bool, true, false}
use mathlib.Core.List.{List, ◌++◌}
use Prim.Native.Nat.{ℕ, ◌+◌, ◌-◌, ◌*◌, ◌^◌, ◌≤◌, ◌<◌}
use native.Mathlib.Omega.{arith}
use native.Mathlib.Nat.{zero-add, mod-eq_of_lt}
use lib.Dec.{eqb}
use lib.ListN.{length, take, replicate}
use lib.Seq.{length-take-le}
use borrow.Author.Tests.{ltb-false, eqb-true, lt-leb, le-ltb, not-false}
use Rattle.psn.specs.Psn.{psns}
use Rattle.refusal.specs.Refusals.{first_given}
use Rattle.refusal.specs.declared.Refusal.{Refusal}
use Rattle.refusal.proofs.Given.{by-given, none-given}
use Rattle.wire.specs.Bytes.{octet, number, bytes, AllBytes}
use Rattle.wire.specs.Layout as fields
use Rattle.wire.specs.Layout.{Name, size, laid, field}
use Rattle.wire.specs.Opcodes.{known, has_reth, has_immediate, has_aeth, joined, layout, header_length, row_of}
use Rattle.wire.specs.Header.{header_bytes, put, written, is_out_of_range, answered, write_of}
use Rattle.wire.specs.Frame.{got, opcode_of, length_of, value_in, frame_refusals, frame_of, read_of}
use Rattle.wire.specs.Inner.Seen.{bth_in, aeth_in, header_in, count}
use Rattle.wire.specs.RoundTrip.{AsWritten, Back}
use Rattle.wire.specs.declared.Header.{Header}
use Rattle.wire.specs.declared.Frame.{Frame}
use Rattle.wire.specs.declared.reader.Bth.{Bth}
use Rattle.wire.specs.declared.reader.Aeth.{Aeth}
use Rattle.wire.proofs.Bytes.{number-below, bytes-number}
use Rattle.wire.proofs.Fields.{distinct, laid-alike, laid-field}
use Rattle.wire.proofs.Rows.{length-bytes}
use Rattle.wire.proofs.Seeing.{seen-take, seen_bytes, seen_below}
use Rattle.wire.proofs.Parts.{bth-bytes, aeth-bytes, aeth-none}
use Rattle.wire.proofs.Reading.{opcode-is, header_is}
use Rattle.wire.proofs.Writing.{write-whole}

-- ---- what a frame that is read has

pub record Taken (s : List ℕ) : Type 0 where
  pub is_known : known (opcode_of s) ≡ true
  pub long : length_of s ≤ length s
  pub version : value_in s fields.version ≡ 0

-- no header has a name twice
distinct-joined : (r i a : Bool) → distinct (joined r i a) ≡ true
distinct-joined true true true = refl
distinct-joined true true false = refl
distinct-joined true false true = refl
distinct-joined true false false = refl
distinct-joined false true true = refl
distinct-joined false true false = refl
distinct-joined false false true = refl
distinct-joined false false false = refl

module _ (s : List ℕ) (small : AllBytes s) (t : Taken s) (w : AsWritten s) where
  abbrev op : ℕ
  op = opcode_of s

  abbrev h : Header
  h = got (value_in s)

  -- what is written again is what was there
  same-value : (n : Name) → put h n ≡ value_in s n
  same-value fields.opcode = refl
  same-value fields.solicited_event = sym w.solicited_event
  same-value fields.migration = sym w.migration
  same-value fields.pad = refl
  same-value fields.version = sym t.version
  same-value fields.p_key = refl
  same-value fields.reserved_byte = sym w.reserved_byte
  same-value fields.far_pair = refl
  same-value fields.ack_req = sym w.ack_req
  same-value fields.reserved_bits = sym w.reserved_bits
  same-value fields.psn = refl
  same-value fields.address = refl
  same-value fields.key = refl
  same-value fields.dma_length = refl
  same-value fields.immediate = refl
  same-value fields.syndrome = refl
  same-value fields.msn = refl

  as_read : h ≡ header_in s (bth_in s) (row_of op)
  as_read = header_is s small t.long

  same-opcode : h.opcode ≡ op
  unfolding header_in
  same-opcode = ap (λ (x : Header). x.opcode) as_read ∙ opcode-is s small

  -- the headers' bytes and their number
  abbrev x : ℕ
  x = number (take (length_of s) s)

  cut-bytes : AllBytes (take (length_of s) s)
  cut-bytes = subst AllBytes (seen-take s 0 (length_of s) (rw zero-add t.long)) (seen_bytes s small 0 (length_of s))

  cut-length : length (take (length_of s) s) ≡ length_of s
  cut-length = length-take-le (length_of s) s t.long

  same_number : laid (put h) (layout op) ≡ x
  unfolding layout value_in
  same_number =
      laid-alike (put h) (λ n. field n (layout op) x) (layout op) (λ n e. same-value n)
      ∙ laid-field (layout op) (distinct-joined (has_reth op) (has_immediate op) (has_aeth op)) x
      ∙ mod-eq_of_lt (subst (λ (j : ℕ). x < 2 ^ j) (ap (λ (k : ℕ). octet * k) cut-length ∙ sym (length-bytes op)) (number-below (take (length_of s) s) cut-bytes))

  same_bytes : written h ≡ take (length_of s) s
  unfolding written
  same_bytes =
      ap (λ (o : ℕ). bytes (header_length o) (laid (put h) (layout o))) same-opcode
      ∙ ap (bytes (length_of s)) same_number
      ∙ ap (λ (k : ℕ). bytes k x) (sym cut-length)
      ∙ bytes-number (take (length_of s) s) cut-bytes

  -- and no field is out of its range
  aeth-msn : (at : ℕ) (carried : Bool) → (aeth_in s at carried).msn < 2 ^ 24
  aeth-msn at true = subst (λ (a : Aeth). a.msn < 2 ^ 24) (sym (aeth-bytes s small at)) (seen_below s small (at + 1) 3)
  aeth-msn at false = subst (λ (a : Aeth). a.msn < 2 ^ 24) (sym (aeth-none s at)) (omega arith)

  not-out-of-range : is_out_of_range h ≡ false
  unfolding header_in
  not-out-of-range =
      let b : bth_in s ≡ _ = bth-bytes s small in
      let pad : h.pad ≤ 3 = omega (arith, ap (λ (y : Header). y.pad) as_read, ap (λ (y : Bth). y.pad) b) in
      let far : h.far < 2 ^ 24 = omega (arith, ap (λ (y : Header). y.far) as_read, ap (λ (y : Bth). y.far) b, seen_below s small 5 3) in
      let psn : h.psn < psns = omega (arith, ap (λ (y : Header). y.psn) as_read, ap (λ (y : Bth). y.psn) b, seen_below s small 9 3) in
      let msn : h.msn < 2 ^ 24 =
      subst (λ (y : Header). y.msn < 2 ^ 24) (sym as_read) (aeth-msn (12 + count (has_reth op) 16 + count (has_immediate op) 4) (has_aeth op)) in
      rw (le-ltb 3 h.pad pad, lt-leb (2 ^ 24) h.far far, lt-leb psns h.psn psn, lt-leb (2 ^ 24) h.msn msn)

  write-back : write_of h ≡ record { size = Ok (length_of s); bytes = take (length_of s) s ++ replicate (header_bytes - length_of s) 0 }
  write-back =
      write-whole h not-out-of-range (ap known same-opcode ∙ t.is_known)
      ∙ (λ i. record { size = Ok (header_length (same-opcode i)); bytes = same_bytes i ++ replicate (header_bytes - header_length (same-opcode i)) 0 })

-- ---- the theorem

taken : (s : List ℕ) → first_given (frame_refusals s) ≡ None → Taken s
taken s e =
    let none = none-given (frame_refusals s) e in
    record {
      is_known = not-false (known (opcode_of s)) none.1.0;
      long = ltb-false (length s) (length_of s) none.1.1.0;
      version = eqb-true (value_in s fields.version) 0 (not-false (eqb (value_in s fields.version) 0) none.1.1.1.0);
    }

read_is : (s : List ℕ) → first_given (frame_refusals s) ≡ None → read_of s ≡ Ok (frame_of s)
unfolding read_of
read_is s e = ap (λ (o : Option Refusal). answered o (frame_of s)) e

refused-is : (s : List ℕ) (r : Refusal) → first_given (frame_refusals s) ≡ Some r → read_of s ≡ Err r
unfolding read_of
refused-is s r e = ap (λ (o : Option Refusal). answered o (frame_of s)) e

pub back : Back
back s f small e w =
    by-given (first_given (frame_refusals s))
    (λ none.
    let z : Ok (frame_of s) ≡ Ok f = sym (read_is s none) ∙ e in
    let same : frame_of s ≡ f = cc in
    subst Again same (write-back s small (taken s none) w))
    (λ r given. let z : Err r ≡ Ok f = sym (refused-is s r given) ∙ e in cc)
  where
    Again : Frame → Type 0
    Again f = write_of f.header ≡ record { size = Ok f.length; bytes = take f.length s ++ replicate (header_bytes - f.length) 0 }
