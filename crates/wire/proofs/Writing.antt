-- Writing, case by case: what is refused, and what the cursor has written at the end. Assumes nothing.
use Rattle.std.specs.Prelude.{Ok, if◌then◌else◌}
use mathlib.Core.Path.{◌≡◌, refl, sym, ◌∙◌, ap, subst}
use mathlib.Core.Bool.{Bool, true, false}
use mathlib.Core.List.{[], ◌++◌}
use Prim.Native.Nat.{ℕ, ◌+◌, ◌-◌, ◌≤◌}
use native.Mathlib.Omega.{arith}
use lib.ListN.{length, replicate, length-append, length-replicate}
use Rattle.refusal.specs.declared.Refusal.TheVariants.{Range, Opcode}
use Rattle.refusal.proofs.Cases.{by-test}
use Rattle.wire.specs.Layout.{Name, bth, reth, immediate_data, aeth, laid}
use Rattle.wire.specs.Opcodes.{known, has_reth, has_immediate, has_aeth, joined, layout, header_length, row_of}
use Rattle.wire.specs.Header.{header_bytes, put, written, is_out_of_range, out_of, refused, write_of}
use Rattle.wire.specs.Inner.Out.{filled, Adds, spelled}
use Rattle.wire.specs.Inner.Seen.{count}
use Rattle.wire.specs.declared.Header.{Header}
use Rattle.wire.specs.declared.Written.{Written}
use Rattle.wire.specs.declared.opcode.Carries.{Carries}
use Rattle.wire.specs.declared.writer.Out.{Out}
use Rattle.wire.proofs.Adding.{adds-layout}
use Rattle.wire.proofs.Bytes.{bytes-length}
use Rattle.wire.proofs.Rows.{size-carried, size-reth, size-immediate, length_most}

-- ---- the cases of `write_of`

pub write-range : (h : Header) → is_out_of_range h ≡ true → write_of h ≡ refused Range
unfolding write_of
write-range h e = rw e

pub write-opcode : (h : Header) → is_out_of_range h ≡ false → known h.opcode ≡ false → write_of h ≡ refused Opcode
unfolding write_of
write-opcode h e k = rw (e, k)

pub write-whole : (h : Header) → is_out_of_range h ≡ false → known h.opcode ≡ true → write_of h ≡ out_of h
unfolding write_of
write-whole h e k = rw (e, k)

-- ---- the headers one after the other

module _ (v : Name → ℕ) (r i a : Bool) (o0 o1 o2 o3 o4 : Out)
    (p1 : Adds o0 o1 (spelled v bth))
    (p2 : Adds o1 o2 (spelled v (if r then reth else [])))
    (p3 : Adds o2 o3 (spelled v (if i then immediate_data else [])))
    (p4 : Adds o3 o4 (spelled v (if a then aeth else []))) where
  pub adds-joined : Adds o0 o4 (spelled v (joined r i a))
  adds-joined =
      let with-reth = adds-layout o0 o1 o2 v bth (if r then reth else []) 12 (count r 16) refl (size-carried r reth 16 refl) p1 p2 in
      let with-immediate =
      adds-layout o0 o2 o3 v (bth ++ (if r then reth else [])) (if i then immediate_data else []) (12 + count r 16) (count i 4)
      (size-reth r i a) (size-carried i immediate_data 4 refl) with-reth p3 in
      adds-layout o0 o3 o4 v (bth ++ (if r then reth else []) ++ (if i then immediate_data else [])) (if a then aeth else [])
      (12 + count r 16 + count i 4) (count a 4) (size-immediate r i a) (size-carried a aeth 4 refl) with-immediate p4

-- from an empty cursor, by an opcode's row, they are the header's bytes and zeros
abbrev Makes : Header → Carries → Type 0
Makes h row =
    (o0 o1 o2 o3 o4 : Out) → o0 ≡ filled []
    → Adds o0 o1 (spelled (put h) bth)
    → Adds o1 o2 (spelled (put h) (if row.reth then reth else []))
    → Adds o2 o3 (spelled (put h) (if row.immediate then immediate_data else []))
    → Adds o3 o4 (spelled (put h) (if row.aeth then aeth else []))
    → ◌≡◌ {A = Written} (record { size = Ok row.length; bytes = o4.bytes }) (out_of h)

pub written-length : (h : Header) → length (written h) ≡ header_length h.opcode
unfolding written
written-length h = bytes-length (header_length h.opcode) (laid (put h) (layout h.opcode))

by_row : (h : Header) → known h.opcode ≡ true → Makes h (row_of h.opcode)
unfolding written header_length layout filled
by_row h k o0 o1 o2 o3 o4 s p1 p2 p3 p4 =
    let op = h.opcode in
    let n = header_length op in
    let fits : 0 + length (written h) ≤ header_bytes = omega (arith, written-length h, length_most op k) in
    let end : o4 ≡ filled (written h) = adds-joined (put h) (has_reth op) (has_immediate op) (has_aeth op) o0 o1 o2 o3 o4 p1 p2 p3 p4 [] s fits in
    ap {B = Written} (λ (o : Out). record { size = Ok n; bytes = o.bytes }) end
    ∙ ap {B = Written} (λ (l : ℕ). record { size = Ok n; bytes = written h ++ replicate (header_bytes - l) 0 }) (written-length h)

pub made : (h : Header) (row : Carries) → row ≡ row_of h.opcode → known h.opcode ≡ true → Makes h row
made h row e k = subst (Makes h) (sym e) (by_row h k)

-- all 32 bytes come back, refused or not
pub bytes_whole : (h : Header) → length (write_of h).bytes ≡ header_bytes
bytes_whole h =
    by-test (is_out_of_range h)
    (λ t. ap (λ (w : Written). length w.bytes) (write-range h t) ∙ length-replicate {A = ℕ} header_bytes 0)
    (λ t.
    by-test (known h.opcode)
    (λ k.
    let n = header_length h.opcode in
    let zeros = replicate (header_bytes - n) 0 in
    let long : length (written h ++ zeros) ≡ header_bytes
    = omega (arith, length-append (written h) zeros, length-replicate {A = ℕ} (header_bytes - n) 0, written-length h, length_most h.opcode k) in
    ap (λ (w : Written). length w.bytes) (write-whole h t k) ∙ long)
    (λ k. ap (λ (w : Written). length w.bytes) (write-opcode h t k) ∙ length-replicate {A = ℕ} header_bytes 0))
