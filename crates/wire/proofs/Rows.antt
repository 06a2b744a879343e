-- What the table says of an opcode's headers. Assumes nothing.
use Rattle.std.specs.Prelude.{None, Some, if◌then◌else◌}
use mathlib.Core.Path.{◌≡◌, refl, sym, ◌∙◌}
use mathlib.Core.Bool.{Bool, true, false}
use mathlib.Core.List.{[], ◌++◌}
use Prim.Native.Nat.{ℕ, ◌+◌, ◌*◌, ◌/◌, ◌≤◌, ◌<◌}
use native.Mathlib.Omega.{arith}
use lib.Dec.{leb}
use borrow.Author.Tests.{leb-true}
use Rattle.refusal.proofs.Below.{below-every}
use Rattle.refusal.proofs.Cases.{by-test}
use Rattle.refusal.proofs.Given.{some-not-none}
use Rattle.wire.specs.Bytes.{octet}
use Rattle.wire.specs.Layout.{Layout, bth, reth, immediate_data, aeth, size}
use Rattle.wire.specs.Opcodes.{known, has_reth, has_immediate, has_aeth, joined, layout, header_length, row_of, carries_of}
use Rattle.wire.specs.Header.{header_bytes}
use Rattle.wire.specs.Inner.Seen.{count}
use Rattle.wire.specs.declared.opcode.Carries.{Carries}
use Rattle.wire.proofs.Fields.{size-append}

pub carries-known : (op : ℕ) → known op ≡ true → carries_of op ≡ Some (row_of op)
unfolding carries_of
carries-known op e = rw e

pub carries-unknown : (op : ℕ) → known op ≡ false → carries_of op ≡ None
unfolding carries_of
carries-unknown op e = rw e

-- ---- whole bytes

pub count_most : (t : Bool) (k : ℕ) → count t k ≤ k
count_most true k = omega arith
count_most false k = omega arith

pub size-carried : (t : Bool) (fs : Layout) (k : ℕ) → size fs ≡ octet * k → size (if t then fs else []) ≡ octet * count t k
size-carried true fs k e = e
size-carried false fs k e = refl

pub size-two : (fs gs : Layout) (m k : ℕ) → size fs ≡ octet * m → size gs ≡ octet * k → size (fs ++ gs) ≡ octet * (m + k)
size-two fs gs m k p q = omega (arith, size-append fs gs)

module _ (r i a : Bool) where
  pub size-reth : size (bth ++ (if r then reth else [])) ≡ octet * (12 + count r 16)
  size-reth = size-two bth (if r then reth else []) 12 (count r 16) refl (size-carried r reth 16 refl)

  pub size-immediate : size (bth ++ (if r then reth else []) ++ (if i then immediate_data else [])) ≡ octet * (12 + count r 16 + count i 4)
  size-immediate =
      size-two (bth ++ (if r then reth else [])) (if i then immediate_data else []) (12 + count r 16) (count i 4)
      size-reth (size-carried i immediate_data 4 refl)

  pub size-joined : size (joined r i a) ≡ octet * (12 + count r 16 + count i 4 + count a 4)
  size-joined =
      size-two (bth ++ (if r then reth else []) ++ (if i then immediate_data else [])) (if a then aeth else [])
      (12 + count r 16 + count i 4) (count a 4) size-immediate (size-carried a aeth 4 refl)

  pub joined_bytes : size (joined r i a) ≡ octet * (size (joined r i a) / octet)
  joined_bytes = omega (arith, size-joined)

  pub joined-least : 12 ≤ size (joined r i a) / octet
  joined-least = omega (arith, size-joined)

-- ---- lengths

pub length-bytes : (op : ℕ) → size (layout op) ≡ octet * header_length op
unfolding header_length layout
length-bytes op = joined_bytes (has_reth op) (has_immediate op) (has_aeth op)

pub length-least : (op : ℕ) → 12 ≤ header_length op
unfolding header_length layout
length-least op = joined-least (has_reth op) (has_immediate op) (has_aeth op)

-- every header fits its bytes: no opcode has both RETH and AETH
short : (op : ℕ) → op < 18 → leb (header_length op) header_bytes ≡ true
unfolding header_length layout
short op h = below-every (λ n. leb (header_length n) header_bytes) 18 refl op h

pub length_most : (op : ℕ) → known op ≡ true → header_length op ≤ header_bytes
length_most op e = leb-true (header_length op) header_bytes (short op (omega (arith, leb-true op 17 e)))

-- an opcode that is not known is one with no row
pub unknown-by-row : (op : ℕ) → carries_of op ≡ None → known op ≡ false
unknown-by-row op e =
    by-test (known op) (λ k. some-not-none (sym (carries-known op k) ∙ e)) (λ k. k)

pub known-by-row : (op : ℕ) (row : Carries) → carries_of op ≡ Some row → known op ≡ true
known-by-row op row e =
    by-test (known op) (λ k. k) (λ k. some-not-none (sym e ∙ carries-unknown op k))

-- and a row is its own opcode's
pub row-by-row : (op : ℕ) (row : Carries) → carries_of op ≡ Some row → row ≡ row_of op
row-by-row op row e =
    let z : Some row ≡ Some (row_of op) = sym e ∙ carries-known op (known-by-row op row e) in
    cc
