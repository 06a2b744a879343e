-- What the reader's code answers, from what it has read, is what the definition says. Assumes nothing.
use Rattle.std.specs.Prelude.{Some, None, Ok, Err}
use mathlib.Core.Path.{◌≡◌, refl, sym, ◌∙◌, ap, ap₂}
use mathlib.Core.Bool.{Bool, true, false, not}
use mathlib.Core.List.{List}
use Prim.Native.Nat.{ℕ, ◌-◌, ◌≤◌, ◌<◌}
use native.Mathlib.Omega.{arith}
use lib.ListN.{length}
use Rattle.refusal.specs.declared.Refusal.TheVariants.{Short, Opcode, Version, Rest}
use Rattle.wire.specs.Bytes.{AllBytes}
use Rattle.wire.specs.Layout as fields
use Rattle.wire.specs.Opcodes.{known, is_bare, row_of, carries_of}
use Rattle.wire.specs.Frame.{got, opcode_of, length_of, rest_of, value_in, is_bad_rest, frame_of, read_of}
use Rattle.wire.specs.Inner.Seen.{bth_in, header_in}
use Rattle.wire.specs.declared.Header.{Header}
use Rattle.wire.specs.declared.Frame.{Frame}
use Rattle.wire.specs.declared.opcode.Carries.{Carries}
use Rattle.wire.specs.declared.reader.Bth.{Bth}
use Rattle.wire.proofs.Rows.{unknown-by-row, known-by-row, row-by-row}
use Rattle.wire.proofs.Reading.{opcode-is, version-is, pad-is, header_is, read-opcode, read-cut, read-version, read-rest, read_whole}

not-not : (t : Bool) → not (not t) ≡ t
not-not true = refl
not-not false = refl

module _ (s : List ℕ) (small : AllBytes s) (h : 12 ≤ length s) (b : Bth) (eb : b ≡ bth_in s) where
  same-row : carries_of b.opcode ≡ carries_of (opcode_of s)
  same-row = ap carries_of (ap (λ (x : Bth). x.opcode) eb ∙ opcode-is s small)

  pub unknown : carries_of b.opcode ≡ None → read_of s ≡ Err Opcode
  unknown e = read-opcode s h (unknown-by-row (opcode_of s) (sym same-row ∙ e))

  module _ (row : Carries) (er : carries_of b.opcode ≡ Some row) where
    is_known : known (opcode_of s) ≡ true
    is_known = known-by-row (opcode_of s) row (sym same-row ∙ er)

    full-row : row ≡ row_of (opcode_of s)
    full-row = row-by-row (opcode_of s) row (sym same-row ∙ er)

    length-is : row.length ≡ length_of s
    length-is = ap (λ (x : Carries). x.length) full-row

    pub cut : length s < row.length → read_of s ≡ Err Short
    cut l = read-cut s h is_known (omega (arith, length-is))

    module _ (l : row.length ≤ length s) where
      long : length_of s ≤ length s
      long = omega (arith, length-is)

      version-value : value_in s fields.version ≡ b.version
      version-value = version-is s small long ∙ ap (λ (x : Bth). x.version) (sym eb)

      pad-value : value_in s fields.pad ≡ b.pad
      pad-value = pad-is s small long ∙ ap (λ (x : Bth). x.pad) (sym eb)

      pub version : (b.version ≡ 0 → ⊥) → read_of s ≡ Err Version
      version v = read-version s h is_known long (λ e. v (sym version-value ∙ e))

      module _ (v : b.version ≡ 0) where
        tested : is_bad_rest (length s - row.length) b.pad (not row.payload) ≡ is_bad_rest (rest_of s) (value_in s fields.pad) (is_bare (opcode_of s))
        tested i =
            is_bad_rest (length s - length-is i) (sym pad-value i)
            ((ap (λ (x : Carries). not x.payload) full-row ∙ not-not (is_bare (opcode_of s))) i)

        pub rest : is_bad_rest (length s - row.length) b.pad (not row.payload) ≡ true → read_of s ≡ Err Rest
        rest e = read-rest s h is_known long (version-value ∙ v) (sym tested ∙ e)

        pub whole : is_bad_rest (length s - row.length) b.pad (not row.payload) ≡ false → (x : Header) → x ≡ header_in s b row
            → Ok (record { header = x; length = row.length; payload = length s - row.length - b.pad }) ≡ read_of s
        whole e x ex =
            let header : x ≡ got (value_in s) = ex ∙ ap₂ (header_in s) eb full-row ∙ sym (header_is s small long) in
            let answer : ◌≡◌ {A = Frame} (record { header = x; length = row.length; payload = length s - row.length - b.pad }) (frame_of s) =
            λ i. record { header = header i; length = length-is i; payload = length s - length-is i - sym pad-value i } in
            ap Ok answer ∙ sym (read_whole s h is_known long (version-value ∙ v) (sym tested ∙ e))
