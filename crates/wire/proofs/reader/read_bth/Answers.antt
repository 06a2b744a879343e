-- The BTH, byte by byte.
use Rattle.std.proofs.Common.{◌≡◌, sym, ◌∙◌, ap, ℕ, ◌/◌, ◌%◌, List, get_or}
use Rattle.std.specs.Int.{w16, from_be_bytes}
use Rattle.wire.specs.declared.reader.Bth.{Bth}
use Rattle.wire.proofs.Parts.{bth-bytes}
use Rattle.wire.proofs.Seeing.{one_byte, two_bytes}
use Rattle.wire.proofs.reader.read_bth.Goals as goal

pub returns : goal.returns
returns c =
    let s = c.args.s.now in
    let opcode = ap (λ (l : List ℕ). get_or l 0 0) c.bytes_at.ensures ∙ sym (one_byte s 0) in
    let flags = ap (λ (l : List ℕ). get_or l 1 0) c.bytes_at.ensures ∙ sym (one_byte s 1) in
    let pkey = c.from_be_bytes.ensures ∙ ap (from_be_bytes w16) c.bytes_at-2.ensures ∙ two_bytes s 2 in
    let read : ◌≡◌ {A = Bth} _ _ =
    λ i. record {
      opcode = opcode i;
      pad = flags i / 16 % 4;
      version = flags i % 16;
      pkey = pkey i;
      far = c.three.ensures i;
      psn = c.three-2.ensures i;
    } in
    read ∙ sym (bth-bytes s (λ i. (c.type_inv.s i).fits))
