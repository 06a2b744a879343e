-- The refusals in their order, else the fields.
use Rattle.std.proofs.Common.{◌≡◌, sym, ◌∙◌, ◌-◌, length, Some, Ok, arith}
use Rattle.wire.specs.Bytes.{AllBytes}
use Rattle.wire.specs.Opcodes.{carries_of}
use Rattle.wire.proofs.Reading.{read_short}
use Rattle.wire.proofs.Answered.{unknown, cut, version, rest, whole}
use Rattle.wire.proofs.reader.read.Goals as goal

pub returns-then-frame-lt-BTH_BYTES : goal.returns-then-frame-lt-BTH_BYTES
returns-then-frame-lt-BTH_BYTES c = sym (read_short c.args.frame.now c.if-frame-lt-BTH_BYTES.true)

pub returns-in_default : goal.returns-in_default
returns-in_default c =
    let s = c.args.frame.now in
    let small : AllBytes s = λ i. (c.type_inv.frame i).fits in
    let b = c.read_bth-bth in
    sym (unknown s small c.if-frame-lt-BTH_BYTES.false b.result b.ensures (sym c.of.ensures ∙ c.in_default.is))

pub returns-then-frame-length : goal.returns-then-frame-length
returns-then-frame-length c =
    let s = c.args.frame.now in
    let small : AllBytes s = λ i. (c.type_inv.frame i).fits in
    let b = c.read_bth-bth in
    let row = c.in-Some.carries in
    let given : carries_of b.result.opcode ≡ Some row = sym c.of.ensures ∙ c.in-Some.is in
    sym (cut s small c.if-frame-lt-BTH_BYTES.false b.result b.ensures row given c.if-frame-length.true)

pub returns-then-bth-ne0 : goal.returns-then-bth-ne0
returns-then-bth-ne0 c =
    let s = c.args.frame.now in
    let small : AllBytes s = λ i. (c.type_inv.frame i).fits in
    let b = c.read_bth-bth in
    let row = c.in-Some.carries in
    let given : carries_of b.result.opcode ≡ Some row = sym c.of.ensures ∙ c.in-Some.is in
    sym (version s small c.if-frame-lt-BTH_BYTES.false b.result b.ensures row given c.if-frame-length.false c.if-bth-ne0.true)

pub returns-then-is_bad_rest : goal.returns-then-is_bad_rest
returns-then-is_bad_rest c =
    let s = c.args.frame.now in
    let small : AllBytes s = λ i. (c.type_inv.frame i).fits in
    let b = c.read_bth-bth in
    let row = c.in-Some.carries in
    let given : carries_of b.result.opcode ≡ Some row = sym c.of.ensures ∙ c.in-Some.is in
    let bad = sym c.is_bad_rest.ensures ∙ c.if-is_bad_rest.true in
    sym (rest s small c.if-frame-lt-BTH_BYTES.false b.result b.ensures row given c.if-frame-length.false (omega arith) bad)

pub returns : goal.returns
returns c =
    let s = c.args.frame.now in
    let small : AllBytes s = λ i. (c.type_inv.frame i).fits in
    let b = c.read_bth-bth in
    let row = c.in-Some.carries in
    let given : carries_of b.result.opcode ≡ Some row = sym c.of.ensures ∙ c.in-Some.is in
    let good = sym c.is_bad_rest.ensures ∙ c.if-is_bad_rest.false in
    (λ i. Ok (record { header = c.header.result; length = row.length; payload = length s - row.length - c.from.ensures i }))
    ∙ whole s small c.if-frame-lt-BTH_BYTES.false b.result b.ensures row given c.if-frame-length.false (omega arith) good c.header.result c.header.ensures
