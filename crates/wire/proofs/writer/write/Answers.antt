-- The refusals in their order, else the headers one after the other.
use Rattle.std.proofs.Common.{◌≡◌, sym, ◌∙◌, Some}
use Rattle.wire.specs.Opcodes.{carries_of}
use Rattle.wire.proofs.Rows.{unknown-by-row, known-by-row, row-by-row}
use Rattle.wire.proofs.Writing.{write-range, write-opcode, write-whole, made}
use Rattle.wire.proofs.writer.write.Goals as goal

pub returns-then-is_out_of_range : goal.returns-then-is_out_of_range
returns-then-is_out_of_range c = c.refused.ensures ∙ sym (write-range c.args.h (sym c.is_out_of_range.ensures ∙ c.if-is_out_of_range.true))

pub returns-in_default : goal.returns-in_default
returns-in_default c =
    let h = c.args.h in
    let in-range = sym c.is_out_of_range.ensures ∙ c.if-is_out_of_range.false in
    c.refused-in_default.ensures ∙ sym (write-opcode h in-range (unknown-by-row h.opcode (sym c.of.ensures ∙ c.in_default.is)))

pub returns : goal.returns
returns c =
    let h = c.args.h in
    let row = c.in-Some.carries in
    let in-range = sym c.is_out_of_range.ensures ∙ c.if-is_out_of_range.false in
    let given : carries_of h.opcode ≡ Some row = sym c.of.ensures ∙ c.in-Some.is in
    let is_known = known-by-row h.opcode row given in
    let whole = made h row (row-by-row h.opcode row given) is_known
    c.new.result c.bth.result c.reth-out.result c.immediate.result c.aeth-out.result
    c.new.ensures c.bth.ensures c.reth-out.ensures c.immediate.ensures c.aeth-out.ensures in
    whole ∙ sym (write-whole h in-range is_known)
