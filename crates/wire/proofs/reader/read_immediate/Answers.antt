-- The immediate, if it is carried.
use Rattle.std.proofs.Common.{sym, ◌∙◌, ap}
use Rattle.std.specs.Int.{w32, from_be_bytes}
use Rattle.wire.specs.Inner.Seen.{immediate_in}
use Rattle.wire.proofs.Parts.{immediate-bytes, immediate-none}
use Rattle.wire.proofs.Seeing.{four_bytes}
use Rattle.wire.proofs.reader.read_immediate.Goals as goal

pub returns-then-carried : goal.returns-then-carried
returns-then-carried c =
    let a = c.args in
    c.from_be_bytes.ensures ∙ ap (from_be_bytes w32) c.bytes_at.ensures ∙ four_bytes a.s.now a.at
    ∙ sym (ap (immediate_in a.s.now a.at) c.if-carried.true ∙ immediate-bytes a.s.now (λ i. (c.type_inv.s i).fits) a.at)

pub returns-else-carried : goal.returns-else-carried
returns-else-carried c =
    let a = c.args in
    sym (ap (immediate_in a.s.now a.at) c.if-carried.false ∙ immediate-none a.s.now a.at)
