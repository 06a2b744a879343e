-- The RETH, if it is carried.
use Rattle.std.proofs.Common.{◌≡◌, sym, ◌∙◌, ap, ◌+◌}
use Rattle.std.specs.Int.{w32, w64, from_be_bytes}
use Rattle.wire.specs.Inner.Seen.{reth_in}
use Rattle.wire.specs.declared.reader.Reth.{Reth}
use Rattle.wire.proofs.Parts.{reth-bytes, reth-none}
use Rattle.wire.proofs.Seeing.{four_bytes, eight_bytes}
use Rattle.wire.proofs.reader.read_reth.Goals as goal

pub returns : goal.returns
returns c =
    let a = c.args in
    let s = a.s.now in
    let address = c.from_be_bytes.ensures ∙ ap (from_be_bytes w64) c.bytes_at.ensures ∙ eight_bytes s a.at in
    let key = c.from_be_bytes-2.ensures ∙ ap (from_be_bytes w32) c.bytes_at-2.ensures ∙ four_bytes s (a.at + 8) in
    let length = c.from_be_bytes-3.ensures ∙ ap (from_be_bytes w32) c.bytes_at-3.ensures ∙ four_bytes s (a.at + 12) in
    let read : ◌≡◌ {A = Reth} _ _ = λ i. record { address = address i; key = key i; length = length i } in
    read ∙ sym (ap (reth_in s a.at) c.if-not-carried.false ∙ reth-bytes s (λ i. (c.type_inv.s i).fits) a.at)

pub returns-then-not-carried : goal.returns-then-not-carried
returns-then-not-carried c =
    let a = c.args in
    let none : ◌≡◌ {A = Reth} _ _ =
    λ i. record { address = c.default.ensures.0 i; key = c.default.ensures.1.0 i; length = c.default.ensures.1.1 i } in
    none ∙ sym (ap (reth_in a.s.now a.at) c.if-not-carried.true ∙ reth-none a.s.now a.at)
