-- The AETH, if it is carried.
use Rattle.std.proofs.Common.{◌≡◌, sym, ◌∙◌, ap}
use Rattle.wire.specs.Inner.Seen.{aeth_in}
use Rattle.wire.specs.declared.reader.Aeth.{Aeth}
use Rattle.wire.proofs.Parts.{aeth-bytes, aeth-none}
use Rattle.wire.proofs.Seeing.{one_byte}
use Rattle.wire.proofs.reader.read_aeth.Goals as goal

pub returns : goal.returns
returns c =
    let a = c.args in
    let s = a.s.now in
    let syndrome = c.byte.ensures ∙ sym (one_byte s a.at) in
    let read : ◌≡◌ {A = Aeth} _ _ = λ i. record { syndrome = syndrome i; msn = c.three.ensures i } in
    read ∙ sym (ap (aeth_in s a.at) c.if-not-carried.false ∙ aeth-bytes s (λ i. (c.type_inv.s i).fits) a.at)

pub returns-then-not-carried : goal.returns-then-not-carried
returns-then-not-carried c =
    let a = c.args in
    let none : ◌≡◌ {A = Aeth} _ _ = λ i. record { syndrome = c.default.ensures.0 i; msn = c.default.ensures.1 i } in
    none ∙ sym (ap (aeth_in a.s.now a.at) c.if-not-carried.true ∙ aeth-none a.s.now a.at)
