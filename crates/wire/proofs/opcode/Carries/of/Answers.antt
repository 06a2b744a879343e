-- Each field is what the definition says of the opcode.
use Rattle.std.proofs.Common.{◌≡◌, ℕ, sym, ◌∙◌, ap, not, ◌/◌, leb, Some}
use borrow.Author.Tests.{lt-leb, le-leb}
use Rattle.wire.specs.Bytes.{octet}
use Rattle.wire.specs.Layout.{size}
use Rattle.wire.specs.Opcodes.{joined, layout, header_length, row_of}
use Rattle.wire.specs.declared.opcode.Carries.{Carries}
use Rattle.wire.proofs.Rows.{carries-known, carries-unknown}
use Rattle.wire.proofs.opcode.Carries.of.Goals as goal

pub returns-then-opcode-gt17 : goal.returns-then-opcode-gt17
returns-then-opcode-gt17 c = sym (carries-unknown c.args.opcode (lt-leb c.args.opcode 17 c.if-opcode-gt17.true))

pub returns : goal.returns
unfolding header_length layout
returns c =
    let op = c.from-op.result in
    let row : ◌≡◌ {A = Carries} _ (row_of op) =
    λ i. record {
      length =
          (c.length.ensures
          ∙ (λ j. size (joined (c.has_reth-reth.ensures j) (c.has_immediate-immediate.ensures j) (c.has_aeth-aeth.ensures j)) / octet)) i;
      reth = c.has_reth-reth.ensures i;
      immediate = c.has_immediate-immediate.ensures i;
      aeth = c.has_aeth-aeth.ensures i;
      payload = not (c.is_bare.ensures i);
      first = c.is_first.ensures i;
      last = c.is_last.ensures i;
      request = leb op 12;
      answer = not (leb op 12);
    } in
    ap Some row
    ∙ ap (λ (o : ℕ). Some (row_of o)) c.from-op.ensures
    ∙ sym (carries-known c.args.opcode (le-leb c.args.opcode 17 c.if-opcode-gt17.false))
