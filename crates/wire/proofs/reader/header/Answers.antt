-- Each header is read where it stands.
use Rattle.std.proofs.Common.{◌∙◌, ap, ℕ, ◌+◌}
use Rattle.wire.specs.Inner.Seen.{count, immediate_in, aeth_in, header_in}
use Rattle.wire.proofs.reader.header.Goals as goal

pub returns : goal.returns
unfolding header_in
returns c =
    let s = c.args.s.now in
    let b = c.args.bth in
    let row = c.args.carries in
    let here = c.after-at.ensures in
    let there = c.after.ensures ∙ ap (λ (k : ℕ). k + count row.immediate 4) here in
    let value = c.read_immediate-value.ensures ∙ ap (λ (k : ℕ). immediate_in s k row.immediate) here in
    let aeth = c.read_aeth-aeth.ensures ∙ ap (λ (k : ℕ). aeth_in s k row.aeth) there in
    λ i. record {
      opcode = b.opcode;
      pad = b.pad;
      pkey = b.pkey;
      far = b.far;
      psn = b.psn;
      address = (c.read_reth-reth.ensures i).address;
      key = (c.read_reth-reth.ensures i).key;
      length = (c.read_reth-reth.ensures i).length;
      value = value i;
      syndrome = (aeth i).syndrome;
      msn = (aeth i).msn;
    }
