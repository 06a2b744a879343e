-- `packet_at` meets its contract: an offset that is cut first comes to the same.
use Rattle.rules.specs.Message.{packet_at}
use Rattle.message.specs.Capped.{capped}
use Rattle.message.proofs.Cuts.{cut_again}
use Rattle.message.proofs.places.packet_at.Goals as goal

pub returns : goal.returns
returns c =
    let a = c.args in
    simp (
      c.make.ensures,
      c.length_at.ensures,
      c.offset_at.ensures,
      c.bytes_of.ensures,
      c.plus.ensures,
      c.opcode_at.ensures.0,
      c.psns_for-n.ensures.0,
    )
    (cut_again (packet_at (capped a.s) a.m a.first a.i))
