-- Byte by byte.
use Rattle.std.proofs.Common.{arith}
use Rattle.wire.proofs.Seeing.{seen-each}
use Rattle.wire.proofs.reader.bytes_at.Goals as goal

pub returns : goal.returns
returns g c =
    let i = c.loop-i.invariant in
    seen-each c.args.s.now c.args.at g.row.N c.loop-i.slot-items i.0 (λ k l. i.1 k (omega arith))
