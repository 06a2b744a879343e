-- The bytes are lent, and no numbers.
use Rattle.std.proofs.Common.{[], length}
use Rattle.engine.specs.declared.Ask.TheVariants.{Emit}
use Rattle.engine.specs.Body.{ruled}
use Rattle.card.specs.Lent.{lent}
use Rattle.card.proofs.Called.{min-same, runs-ruled}
use Rattle.card.proofs.calls.emit_packets.Goals as goal

pub returns : goal.returns
unfolding ruled
returns c =
    let a = c.args in
    let e =
    runs-ruled (record { numbers = 0; bytes = length a.out.now }) a.pair (Emit a.budget) (lent a.pairs.now a.ends.now a.slots.now) [] a.out.now
    (min-same (length a.out.now)) c.call.ensures in
    (e.0, (e.1.0, (e.1.1.0, (e.1.1.1.0, e.1.1.1.1.1))))
