-- All records are written, or none.
use Rattle.card.proofs.Fresh.{started-is}
use Rattle.card.proofs.calls.fresh_start.Goals as goal

pub returns : goal.returns
returns c =
    rw (c.fill.ensures, c.fill-2.ensures, c.start_of-s.ensures)
    (started-is c.args.pairs.now c.args.ends.now c.args.slots.now)
