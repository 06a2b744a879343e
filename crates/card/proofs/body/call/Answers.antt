-- What is to be done is decided on the tables as they were lent, and then done.
use Rattle.std.proofs.Common.{refl}
use Rattle.engine.specs.Body.{acted}
use Rattle.card.specs.Inner.{body_in}
use Rattle.card.proofs.body.call.Goals as goal

pub returns : goal.returns
unfolding body_in acted
returns c =
    let d = c.decide-g.ensures in
    let w = c.act-w.ensures in
    let t = c.advance_at-t.ensures in
    rw (t.0, t.1, w.0, w.1.0, w.1.1.0, w.1.1.1, d, c.room_within-room.ensures)
    (refl, (refl, (refl, (refl, (refl, refl)))))
