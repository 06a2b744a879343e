-- No numbers are lent.
use Rattle.std.proofs.Common.{[], refl}
use Rattle.engine.specs.declared.Ask.TheVariants.{Open}
use Rattle.engine.specs.Body.{ruled}
use Rattle.card.specs.Lent.{lent}
use Rattle.card.proofs.Called.{numbers-ruled}
use Rattle.card.proofs.calls.open_pair.Goals as goal

pub returns : goal.returns
unfolding ruled
returns c =
    let a = c.args in
    let e = numbers-ruled a.pair (Open a.settings a.first) (lent a.pairs.now a.ends.now a.slots.now) [] refl c.call_with_numbers.ensures in
    (e.0, (e.1.0, (e.1.1.0, e.1.1.1.0)))
