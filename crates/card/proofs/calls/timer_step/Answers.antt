use Rattle.engine.specs.declared.Ask.TheVariants.{Tick}
use Rattle.engine.specs.Body.{ruled}
use Rattle.card.specs.Lent.{lent}
use Rattle.card.proofs.Called.{min-same, numbers-ruled}
use Rattle.card.proofs.calls.timer_step.Goals as goal

pub returns : goal.returns
unfolding ruled
returns c =
    let a = c.args in
    numbers-ruled a.pair (Tick a.elapsed) (lent a.pairs.now a.ends.now a.slots.now) a.done.now (min-same _) c.call_with_numbers.ensures
