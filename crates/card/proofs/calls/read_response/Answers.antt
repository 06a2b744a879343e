use Rattle.engine.specs.declared.Ask.TheVariants.{Respond}
use Rattle.engine.specs.Body.{ruled}
use Rattle.card.specs.Lent.{lent}
use Rattle.card.proofs.Called.{min-same, numbers-ruled}
use Rattle.card.proofs.calls.read_response.Goals as goal

pub returns : goal.returns
unfolding ruled
returns c =
    let a = c.args in
    numbers-ruled a.pair (Respond a.psn a.opcode a.length) (lent a.pairs.now a.ends.now a.slots.now) a.done.now (min-same _) c.call_with_numbers.ensures
