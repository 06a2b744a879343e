-- What is left of the loop comes to what the whole does.
use Rattle.refusal.proofs.Loop.{Keeps}
use Rattle.card.specs.Inner.{Filled, fill_turn}
use Rattle.card.proofs.starting.fill.Given as goal

abbrev pub invariant-loop-n : goal.invariant-loop-n
invariant-loop-n g l =
    Keeps (λ (x : Filled _). x.left) (λ (t : Unit {0}). fill_turn g.T.Row.nth) tt (record { left = l.fn.count; rows = l.fn.rows }) tt (record { left = l.n; rows = l.rows })
