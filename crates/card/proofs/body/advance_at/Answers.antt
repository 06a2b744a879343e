-- The record where it stands; past the table's end there is none.
use Rattle.std.proofs.Common.{rules, arith, ◌≡◌, sym, ap, ◌∙◌}
use Rattle.std.proofs.lemmas.List.{get_or_past, set_past}
use Rattle.rules.specs.declared.Pair.{Pair}
use Rattle.rules.specs.Slots.{pair_at, no_pair}
use Rattle.card.specs.Inner.{finished}
use Rattle.card.proofs.body.advance_at.Goals as goal

pub returns-then-i-pairs : goal.returns-then-i-pairs
unfolding pair_at
returns-then-i-pairs c = search rules

pub returns-else-i-pairs : goal.returns-else-i-pairs
unfolding pair_at
returns-else-i-pairs c =
    let a = c.args in
    let none : c.no_pair.result ≡ pair_at a.pairs.now a.i =
    c.no_pair.ensures ∙ sym (get_or_past a.pairs.now a.i no_pair (omega (arith, c.if-i-pairs.false))) in (
      c.finish.ensures ∙ ap (λ (p : Pair). finished p a.e a.g a.w) none,
      sym (set_past a.pairs.now a.i _ (omega (arith, c.if-i-pairs.false))),
    )
