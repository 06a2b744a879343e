-- The slot as it stood, with another link.
use Rattle.rules.specs.Slots.{relinked}
use Rattle.card.proofs.places.relink.Goals as goal

pub returns : goal.returns
unfolding relinked
returns c = simp (c.put_if.ensures, c.with_link.ensures, c.slot_at.ensures)
