use Rattle.std.proofs.Common.{◌≡◌, ◌-◌, refl, subst, rules}
use Rattle.std.proofs.lemmas.Fn.{fold_over, slice_gives, fronts}
use Rattle.rules.specs.Slots.{held_by}
use Rattle.replay.proofs.Listing.{held-push}
use Rattle.replay.proofs.lists.free_slots.Goals as goal

pub returns : goal.returns
returns c = subst (λ l. c.fold.result ≡ 256 - held_by l) c.iter.ensures.rest
    (fold_over fronts (λ y. y.now) _ (λ ys n. n ≡ 256 - held_by ys) _ (λ ys a x b f' j k. let more = held-push ys x.now in search rules)
    _ _ _ _ (slice_gives c.iter.result) refl c.fold.ensures.ran)
