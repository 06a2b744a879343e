-- A fresh start passes the audit, and all its sides are closed.
use mathlib.Core.Path.{◌≡◌, refl, sym, ap, subst, ◌∙◌}
use mathlib.Core.List.{List, [], ◌∷◌, map, append-nil}
use Prim.Native.Nat.{ℕ, zero, suc, ◌+◌, ◌≤◌, ◌<◌}
use native.Mathlib.Omega.{arith}
use lib.Dec.{eqb}
use borrow.Author.Tests.{eqb-true, eqb-false}
use lib.ListN.{length, replicate, length-replicate, get_or-replicate}
use Rattle.refusal.proofs.Cases.{by-test}
use Rattle.rules.specs.declared.Pair.{Pair}
use Rattle.rules.specs.declared.Slot.{Slot}
use Rattle.rules.specs.Card.{Card}
use Rattle.rules.specs.Account.{Side, no_side}
use Rattle.rules.specs.Message.{from}
use Rattle.rules.specs.Slots.{no_pair, no_slot, pair_at, spelled, held_by, free_record, free, queues, concat, times, side_of, sides, Below, ends_of, Spells, fresh}
use Rattle.rules.specs.Pool.{claimed, claims}
use Rattle.rules.specs.Audit.{Whole, Audit}
use Rattle.rules.specs.Calls.{all_closed}
use Rattle.rules.specs.Refusals.{side_at}
use Rattle.rules.proofs.Slots.Links.{Distinct, times-same, times-other, length-chain, spelled_is, spells-chain}
use Rattle.rules.proofs.Slots.Disjoint.{each-once}
use Rattle.rules.proofs.Sides.Good.{length_from, good-closed}
use Rattle.rules.proofs.Calls.Well.{Well}
use Rattle.rules.proofs.Calls.Moves.{audit-of}

times-from-low : (i a n : ℕ) → i < a → times i (from a n) ≡ 0
times-from-low i a zero h = refl
times-from-low i a (suc n) h = omega (arith, times-other i a (from (suc a) n) (λ e. omega arith), times-from-low i (suc a) n (omega arith))

distinct_from : (a n : ℕ) → Distinct (from a n)
distinct_from a zero i = omega arith
distinct_from a (suc n) i =
    by-test (eqb i a)
    (λ e.
    subst (λ (k : ℕ). times k (a ∷ from (suc a) n) ≤ 1) (sym (eqb-true i a e))
    (omega (arith, times-same a (from (suc a) n), times-from-low a (suc a) n (omega arith))))
    (λ e. omega (arith, times-other i a (from (suc a) n) (eqb-false i a e), distinct_from (suc a) n i))

below-from : (m a n : ℕ) → a + n ≤ m → Below m (from a n)
below-from m a zero h = tt
below-from m a (suc n) h = (omega arith, below-from m (suc a) n (omega arith))

-- a list of the same
claimed-closed : (n : ℕ) → claimed (claims (replicate n no_side)) ≡ 0
claimed-closed zero = refl
claimed-closed (suc n) = omega (arith, claimed-closed n)

pub well-closed : (card : Card) → Well card (replicate card.pairs no_side)
unfolding side_at
well-closed card =
    record {
      count = length-replicate card.pairs no_side;
      good = λ p h. rw (get_or-replicate card.pairs p no_side no_side h) (good-closed card);
      shares = omega (arith, claimed-closed card.pairs);
    }

module _ (card : Card) where
  shut : Pair
  shut = record { standing = no_pair.standing; queue = ends_of card.none [] }

  held_none : (n : ℕ) → held_by (replicate n shut) ≡ 0
  unfolding shut
  held_none zero = refl
  held_none (suc n) = omega (arith, held_none n)

  queues-none : (s : List Slot) (n : ℕ) → concat (map (λ q. spelled s q.queue) (replicate n shut)) ≡ []
  unfolding shut
  queues-none s zero = refl
  queues-none s (suc n) = queues-none s n

  sides-none : (s : List Slot) (n : ℕ) → map (side_of s) (replicate n shut) ≡ replicate n no_side
  unfolding shut side_of
  sides-none s zero = refl
  sides-none s (suc n) = ap (λ (l : List Side). no_side ∷ l) (sides-none s n)

  pub fresh-sides : sides (fresh card) ≡ all_closed card
  unfolding fresh shut
  fresh-sides = sides-none _ card.pairs

  fresh-pair : (p : ℕ) → p < card.pairs → pair_at (fresh card).pairs p ≡ shut
  unfolding fresh shut pair_at
  fresh-pair p h = get_or-replicate card.pairs p shut no_pair h

  count : length (fresh card).slots ≡ card.slots
  unfolding fresh
  count = length-chain card.none (from 0 card.slots) (replicate card.slots no_slot) ∙ length-replicate card.slots no_slot

  pub free-runs : Spells card.none (fresh card).slots (free_record (fresh card)) (from 0 card.slots)
  unfolding fresh shut
  free-runs =
      let c = spells-chain card.none (from 0 card.slots) (replicate card.slots no_slot) (distinct_from 0 card.slots) (below-from _ 0 card.slots (omega (arith, length-replicate card.slots no_slot))) in
      record { first = refl; last = refl; held = omega (arith, count, held_none card.pairs, length_from 0 card.slots); linked = c.linked; below = c.below }

  pub fresh-free : free (fresh card) ≡ from 0 card.slots
  fresh-free = spelled_is card.none free-runs

  pairs-count : length (fresh card).pairs ≡ card.pairs
  unfolding fresh shut
  pairs-count = length-replicate card.pairs shut

  nothing-spelled : (s : List Slot) → Spells card.none s shut.queue (spelled s shut.queue)
  unfolding shut
  nothing-spelled s = record { first = refl; last = refl; held = refl; linked = tt; below = tt }

  none-held : concat (queues (fresh card)) ≡ []
  unfolding fresh shut
  none-held = queues-none (fresh card).slots card.pairs

  shut-empty : shut.queue.held ≡ 0
  unfolding shut
  shut-empty = refl

  pub fresh-whole : Whole card (fresh card)
  fresh-whole =
      record {
        pair-records = pairs-count;
        slot-records = count;
        pairs-run = λ p h. rw (fresh-pair p h) (nothing-spelled (fresh card).slots);
        free-runs = rw fresh-free free-runs;
        once = λ i h.
            rw (fresh-free, none-held, append-nil (from 0 card.slots))
            (each-once card.slots (from 0 card.slots) (distinct_from 0 card.slots) (below-from card.slots 0 card.slots (omega arith)) (length_from 0 card.slots) i h);
        others-empty = λ p h n. rw (fresh-pair p h) shut-empty;
      }

  pub fresh-audit : Audit card (fresh card)
  fresh-audit = audit-of card (fresh card) fresh-whole (rw fresh-sides (well-closed card))
