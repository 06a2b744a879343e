-- The queues of whole tables: no slot is lost, none stands twice.
use mathlib.Core.Path.{◌≡◌, refl, ap, subst}
use mathlib.Core.Logic.{◌≢◌}
use mathlib.Core.List.{List, [], ◌∷◌, ◌++◌, map}
use Prim.Native.Nat.{ℕ, zero, suc, ◌+◌, ◌≤◌, ◌<◌}
use native.Mathlib.Omega.{arith}
use native.Mathlib.Nat.{le_of_suc-le-suc, not-suc-le-zero}
use lib.Dec.{ltb}
use borrow.Author.Tests.{ltb-true, ltb-false}
use lib.ListN.{length, get_or, set, length-append, length-map, get_or-map}
use lib.Seq.{get_or-set_same, get_or-set_other}
use Rattle.refusal.proofs.Cases.{by-test}
use Rattle.rules.specs.declared.Pair.{Pair}
use Rattle.rules.specs.declared.Slot.{Slot}
use Rattle.rules.specs.Card.{Card}
use Rattle.rules.specs.Slots.{slot_at, Tables, pair_at, held_by, follow, spelled, times, concat, queues, queue, free, Below}
use Rattle.rules.specs.Audit.{Whole}
use Rattle.rules.proofs.Slots.Links.{times-append, below-append}
use Rattle.rules.proofs.Slots.Disjoint.{length-of-once}
use Rattle.rules.proofs.Slots.Lists.{times-join-at, times-join-two, below-join, times_below}

pub pair_same : (ps : List Pair) (p : ℕ) (x : Pair) → p < length ps → pair_at (set ps p x) p ≡ x
unfolding pair_at
pair_same ps p x h = get_or-set_same ps p x _ h

pub pair-other : (ps : List Pair) (p r : ℕ) (x : Pair) → r ≢ p → pair_at (set ps p x) r ≡ pair_at ps r
unfolding pair_at
pair-other ps p r x h = get_or-set_other ps p r x _ h

pub queue-is : (t : Tables) (p : ℕ) → get_or (queues t) p [] ≡ queue t p
unfolding pair_at
queue-is t p = get_or-map (λ (q : Pair). spelled t.slots q.queue) t.pairs p _

pub queues-count : (t : Tables) → length (queues t) ≡ length t.pairs
queues-count t = length-map t.pairs (λ (q : Pair). spelled t.slots q.queue)

-- ---- how many slots the pairs hold

pub length-follow : (s : List Slot) (at k : ℕ) → length (follow s at k) ≡ k
length-follow s at zero = refl
length-follow s at (suc k) = ap suc (length-follow s (slot_at s at).link k)

-- the queues are as long as the pairs' counts say
pub length-queues : (s : List Slot) (ps : List Pair) → length (concat (map (λ q. spelled s q.queue) ps)) ≡ held_by ps
length-queues s [] = refl
length-queues s (p ∷ ps) =
    omega (
      arith,
      length-append (spelled s p.queue) (concat (map (λ q. spelled s q.queue) ps)),
      length-follow s p.queue.first p.queue.held,
      length-queues s ps,
    )

pub held-set : (ps : List Pair) (p : ℕ) (x : Pair) → p < length ps → held_by (set ps p x) + (pair_at ps p).queue.held ≡ held_by ps + x.queue.held
unfolding pair_at
held-set [] p x h = absurd (not-suc-le-zero h)
held-set (q ∷ ps) zero x h = omega arith
held-set (q ∷ ps) (suc p) x h = omega (arith, held-set ps p x (le_of_suc-le-suc h))

module _ (card : Card) (t : Tables) (w : Whole card t) where
  pub free-below : Below card.slots (free t)
  free-below = subst (λ (n : ℕ). Below n (free t)) w.slot-records w.free-runs.below

  pub all-below : Below card.slots (free t ++ concat (queues t))
  all-below =
      below-append card.slots (free t) (concat (queues t)) free-below
      (below-join card.slots (queues t) (λ p h.
      rw (queue-is t p) (rw w.slot-records at (w.pairs-run p (omega (arith, queues-count t, w.pair-records))).below)))

  -- no slot is lost
  pub all_slots : held_by t.pairs + length (free t) ≡ card.slots
  all_slots =
      omega (
        arith,
        length-of-once card.slots (free t ++ concat (queues t)) all-below w.once,
        length-append (free t) (concat (queues t)),
        length-queues t.slots t.pairs,
      )

  -- no number stands twice in all the queues
  pub at-most-once : (i : ℕ) → times i (free t) + times i (concat (queues t)) ≤ 1
  at-most-once i =
      rw (← times-append i (free t) (concat (queues t)))
      (by-test (ltb i card.slots)
      (λ e. omega (arith, w.once i (ltb-true i card.slots e)))
      (λ e. omega (arith, times_below card.slots i (free t ++ concat (queues t)) all-below (ltb-false i card.slots e))))

  pub pair-and-free : (p i : ℕ) → times i (free t) + times i (queue t p) ≤ 1
  pair-and-free p i = omega (arith, at-most-once i, rw (queue-is t p) at (times-join-at i (queues t) p))

  pub two-pairs : (p r i : ℕ) → p < card.pairs → r ≢ p → times i (free t) + times i (queue t p) + times i (queue t r) ≤ 1
  two-pairs p r i h d =
      omega (arith, at-most-once i, rw (queue-is t p, queue-is t r) at (times-join-two i (queues t) p r (omega (arith, queues-count t, w.pair-records)) d))

  -- a queue's slots, all told
  pub member : (p i : ℕ) → p < card.pairs → 1 ≤ times i (free t) + times i (queue t p) → i < card.slots
  member p i h m =
      by-test (ltb i card.slots)
      (ltb-true i card.slots)
      (λ e. absurd (omega (
        arith,
        times_below card.slots i (free t) free-below (ltb-false i card.slots e),
        times_below card.slots i (queue t p) (rw w.slot-records at (w.pairs-run p h).below) (ltb-false i card.slots e),
      )))
