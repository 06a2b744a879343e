-- The one bookkeeping step: a pair and the free queue share out their slots anew. What the tables then spell.
use mathlib.Core.Path.{◌≡◌, refl, sym, ◌∙◌}
use mathlib.Core.Logic.{◌≢◌}
use mathlib.Core.List.{List, [], ◌++◌, map}
use Prim.Native.Nat.{ℕ, ◌+◌, ◌-◌, ◌<◌}
use native.Mathlib.Omega.{arith}
use lib.Dec.{eqb}
use borrow.Author.Tests.{eqb-true, eqb-false}
use lib.ListN.{length, get_or, set, length-set}
use lib.Seq.{get_or-set_same, get_or-set_other, ext_get_or}
use Rattle.refusal.proofs.Cases.{by-test}
use Rattle.rules.specs.declared.Standing.{Standing}
use Rattle.rules.specs.declared.Slot.{Slot}
use Rattle.rules.specs.Card.{Card}
use Rattle.rules.specs.Slots.{Tables, slot_at, pair_at, held_by, free_record, side_of, times, concat, queues, queue, free, side, Below, ends_of, chain, Spells, arranged}
use Rattle.rules.specs.Audit.{Whole}
use Rattle.rules.proofs.Slots.Links.{Distinct, Apart, times-append, length-chain, chain-packet, linked-same, spelled_is, spells-chain, spells-apart, below_of}
use Rattle.rules.proofs.Slots.Lists.{times-join-set, map_on}
use Rattle.rules.proofs.Slots.Queues.{pair_same, pair-other, queue-is, queues-count, length-follow, held-set, all_slots, pair-and-free, two-pairs, member}

module _ (card : Card) (t : Tables) (w : Whole card t) where
  -- the lists F and Q share out the slots of the free queue and of p's; the slots s have the same links, and differ only in Q's packets
  module _ (p : ℕ) (hp : p < card.pairs) (st : Standing) (Q F : List ℕ) (s : List Slot)
      (as_long : length s ≡ length t.slots)
      (same-links : (i : ℕ) → (slot_at s i).link ≡ (slot_at t.slots i).link)
      (same-others : (i : ℕ) → times i Q ≡ 0 → (slot_at s i).packet ≡ (slot_at t.slots i).packet)
      (share : (i : ℕ) → times i F + times i Q ≡ times i (free t) + times i (queue t p))
      (as_many : length F + length Q ≡ length (free t) + length (queue t p)) where
    next : Tables
    next = arranged card.none p st Q F s t

    F-distinct : Distinct F
    F-distinct i = omega (arith, share i, pair-and-free card t w p i)

    Q-distinct : Distinct Q
    Q-distinct i = omega (arith, share i, pair-and-free card t w p i)

    F-Q : Apart F Q
    F-Q i = omega (arith, share i, pair-and-free card t w p i)

    F-others : (r : ℕ) → r ≢ p → Apart F (queue t r)
    F-others r d i = omega (arith, share i, two-pairs card t w p r i hp d)

    Q-others : (r : ℕ) → r ≢ p → Apart Q (queue t r)
    Q-others r d i = omega (arith, share i, two-pairs card t w p r i hp d)

    F-below : Below (length s) F
    F-below = below_of (length s) F (λ i m. rw (as_long, w.slot-records) (member card t w p i hp (omega (arith, share i))))

    Q-below : Below (length s) Q
    Q-below = below_of (length s) Q (λ i m. rw (as_long, w.slot-records) (member card t w p i hp (omega (arith, share i))))

    -- the queues after
    held_after : held_by (set t.pairs p (record { standing = st; queue = ends_of card.none Q })) + length F ≡ card.slots
    held_after =
        omega (
          arith,
          held-set t.pairs p (record { standing = st; queue = ends_of card.none Q }) (omega (arith, w.pair-records)),
          length-follow t.slots (pair_at t.pairs p).queue.first (pair_at t.pairs p).queue.held,
          as_many,
          all_slots card t w,
        )

    pub free-after : Spells card.none (arranged card.none p st Q F s t).slots (free_record (arranged card.none p st Q F s t)) F
    unfolding arranged
    free-after =
        record { first = refl; last = refl; held = count; linked = c.linked; below = c.below }
      where
        c : Spells card.none (chain card.none F (chain card.none Q s)) (ends_of card.none F) F
        c = spells-chain card.none F (chain card.none Q s) F-distinct (rw length-chain F-below)

        count : length (chain card.none F (chain card.none Q s)) - held_by (set t.pairs p (record { standing = st; queue = ends_of card.none Q })) ≡ length F
        count = omega (arith, length-chain card.none F (chain card.none Q s), length-chain card.none Q s, as_long, w.slot-records, held_after)

    pub pair-after : Spells card.none (arranged card.none p st Q F s t).slots (pair_at (arranged card.none p st Q F s t).pairs p).queue Q
    unfolding arranged
    pair-after =
        rw (pair_same t.pairs p _ (omega (arith, w.pair-records)))
        (spells-apart card.none F F-Q (spells-chain card.none Q s Q-distinct Q-below))

    pub others-after : (r : ℕ) → r < card.pairs → r ≢ p
        → Spells card.none (arranged card.none p st Q F s t).slots (pair_at (arranged card.none p st Q F s t).pairs r).queue (queue t r)
    unfolding arranged
    others-after r h d =
        rw (pair-other t.pairs p r _ d)
        (spells-apart card.none F (F-others r d) (spells-apart card.none Q (Q-others r d)
        (record { first = run.first; last = run.last; held = run.held; linked = linked-same card.none t.slots s same-links (queue t r) run.linked; below = rw as_long run.below })))
      where
        run : Spells card.none t.slots (pair_at t.pairs r).queue (queue t r)
        run = w.pairs-run r h

    -- the account: p's side is as given, and no other side moves
    pub side-arranged : side (arranged card.none p st Q F s t) p ≡ record { standing = st; packets = map (λ i. (slot_at s i).packet) Q }
    unfolding side side_of arranged
    side-arranged = λ i. record { standing = standing i; packets = packets i }
      where
        standing : (pair_at (arranged card.none p st Q F s t).pairs p).standing ≡ st
        standing = rw (pair_same t.pairs p _ (omega (arith, w.pair-records)))

        packets : map (λ i. (slot_at (arranged card.none p st Q F s t).slots i).packet) (queue (arranged card.none p st Q F s t) p) ≡ map (λ i. (slot_at s i).packet) Q
        packets = rw (spelled_is card.none pair-after) (simp chain-packet)

    pub side-others : (r : ℕ) → r < card.pairs → r ≢ p → side (arranged card.none p st Q F s t) r ≡ side t r
    unfolding side side_of arranged
    side-others r h d = λ i. record { standing = standing i; packets = packets i }
      where
        standing : (pair_at (arranged card.none p st Q F s t).pairs r).standing ≡ (pair_at t.pairs r).standing
        standing = rw (pair-other t.pairs p r _ d)

        packets : map (λ i. (slot_at (arranged card.none p st Q F s t).slots i).packet) (queue (arranged card.none p st Q F s t) r)
            ≡ map (λ i. (slot_at t.slots i).packet) (queue t r)
        packets =
            rw (spelled_is card.none (others-after r h d))
            (simp chain-packet (map_on (λ i. (slot_at s i).packet) (λ i. (slot_at t.slots i).packet) (queue t r)
            (λ i m. same-others i (omega (arith, Q-others r d i)))))

    pub pairs-after : length (arranged card.none p st Q F s t).pairs ≡ length t.pairs
    unfolding arranged
    pairs-after = simp length-set

    pub slots-after : length (arranged card.none p st Q F s t).slots ≡ length t.slots
    unfolding arranged
    slots-after = simp (length-chain, as_long)

    -- the lists after, all together
    pub queues-after : queues (arranged card.none p st Q F s t) ≡ set (queues t) p Q
    queues-after = ext_get_or [] _ _ counts at
      where
        after : Tables
        after = arranged card.none p st Q F s t

        counts : length (queues after) ≡ length (set (queues t) p Q)
        counts = queues-count after ∙ pairs-after ∙ sym (length-set (queues t) p Q ∙ queues-count t)

        at : (r : ℕ) → r < length (queues after) → get_or (queues after) r [] ≡ get_or (set (queues t) p Q) r []
        at r h =
            queue-is after r
            ∙ by-test (eqb r p)
            (λ e. rw (eqb-true r p e) (spelled_is card.none pair-after ∙ sym (get_or-set_same (queues t) p _ [] (omega (arith, queues-count t, w.pair-records)))))
            (λ e.
            spelled_is card.none (others-after r (omega (arith, queues-count after, pairs-after, w.pair-records)) (eqb-false r p e))
            ∙ sym (get_or-set_other (queues t) p r _ [] (eqb-false r p e) ∙ queue-is t r))

    pub once_after : (i : ℕ) → i < card.slots → times i (free (arranged card.none p st Q F s t) ++ concat (queues (arranged card.none p st Q F s t))) ≡ 1
    once_after i h =
        rw (queues-after, spelled_is card.none free-after)
        (omega (
          arith,
          times-append i F (concat (set (queues t) p Q)),
          share i,
          rw (queue-is t p) at (times-join-set i (queues t) p Q (omega (arith, queues-count t, w.pair-records))),
          rw times-append at (w.once i h),
        ))

    -- whole tables stay whole
    pub whole-after : ((st.state ≡ 1 → ⊥) → length Q ≡ 0) → Whole card (arranged card.none p st Q F s t)
    unfolding arranged
    whole-after few =
        record {
          pair-records = pairs-after ∙ w.pair-records;
          slot-records = slots-after ∙ w.slot-records;
          pairs-run = runs;
          free-runs = rw (spelled_is card.none free-after) free-after;
          once = once_after;
          others-empty = empty;
        }
      where
        runs : (r : ℕ) → r < card.pairs
            → Spells card.none (arranged card.none p st Q F s t).slots (pair_at (arranged card.none p st Q F s t).pairs r).queue (queue (arranged card.none p st Q F s t) r)
        runs r h =
            by-test (eqb r p)
            (λ e. rw (eqb-true r p e) (rw (spelled_is card.none pair-after) pair-after))
            (λ e. let x = others-after r h (eqb-false r p e) in rw (spelled_is card.none x) x)

        empty : (r : ℕ) → r < card.pairs → ((pair_at (arranged card.none p st Q F s t).pairs r).standing.state ≡ 1 → ⊥)
            → (pair_at (arranged card.none p st Q F s t).pairs r).queue.held ≡ 0
        empty r h n =
            by-test (eqb r p)
            (λ e.
            rw (eqb-true r p e, pair_same t.pairs p _ (omega (arith, w.pair-records)))
            (few (rw (eqb-true r p e, pair_same t.pairs p _ (omega (arith, w.pair-records))) at n)))
            (λ e.
            rw (pair-other t.pairs p r _ (eqb-false r p e))
            (w.others-empty r h (rw (pair-other t.pairs p r _ (eqb-false r p e)) at n)))
