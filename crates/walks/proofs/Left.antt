-- Slots leave a pair (`left_is`): the tables after it are the rules' `freed`, the count and the lent numbers are those of the packets that left.
use mathlib.Core.Path.{◌≡◌, refl, sym, ap, ◌∙◌}
use mathlib.Core.List.{List, [], ◌++◌}
use Prim.Native.Nat.{ℕ, ◌+◌, ◌*◌, ◌≤◌, ◌<◌}
use native.Mathlib.Omega.{arith}
use lib.ListN.{length, set, take, drop}
use Rattle.rules.specs.declared.Standing.{Standing}
use Rattle.rules.specs.Card.{small}
use Rattle.rules.specs.Outcome.{departures, completions, messages_of}
use Rattle.rules.specs.Calls.{overlaid}
use Rattle.rules.specs.Slots.{Tables, slot_at, pair_at, side_of, side, queue, free_record, free, first_of, last_of, ends_of, arranged, freed}
use Rattle.rules.specs.Audit.{Whole}
use Rattle.rules.proofs.Slots.Lists.{map-take}
use Rattle.rules.proofs.Slots.Queues.{all_slots, held-set, pair-and-free}
use Rattle.rules.proofs.Slots.Freed.{freed-slots}
use Rattle.walks.specs.Acting.{Left, leave_turn, leave}
use Rattle.walks.specs.Begun.{to_free}
use Rattle.walks.specs.Ended.{shorter, free_longer}
use Rattle.walks.proofs.Moved.{Ready, ready_of, along}
use Rattle.walks.proofs.Kept.{gone_from, leave-along, left-moved, left-slots}
use Rattle.walks.proofs.Completed.{gone, gone-is, Completes, left-completed}
use Rattle.walks.proofs.Rear.{none, shorter-is}

-- no pair holds more slots than the free queue leaves
pub held-and-free : (t : Tables) → Whole small t → (p : ℕ) → p < small.pairs → (pair_at t.pairs p).queue.held + length (free t) ≤ small.slots
held-and-free t w p hp =
    omega (
      arith,
      held-set t.pairs p (record { standing = (pair_at t.pairs p).standing; queue = record { first = 0; last = 0; held = 0 } }) (omega (arith, w.pair-records)),
      all_slots small t w,
    )

pub held-most : (t : Tables) → Whole small t → (p : ℕ) → p < small.pairs → (pair_at t.pairs p).queue.held ≤ small.slots
held-most t w p hp = omega (arith, held-and-free t w p hp)

-- so many slots of the front of pair p are to leave
abbrev pub leaver : Tables → ℕ → ℕ → ℕ → List ℕ → Left
leaver t p released flushed lent = record { work = to_free (pair_at t.pairs p) t.ends released flushed; slots = t.slots; done = lent }

-- they have left, as the rules say
pub record IsLeft (t : Tables) (p : ℕ) (st : Standing) (released flushed : ℕ) (lent : List ℕ) (y : Left) : Type 0 where
  pub tables : record {
    pairs = set t.pairs p (record { standing = st; queue = shorter (pair_at t.pairs p).queue (released + flushed) y.work.moving });
    ends = free_longer y.work.moving;
    slots = y.slots;
  } ≡ freed none p st (released + flushed) t
  pub messages : y.work.messages ≡ messages_of (departures released flushed (side t p).packets)
  pub done : y.done ≡ overlaid (completions (departures released flushed (side t p).packets)) lent

module _ (t : Tables) (w : Whole small t) (p : ℕ) (hp : p < small.pairs) (st : Standing) (released flushed : ℕ)
    (most : released + flushed ≤ (pair_at t.pairs p).queue.held) (lent : List ℕ) (room : 2 * (released + flushed) ≤ length lent) where
  abbrev k : ℕ
  k = released + flushed

  abbrev begun : Left
  begun = leaver t p released flushed lent

  ready : Ready begun.work.moving t.slots (free t) (take k (queue t p)) (drop k (queue t p))
  ready =
      ready_of t.slots k (pair_at t.pairs p).queue (free_record t) (queue t p) (free t) (w.pairs-run p hp) w.free-runs
      (pair-and-free small t w p) (omega (arith, (w.pairs-run p hp).held)) (omega (arith, w.slot-records))

  work-after : (leave begun).work.moving
      ≡ record { left = 0; at = first_of none (drop k (queue t p)); first = first_of none (free t ++ take k (queue t p)); last = last_of none (free t ++ take k (queue t p)) }
  work-after = (left-moved (take k (queue t p)) (free t) (drop k (queue t p)) begun ready).work

  slots-after : (leave begun).slots ≡ (freed none p st k t).slots
  slots-after = left-slots (take k (queue t p)) (free t) (drop k (queue t p)) begun ready ∙ sym (freed-slots small t w p hp st k)

  queue-after : shorter (pair_at t.pairs p).queue k (leave begun).work.moving ≡ ends_of none (drop k (queue t p))
  queue-after =
      shorter-is (queue t p) k (leave begun).work.moving (λ i. (work-after i).at) (pair_at t.pairs p).queue (w.pairs-run p hp).last (w.pairs-run p hp).held

  departed : gone released (along gone_from leave_turn k begun) ≡ departures released flushed (side t p).packets
  unfolding side side_of
  departed =
      ap (gone released)
      (ap (λ (n : ℕ). along gone_from leave_turn n begun) ready.left
      ∙ leave-along (take k (queue t p)) (free t) (drop k (queue t p)) begun ready
      ∙ sym (map-take (λ i. (slot_at t.slots i).packet) k (queue t p)))
      ∙ gone-is released flushed (side t p).packets

  written : Completes 0 [] lent (departures released flushed (side t p).packets) (leave begun)
  written =
      let all = held-most t w p hp in
      rw (← departed) (left-completed k begun [] lent refl refl refl (omega arith) (omega arith))

  pub left_is : IsLeft t p st released flushed lent (leave (leaver t p released flushed lent))
  unfolding arranged
  left_is =
      record {
        tables = λ i. record { pairs = set t.pairs p (record { standing = st; queue = queue-after i }); ends = free_longer (work-after i); slots = slots-after i };
        messages = omega (arith, written.messages);
        done = written.done;
      }
