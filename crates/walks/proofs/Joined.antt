-- Slots join a pair with a post's packets (`joined_is`): the tables after it are the rules' `stored`.
use mathlib.Core.Path.{◌≡◌, refl, sym, ap, ◌∙◌}
use mathlib.Core.Bool.{false}
use mathlib.Core.List.{List, ◌∷◌, ◌++◌, map}
use Prim.Native.Nat.{ℕ, zero, suc, ◌+◌, ◌≤◌, ◌<◌, min}
use native.Mathlib.Omega.{arith}
use native.Mathlib.Nat.{min-eq_left}
use lib.ListN.{length, set, take, drop, length-append}
use Rattle.rules.specs.declared.Packet.{Packet}
use Rattle.rules.specs.declared.Post.{Post}
use Rattle.rules.specs.declared.Settings.{Settings}
use Rattle.rules.specs.declared.Standing.{Standing}
use Rattle.rules.specs.Card.{small}
use Rattle.rules.specs.Message.{from, slots_for, packets_of}
use Rattle.rules.specs.Ranges.{bad_settings}
use Rattle.rules.specs.WholeMessages.{Allowed}
use Rattle.rules.specs.Slots.{Tables, pair_at, queue, free_record, free, first_of, last_of, ends_of, arranged, stored}
use Rattle.rules.specs.Audit.{Whole}
use Rattle.rules.proofs.Slots.Queues.{free-below, pair-and-free}
use Rattle.rules.proofs.Slots.Stored.{stored-slots}
use Rattle.rules.proofs.Sides.Good.{length-packets}
use Rattle.message.specs.Capped.{cut}
use Rattle.message.specs.Places.{place_at}
use Rattle.message.proofs.Cuts.{capped_same}
use Rattle.message.proofs.Fitting.{split-is, place-fits}
use Rattle.walks.specs.Acting.{Joined, join}
use Rattle.walks.specs.Begun.{to_pair}
use Rattle.walks.specs.Ended.{longer, free_shorter}
use Rattle.walks.proofs.Left.{held-and-free}
use Rattle.walks.proofs.Moved.{Ready, ready_of, Moved}
use Rattle.walks.proofs.Put.{packet_for, joined-moved}
use Rattle.walks.proofs.Rear.{none, free-shorter-is}

-- two functions that agree below a number
map_below : (f g : ℕ → Packet) (a n : ℕ) → ((i : ℕ) → i < a + n → f i ≡ g i) → map f (from a n) ≡ map g (from a n)
map_below f g a zero h = refl
map_below f g a (suc n) h = λ i. h a (omega arith) i ∷ map_below f g (suc a) n (λ j b. h j (omega arith)) i

-- a post's packets are to join pair p
abbrev pub joiner : Tables → ℕ → Post → Joined
joiner t p m = record { work = to_pair (pair_at t.pairs p) t.ends (slots_for (pair_at t.pairs p).standing.settings m) m; slots = t.slots }

module _ (t : Tables) (w : Whole small t) (p : ℕ) (hp : p < small.pairs) (st : Standing) (m : Post) where
  abbrev settings : Settings
  settings = (pair_at t.pairs p).standing.settings

  abbrev first : ℕ
  first = (pair_at t.pairs p).standing.line.n

  abbrev packets : List Packet
  packets = packets_of settings m first

  -- as many as its slots (`length-packets`)
  abbrev k : ℕ
  k = length packets

  abbrev begun : Joined
  begun = joiner t p m

  module _ (ok : Allowed settings m) (good : bad_settings small settings ≡ false) (room : slots_for settings m ≤ length (free t)) where
    ready : Ready begun.work.moving t.slots (queue t p) (take k (free t)) (drop k (free t))
    ready =
        rw (length-packets settings m first)
        (ready_of t.slots (slots_for settings m) (free_record t) (pair_at t.pairs p).queue (free t) (queue t p) w.free-runs (w.pairs-run p hp)
        (λ i. omega (arith, pair-and-free small t w p i)) room (omega (arith, w.slot-records)))

    many : length (take k (free t)) ≡ slots_for settings m
    many = sym ready.left

    put_is : map (packet_for begun.work) (from 0 (length (take k (free t)))) ≡ packets
    put_is =
        rw many
        (map_below (packet_for begun.work) (place_at settings m first) 0 (slots_for settings m)
        (λ i h. ap (λ (s : Settings). cut (place_at s m first i)) (capped_same settings good) ∙ place-fits settings m first i ok (omega arith))
        ∙ split-is settings m first)

    after : Moved (join begun).work.moving t.slots (join begun).slots (queue t p) (take k (free t)) (drop k (free t)) packets
    after = rw put_is at (joined-moved (take k (free t)) (queue t p) (drop k (free t)) begun ready (sym many))

    queue-after : longer (pair_at t.pairs p).queue (slots_for settings m) (join begun).work.moving ≡ ends_of none (queue t p ++ take k (free t))
    queue-after = λ i. record { first = (after.work i).first; last = (after.work i).last; held = held i }
      where
        few : (pair_at t.pairs p).queue.held + slots_for settings m ≤ small.slots
        few = omega (arith, held-and-free t w p hp, room)

        held : min ((pair_at t.pairs p).queue.held + slots_for settings m) small.slots ≡ length (queue t p ++ take k (free t))
        held = min-eq_left few ∙ omega (arith, (w.pairs-run p hp).held, length-append (queue t p) (take k (free t)), many)

    ends-after : free_shorter t.ends (join begun).work.moving ≡ record { first = first_of none (drop k (free t)); last = last_of none (drop k (free t)) }
    ends-after =
        free-shorter-is (free t) k (join begun).work.moving (λ i. (after.work i).at) t.ends w.free-runs.last (free-below small t w)

    pub joined_is : let y = join (joiner t p m) in
        record {
          pairs = set t.pairs p (record { standing = st; queue = longer (pair_at t.pairs p).queue (slots_for settings m) y.work.moving });
          ends = free_shorter t.ends y.work.moving;
          slots = y.slots;
        } ≡ stored none p st packets t
    unfolding arranged
    joined_is =
        λ i. record {
          pairs = set t.pairs p (record { standing = st; queue = queue-after i });
          ends = ends-after i;
          slots = (after.slots ∙ sym (stored-slots small t w p hp st packets (omega (arith, length-packets settings m first)))) i;
        }
