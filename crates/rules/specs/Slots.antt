-- The tables, and a queue as the list of slot numbers that its links spell. `none` is the number that stands for no slot.
use Rattle.std.specs.Prelude.{◌≡◌, List, [], ◌∷◌, ◌++◌, map, ℕ, zero, suc, ◌+◌, ◌-◌, ◌<◌, eqb, length, get_or, set, take, drop, replicate, if◌then◌else◌}
use Rattle.refusal.specs.Choice.{Each}
use Rattle.rules.specs.declared.Packet.{Packet}
use Rattle.rules.specs.declared.Standing.{Standing}
use Rattle.rules.specs.declared.Queue.{Queue}
use Rattle.rules.specs.declared.Ends.{Ends}
use Rattle.rules.specs.declared.Pair.{Pair}
use Rattle.rules.specs.declared.Slot.{Slot}
use Rattle.rules.specs.Card.{Card}
use Rattle.rules.specs.Account.{Side, no_packet, no_standing}
use Rattle.rules.specs.Message.{from}

-- what the host lends
pub record Tables : Type 0 where
  pub pairs : List Pair
  pub ends : Ends
  pub slots : List Slot

-- ---- records at a place; past the end of a table all is 0

abbrev pub no_slot : Slot
no_slot = record { link = 0; packet = no_packet }

abbrev pub no_pair : Pair
no_pair = record { standing = no_standing; queue = record { first = 0; last = 0; held = 0 } }

unfoldable pub slot_at : List Slot → ℕ → Slot
slot_at s i = get_or s i no_slot

unfoldable pub pair_at : List Pair → ℕ → Pair
pair_at ps p = get_or ps p no_pair

-- ---- a queue

-- k slot numbers, from `at` on by the links
abbrev pub follow : List Slot → ℕ → ℕ → List ℕ
follow s at zero = []
follow s at (suc k) = at ∷ follow s (slot_at s at).link k

-- those that a queue's record spells
abbrev pub spelled : List Slot → Queue → List ℕ
spelled s q = follow s q.first q.held

abbrev pub queue : Tables → ℕ → List ℕ
queue t p = spelled t.slots (pair_at t.pairs p).queue

abbrev pub queues : Tables → List (List ℕ)
queues t = map (λ p. spelled t.slots p.queue) t.pairs

-- the free queue: the lent ends, and as many slots as no pair holds
abbrev pub held_by : List Pair → ℕ
held_by [] = 0
held_by (p ∷ ps) = p.queue.held + held_by ps

abbrev pub free_record : Tables → Queue
free_record t = record { first = t.ends.first; last = t.ends.last; held = length t.slots - held_by t.pairs }

abbrev pub free : Tables → List ℕ
free t = spelled t.slots (free_record t)

-- how often a number stands in a list
abbrev pub times : ℕ → List ℕ → ℕ
times i [] = 0
times i (a ∷ l) = (if eqb i a then 1 else 0) + times i l

abbrev pub concat : List (List ℕ) → List ℕ
concat [] = []
concat (l ∷ ls) = l ++ concat ls

-- ---- a pair's side of the account, read off the tables

unfoldable pub side_of : List Slot → Pair → Side
side_of s p = record { standing = p.standing; packets = map (λ i. (slot_at s i).packet) (spelled s p.queue) }

unfoldable pub side : Tables → ℕ → Side
side t p = side_of t.slots (pair_at t.pairs p)

abbrev pub sides : Tables → List Side
sides t = map (side_of t.slots) t.pairs

-- ---- what is written to slots

-- slot i with the link k
unfoldable pub relinked : ℕ → ℕ → List Slot → List Slot
relinked i k s = set s i (record { link = k; packet = (slot_at s i).packet })

-- slot i with the packet q
unfoldable pub holding : ℕ → Packet → List Slot → List Slot
holding i q s = set s i (record { link = (slot_at s i).link; packet = q })

-- the slots of a list with the packets of a list
abbrev pub filled : List ℕ → List Packet → List Slot → List Slot
filled [] qs s = s
filled (i ∷ l) [] s = s
filled (i ∷ l) (q ∷ qs) s = holding i q (filled l qs s)

-- every number of the list is below n
abbrev pub Below : ℕ → List ℕ → Type 0
Below n l = Each (λ (a : ℕ). a < n) l

module _ (none : ℕ) where
  -- "256 stands for no slot, in a last link and at an empty queue's ends"
  abbrev pub first_of : List ℕ → ℕ
  first_of [] = none
  first_of (a ∷ l) = a

  abbrev pub last_of : List ℕ → ℕ
  last_of [] = none
  last_of (a ∷ []) = a
  last_of (a ∷ b ∷ l) = last_of (b ∷ l)

  abbrev pub ends_of : List ℕ → Queue
  ends_of l = record { first = first_of l; last = last_of l; held = length l }

  -- the slots with a list's links: each has the next, the last has none
  abbrev pub chain : List ℕ → List Slot → List Slot
  chain [] s = s
  chain (a ∷ l) s = relinked a (first_of l) (chain l s)

  -- the links of a list are there
  abbrev pub Linked : List Slot → List ℕ → Type 0
  Linked s [] = Unit {0}
  Linked s (a ∷ l) = ((slot_at s a).link ≡ first_of l) × Linked s l

  -- a queue's record and the links spell the list: it "runs by its links from its first end to its last"
  pub record Spells (s : List Slot) (q : Queue) (l : List ℕ) : Type 0 where
    pub first : q.first ≡ first_of l
    pub last : q.last ≡ last_of l
    pub held : q.held ≡ length l
    pub linked : Linked s l
    pub below : Below (length s) l

  -- ---- bookkeeping: pair p stands as given and holds the slots `held`, the free queue has `rest`, and the links say so
  unfoldable pub arranged : ℕ → Standing → List ℕ → List ℕ → List Slot → Tables → Tables
  arranged p standing held rest slots t =
      record {
        pairs = set t.pairs p (record { standing = standing; queue = ends_of held });
        ends = record { first = first_of rest; last = last_of rest };
        slots = chain rest (chain held slots);
      }

  -- "released and flushed slots join its end in PSN order": k slots leave pair p, from the front. "A freed slot keeps all but its link."
  abbrev pub freed : ℕ → Standing → ℕ → Tables → Tables
  freed p standing k t = arranged p standing (drop k (queue t p)) (free t ++ take k (queue t p)) t.slots t

  -- "The free queue is first in, first out": packets are stored in slots from its front, which join pair p's end
  abbrev pub stored : ℕ → Standing → List Packet → Tables → Tables
  stored p standing qs t =
      let took = take (length qs) (free t) in
      arranged p standing (queue t p ++ took) (drop (length qs) (free t)) (filled took qs t.slots) t

-- "A fresh start closes all pairs, zeroes all fields but links and frees slots 0 to 255 in that order."
unfoldable pub fresh : Card → Tables
fresh card =
    let all = from 0 card.slots in
    record {
      pairs = replicate card.pairs (record { standing = no_standing; queue = ends_of card.none [] });
      ends = record { first = first_of card.none all; last = last_of card.none all };
      slots = chain card.none all (replicate card.slots no_slot);
    }
