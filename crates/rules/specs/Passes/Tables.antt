-- The tables: each pair passes, then the free queue with what the pairs leave it; their last slots differ, and neither slots nor claims are more than there are slots.
use Rattle.std.specs.Prelude.{Bool, not, Option, None, Some, is_some, List, [], ◌∷◌, map, ℕ, ◌+◌, ◌-◌, ◌/◌, ◌%◌, ◌^◌, max, ltb, leb, eqb, length, get_or, set, replicate, if◌then◌else◌}
use Rattle.rules.specs.declared.Queue.{Queue}
use Rattle.rules.specs.declared.Pair.{Pair}
use Rattle.rules.specs.declared.Slot.{Slot}
use Rattle.rules.specs.declared.carried.Tally.{Tally}
use Rattle.rules.specs.Card.{Card}
use Rattle.rules.specs.Account.{closed}
use Rattle.rules.specs.Slots.{Tables}
use Rattle.rules.specs.Passes.Links.{links_pass}
use Rattle.rules.specs.Passes.Queue.{queue_passes}
use Rattle.rules.specs.Passes.Record.{record_passes}
use Rattle.rules.specs.Passes.Tests.{◌and◌}

-- ---- a set of slot numbers

-- i is in it if bit i % 64 of word i / 64 is 1
unfoldable pub has : List ℕ → ℕ → Bool
has m i = eqb (get_or m (i / 64) 0 / 2 ^ (i % 64) % 2) 1

-- with i, which was not in it
unfoldable pub put : List ℕ → ℕ → List ℕ
put m i = set m (i / 64) (get_or m (i / 64) 0 + 2 ^ (i % 64))

-- the empty set, with room for all slots
unfoldable pub none_of : ℕ → List ℕ
none_of slots = replicate ((slots + 63) / 64) 0

-- ---- what a queue brings to the tally

-- a queue, whether it passed, and what its pair claims
pub record Entry : Type 0 where
  pub passed : Bool
  pub queue : Queue
  pub claim : ℕ

-- a pair passes: its record, then its queue
unfoldable pub pair_passes : Card → List Slot → Pair → Bool
pair_passes card s p = record_passes card p.standing p.queue.held and queue_passes card.none s p.standing p.queue

-- an open pair claims the larger of its share and what it holds
abbrev pub claim_by : Pair → ℕ
claim_by p = if eqb p.standing.state closed then 0 else max p.standing.settings.share p.queue.held

-- a pair's entry
abbrev pub entry_of : Card → List Slot → Pair → Entry
entry_of card s p = record { passed = pair_passes card s p; queue = p.queue; claim = claim_by p }

-- ---- the tally

-- after a queue that holds nothing
abbrev pub add_claim : Tally → Entry → Tally
add_claim t e = record { words = t.words; held = t.held; claimed = t.claimed + e.claim }

-- after a queue that holds something
abbrev pub add_queue : Tally → Entry → Tally
add_queue t e = record { words = put t.words e.queue.last; held = t.held + e.queue.held; claimed = t.claimed + e.claim }

module _ (slots : ℕ) where
  -- before the first queue
  abbrev pub tally_from : Option Tally
  tally_from = Some (record { words = none_of slots; held = 0; claimed = 0 })

  -- a queue that holds something: its last slot was no other's
  abbrev pub is_new : List ℕ → Queue → Bool
  is_new m q = ltb q.last slots and not (has m q.last)

  -- the queue passed, and what it adds to either sum fits into the table
  abbrev pub tally_fits : Tally → Entry → Bool
  tally_fits t e = e.passed and leb (t.held + e.queue.held) slots and leb (t.claimed + e.claim) slots

  -- one queue on; none once some queue failed
  abbrev pub tally_step : Option Tally → Entry → Option Tally
  tally_step None e = None
  tally_step (Some t) e =
      if tally_fits t e
      then (if eqb e.queue.held 0 then Some (add_claim t e)
      else if is_new t.words e.queue then Some (add_queue t e)
      else None)
      else None

  -- queues in their order
  abbrev pub tallied : Option Tally → List Entry → Option Tally
  tallied t [] = t
  tallied t (e ∷ es) = tallied (tally_step t e) es

-- the free queue after the pairs: the lent ends, and what the pairs leave
abbrev pub leftover : ℕ → Tables → Tally → Queue
leftover slots t w = record { first = t.ends.first; last = t.ends.last; held = slots - w.held }

-- its entry: the links are all that is looked at, and it claims nothing
abbrev pub free_entry : Card → Tables → Tally → Entry
free_entry card t w = record { passed = links_pass card.none t.slots (leftover card.slots t w); queue = leftover card.slots t w; claim = 0 }

-- after the pairs
abbrev pub pairs_tally : Card → Tables → Option Tally
pairs_tally card t = tallied card.slots (tally_from card.slots) (map (entry_of card t.slots) t.pairs)

-- the free queue on; none where some pair failed
abbrev pub free_step : Card → Tables → Option Tally → Option Tally
free_step card t None = None
free_step card t (Some w) = tally_step card.slots (Some w) (free_entry card t w)

-- and after the free queue
abbrev pub whole_tally : Card → Tables → Option Tally
whole_tally card t = free_step card t (pairs_tally card t)

-- the audit's answer
unfoldable pub passes : Card → Tables → Bool
passes card t = eqb (length t.pairs) card.pairs and eqb (length t.slots) card.slots and is_some (whole_tally card t)
