-- The three demands on the requester, as statements about `call`. Their proofs are in proofs/Demands.
use Rattle.std.specs.Prelude.{◌≡◌, ◌↔◌, ◌≢◌, false, ◌&&◌, List, [], ◌∷◌, ◌++◌, map, ℕ, ◌+◌, ◌*◌, ◌≤◌, ◌<◌, min, ltb, length, take, drop, None, Ok, if◌then◌else◌}
use Rattle.psn.specs.Psn.{half, distance, before}
use Rattle.refusal.specs.declared.Refusal.TheVariants as refusal
use Rattle.refusal.specs.Refusals.{first_given}
use Rattle.rules.specs.declared.Packet.{Packet}
use Rattle.rules.specs.declared.Line.{Line}
use Rattle.rules.specs.declared.Post.{Post}
use Rattle.rules.specs.declared.Reply.TheVariants.{First, Count}
use Rattle.rules.specs.Card.{Card}
use Rattle.rules.specs.Account.{Side, ready, U, X, H, N, updated, further}
use Rattle.rules.specs.Message.{slots_for, psns_for}
use Rattle.rules.specs.Ranges.{bad_post, largest_budget}
use Rattle.rules.specs.Emission.{ends, record_bytes, emissions}
use Rattle.rules.specs.Outcome.{Departure, completions}
use Rattle.rules.specs.Slots.{Tables, slot_at, queue, queues, free, times, concat, side, sides, fresh}
use Rattle.rules.specs.Audit.{Audit}
use Rattle.rules.specs.Requests.{Request, posting, emitting, Call, starting, on, lent, number_of}
use Rattle.rules.specs.Refusals.{side_at, any_read, refusals}
use Rattle.rules.specs.Calls.{Move, leaves, joins, effect, Step, started, refuse, account, call}
use Rattle.rules.specs.History.{ledger, accounted, called}

-- the buffer lent with a call
abbrev pub buffer : Call → List ℕ
buffer starting = []
buffer (on p q) = lent q

-- what a move does to a pair's queue and to the free queue: "first in, first out; released and flushed slots join its end in PSN order"
abbrev pub queue_after : Move → List ℕ → List ℕ → List ℕ
queue_after (leaves released flushed) free held = drop (released + flushed) held
queue_after (joins qs) free held = held ++ take (length qs) free

abbrev pub free_after : Move → List ℕ → List ℕ → List ℕ
free_after (leaves released flushed) free held = free ++ take (released + flushed) held
free_after (joins qs) free held = drop (length qs) free

-- the slots that it stores packets in
abbrev pub stored_in : Move → List ℕ → List ℕ
stored_in (leaves released flushed) free = []
stored_in (joins qs) free = take (length qs) free

-- "the records ending after X", each tested by itself
abbrev pub ends_after_x : Side → List Packet → List Packet
ends_after_x s [] = []
ends_after_x s (q ∷ qs) = if before (U s) (X s) (ends s.standing.settings q) then q ∷ ends_after_x s qs else ends_after_x s qs

abbrev pub ending_after : Side → List Packet
ending_after s = ends_after_x s s.packets

-- the same pair with this line
abbrev pub with_line : Line → Side → Side
with_line l s = record { standing = updated l s.standing.clock s.standing; packets = s.packets }

module _ (card : Card) where
  -- ---- demand 1: "Every call takes any arguments, any frame bytes and any contents of the tables lent to it, and ends. A refusal gives its number and changes
  -- no table and no lent buffer." That it ends is that `call` is a function of all of them

  pub record Harmless (c : Call) (t : Tables) : Type 0 where
    pub tables : 0 < number_of (call card c t).said.reply → (call card c t).next ≡ t
    pub kept : 0 < number_of (call card c t).said.reply → (call card c t).said.buffer ≡ buffer c
    -- refused or not, the buffer stays as long as it was
    pub as_long : length (call card c t).said.buffer ≡ length (buffer c)

  -- 15, "the audit does not pass": given exactly then
  abbrev pub Audits : ℕ → Request → Tables → Type 0
  Audits p q t = (number_of (call card (on p q) t).said.reply ≡ 15) ↔ (Audit card t → ⊥)

  abbrev pub Demand1 : Type 0
  Demand1 = ((c : Call) (t : Tables) → Harmless c t) × ((p : ℕ) (q : Request) (t : Tables) → Audits p q t)

  -- ---- demand 2: "every open, post, emission, acknowledgement, read response, timer step and close does exactly what document 01 says, from every set of
  -- tables that passes its audit"

  -- it says what the account says, does to the pairs' sides what the account does, and leaves tables that pass
  pub record Agree (c : Step Tables) (a : Step (List Side)) : Type 0 where
    pub said : c.said ≡ a.said
    pub sides-after : sides c.next ≡ a.next
    pub audited : Audit card c.next

  -- where it is not refused and tables t become n by the move m of pair p, slots move as 01 says, no other pair's do, and "A freed slot keeps all but its link."
  pub record Tidy (p : ℕ) (m : Move) (t n : Tables) : Type 0 where
    pub queue-after : queue n p ≡ queue_after m (free t) (queue t p)
    pub free-after : free n ≡ free_after m (free t) (queue t p)
    pub others-after : (r : ℕ) → r < card.pairs → r ≢ p → queue n r ≡ queue t r
    pub kept : (i : ℕ) → times i (stored_in m (free t)) ≡ 0 → (slot_at n.slots i).packet ≡ (slot_at t.slots i).packet

  -- "a fresh start tests only the two lengths (15)": on any tables whatever
  pub record Starts (t : Tables) : Type 0 where
    pub right : length t.pairs ≡ card.pairs → length t.slots ≡ card.slots → call card starting t ≡ started (fresh card)
    pub wrong : (length t.pairs ≡ card.pairs → length t.slots ≡ card.slots → ⊥) → call card starting t ≡ refuse refusal.Audit [] t

  -- an emission that nothing is wrong with, at tables t
  pub record CanEmit (p budget : ℕ) (b : List ℕ) (t : Tables) : Type 0 where
    pub audited : Audit card t
    pub pair : p < card.pairs
    pub is-ready : (side t p).standing.state ≡ ready
    pub some : 1 ≤ budget
    pub most : budget ≤ largest_budget
    pub long : record_bytes * budget ≤ length b

  -- "the number of packets written equals the smaller of the budget and the records ending after X; a held pair writes 0. X moves past them, H to the further of H
  -- and X. Other buffer bytes stay." Of pair p that was s, and what the emission came to
  pub record Emits (p budget : ℕ) (b : List ℕ) (s : Side) (n : Step Tables) : Type 0 where
    pub went : ℕ
    pub number : went ≡ (if ltb 0 s.standing.clock.hold then 0 else min budget (length (ending_after s)))
    pub said : n.said.reply ≡ Ok (Count went)
    pub written : n.said.buffer ≡ emissions s.standing (take went (ending_after s)) ++ drop (record_bytes * went) b
    -- what waits then is what waited, less those that went
    pub left : ending_after (side n.next p) ≡ drop went (ending_after s)
    pub h-after : H (side n.next p) ≡ further (U s) (H s) (X (side n.next p))
    -- and nothing but X and H moves
    pub kept : side n.next p ≡ with_line (record { u = U s; x = X (side n.next p); h = H (side n.next p); n = N s }) s

  pub record Demand2 : Type 0 where
    pub exact : (c : Call) (t : Tables) → Audit card t → Agree (call card c t) (account card c (sides t))
    pub tidy : (p : ℕ) (q : Request) (t : Tables) → Audit card t → first_given (refusals card q p (sides t)) ≡ None
        → Tidy p (effect q (side t p)).move t (call card (on p q) t).next
    pub starts : (t : Tables) → Starts t
    pub emits : (p budget : ℕ) (b : List ℕ) (t : Tables) → CanEmit p budget b t → Emits p budget b (side t p) (call card (on p (emitting budget b)) t)

  -- ---- demand 3: "After any sequence of calls from a fresh start"

  -- a post that meets none of 1 to 4, 6 and 7, and whose slots with those held stay within the share, at tables t
  pub record WithinShare (t : Tables) (p : ℕ) (m : Post) : Type 0 where
    pub pair : p < card.pairs
    pub is-ready : (side t p).standing.state ≡ ready
    pub in-range : bad_post m ≡ false
    pub unfenced : m.fenced && any_read (side t p).packets ≡ false
    pub near : distance (U (side t p)) (N (side t p)) + psns_for (side t p).standing.settings m ≤ half
    pub share : length (queue t p) + slots_for (side t p).standing.settings m ≤ (side t p).standing.settings.share

  pub record Faithful (cs : List Call) : Type 0 where
    pub audited : Audit card (called card cs).last
    -- every answer and every lent buffer is the account's
    pub said : (called card cs).said ≡ (accounted card cs).said
    -- "each pair holds exactly the packets": its record and queue say what the account does, settings, PSNs, counts and times too
    pub sides : (p : ℕ) → p < card.pairs → side (called card cs).last p ≡ side_at (accounted card cs).last p
    -- "that the history says were accepted and not yet released, each once, in order"
    pub held : (p : ℕ) → p < card.pairs
        → (ledger card p cs).accepted ≡ map (λ (d : Departure). d.packet) (ledger card p cs).departed ++ (side (called card cs).last p).packets
    -- each message's ticket and status were told once, when its last packet left
    pub told : (p : ℕ) → (ledger card p cs).told ≡ completions (ledger card p cs).departed
    -- "every other slot is free": each slot is in one pair's queue or in the free queue, once
    pub once : (i : ℕ) → i < card.slots → times i (free (called card cs).last ++ concat (queues (called card cs).last)) ≡ 1
    -- "no pair passes its ceiling"
    pub ceiling : (p : ℕ) → p < card.pairs → length (queue (called card cs).last p) ≤ (side (called card cs).last p).standing.settings.ceiling
    -- "a post within its share is never refused for room": it is accepted, whatever the other pairs did
    pub room : (p : ℕ) (m : Post) → WithinShare (called card cs).last p m
        → (call card (on p (posting m)) (called card cs).last).said.reply ≡ Ok (First (N (side (called card cs).last p)))

  abbrev pub Demand3 : Type 0
  Demand3 = (cs : List Call) → Faithful cs
