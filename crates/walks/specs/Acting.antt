-- The three walks that act: slots leave a pair for the free queue's end, slots from the free queue's front join a pair, packets go out.
use Rattle.std.specs.Prelude.{List, ◌++◌, ℕ, suc, ◌+◌, ◌-◌, ◌*◌, ◌%◌, ◌^◌, ltb, leb, eqb, length, set, take, drop, if◌then◌else◌}
use Rattle.wire.specs.Bytes.{bytes}
use Rattle.wire.specs.Header.{write_of, length_of}
use Rattle.rules.specs.declared.Packet.{Packet}
use Rattle.rules.specs.declared.Settings.{Settings}
use Rattle.rules.specs.declared.Slot.{Slot}
use Rattle.rules.specs.Card.{small}
use Rattle.rules.specs.Message.{is_last}
use Rattle.rules.specs.Emission.{ends, header_of, record_bytes}
use Rattle.rules.specs.Slots.{slot_at, relinked}
use Rattle.message.specs.Capped.{capped, tidy, cut}
use Rattle.message.specs.Places.{place_at, sent_by}
use Rattle.refusal.specs.Loop.{loop}
use Rattle.walks.specs.declared.Moving.{Moving}
use Rattle.walks.specs.declared.Leaving.{Leaving}
use Rattle.walks.specs.declared.Joining.{Joining}
use Rattle.walks.specs.declared.Emitting.{Emitting}

-- ---- a slot goes from the front of one queue to the end of another

abbrev pub move_step : Moving → Slot → Moving
move_step w i =
    record { left = w.left - 1; at = i.link; first = if eqb w.first small.none then w.at else w.first; last = w.at }

-- the last slot of the queue it joins leads to it
abbrev pub hung : Moving → List Slot → List Slot
hung w s = relinked w.last w.at s

-- ---- leaving: "released and flushed slots join its end in PSN order"

-- one more, in 32 bits
abbrev pub counted : ℕ → ℕ
counted n = suc n % 2 ^ 32

abbrev pub leave_step : Leaving → Slot → Leaving
leave_step w i =
    record {
      moving = move_step w.moving i;
      released = w.released - 1;
      messages = if is_last i.packet then counted w.messages else w.messages;
    }

-- "released (0) or flushed (1)"
abbrev pub status_of : Leaving → ℕ
status_of w = if ltb 0 w.released then 0 else 1

-- "each message yields its ticket, then its status": at the message's place in the lent numbers
abbrev pub completed : List ℕ → Leaving → Slot → List ℕ
completed done w i =
    if is_last i.packet then set (set done (2 * w.messages) i.packet.ticket) (2 * w.messages + 1) (status_of w) else done

-- its link leads nowhere, and it "keeps all but its link"
abbrev pub leave_slots : Leaving → List Slot → List Slot
leave_slots w s = relinked w.moving.at small.none (hung w.moving s)

pub record Left : Type 0 where
  pub work : Leaving
  pub slots : List Slot
  pub done : List ℕ

abbrev pub leave_turn : Left → Left
leave_turn x =
    let i = slot_at x.slots x.work.moving.at in
    record { work = leave_step x.work i; slots = leave_slots x.work x.slots; done = completed x.done x.work i }

abbrev pub leave : Left → Left
leave x = loop (λ (y : Left). y.work.moving.left) leave_turn x

-- ---- joining: a post's packets, from its first place on

abbrev pub join_step : Joining → Slot → Joining
join_step w i = record { moving = move_step w.moving i; total = w.total; settings = w.settings; post = w.post; first = w.first }

-- what is stored: the packet of the next place, and a link that leads nowhere
abbrev pub join_slot : Joining → Slot
join_slot w = record { link = small.none; packet = cut (place_at (capped w.settings) w.post w.first (w.total - w.moving.left)) }

abbrev pub join_slots : Joining → List Slot → List Slot
join_slots w s = set (hung w.moving s) w.moving.at (join_slot w)

pub record Joined : Type 0 where
  pub work : Joining
  pub slots : List Slot

abbrev pub join_turn : Joined → Joined
join_turn x = record { work = join_step x.work (slot_at x.slots x.work.moving.at); slots = join_slots x.work x.slots }

abbrev pub join : Joined → Joined
join x = loop (λ (y : Joined). y.work.moving.left) join_turn x

-- ---- going out: a record of 48 bytes for each packet

abbrev pub emit_step : Emitting → Slot → Emitting
emit_step w i =
    record { left = w.left - 1; total = w.total; at = i.link; x = ends (capped w.standing.settings) i.packet; standing = w.standing }

-- a record, of what is sent: on what a pair may hold it is the rules' `emission` (`record_is`)
unfoldable pub record_of : Settings → Packet → List ℕ
record_of s q =
    let w = write_of (header_of s q) in
    w.bytes ++ bytes 4 (length_of w.size) ++ bytes 4 q.ticket ++ bytes 4 q.offset ++ bytes 4 q.length

-- new bytes in place of those at a place, if there are as many
unfoldable pub placed : ℕ → List ℕ → List ℕ → List ℕ
placed at new old = if leb (at + length new) (length old) then take at old ++ new ++ drop (at + length new) old else old

abbrev pub recorded : List ℕ → Emitting → Slot → List ℕ
recorded out w i =
    placed (record_bytes * (w.total - w.left)) (record_of (capped w.standing.settings) (sent_by (tidy w.standing) i.packet)) out

pub record Emitted : Type 0 where
  pub work : Emitting
  pub out : List ℕ

abbrev pub emit_turn : List Slot → Emitted → Emitted
emit_turn s x =
    let i = slot_at s x.work.at in
    record { work = emit_step x.work i; out = recorded x.out x.work i }

abbrev pub emit : List Slot → Emitted → Emitted
emit s x = loop (λ (y : Emitted). y.work.left) (emit_turn s) x
