-- What a call must know of its pair's queue before it decides: the first packet of a kind, found from the front on.
use Rattle.std.specs.Prelude.{Bool, false, not, ◌&&◌, ◌||◌, List, ℕ, ◌-◌, Option, None, Some, is_some, if◌then◌else◌}
use Rattle.psn.specs.Psn.{before}
use Rattle.rules.specs.declared.Packet.{Packet}
use Rattle.rules.specs.declared.Pair.{Pair}
use Rattle.rules.specs.declared.Slot.{Slot}
use Rattle.rules.specs.declared.Standing.{Standing}
use Rattle.rules.specs.Message.{is_read}
use Rattle.rules.specs.Emission.{ends}
use Rattle.rules.specs.Acknowledge.{inside}
use Rattle.rules.specs.Response.{covers}
use Rattle.rules.specs.Slots.{slot_at}
use Rattle.rules.specs.Release.{stays}
use Rattle.refusal.specs.Loop.{loop}
use Rattle.message.specs.Capped.{tidy}
use Rattle.engine.specs.declared.Ask.{Ask}
use Rattle.engine.specs.declared.Ask.TheVariants.{Open, Post, Emit, Acknowledge, Respond, Tick, Close}
use Rattle.engine.specs.declared.Seek.{Seek}
use Rattle.engine.specs.declared.Seek.TheVariants.{Read, Waiting, Staying, Covering}
use Rattle.outcomes.specs.Finding.{bound_of}
use Rattle.outcomes.specs.Deciding.{bare}
use Rattle.engine.specs.declared.Search.{Search}
use Rattle.engine.specs.declared.Scan.{Scan}

-- the packet is one that is sought
abbrev pub sought : Standing → Option Seek → Packet → Bool
sought t None p = false
sought t (Some Read) p = is_read p
sought t (Some Waiting) p = before t.line.u t.line.x (ends t.settings p)
sought t (Some (Staying b)) p = stays b t p
sought t (Some (Covering r)) p = covers t.settings r p

-- a search goes on until it has found one
abbrev pub seek_step : Standing → ℕ → ℕ → Packet → Search → Search
seek_step t left at p c =
    if not (is_some c.found) && sought t c.seek p
    then record { seek = c.seek; found = Some (record { left = left; slot = at; packet = p }) }
    else c

abbrev pub wants : Search → Bool
wants c = is_some c.seek && not (is_some c.found)

-- ---- what each call seeks

-- only where the answer turns on it: a fence is asked for; R is inside the open range
abbrev pub seek_if : Bool → Seek → Option Seek
seek_if test k = if test then Some k else None

abbrev pub main_seek : Standing → Ask → Option Seek
main_seek t (Open settings first) = None
main_seek t (Post post) = seek_if post.fenced Read
main_seek t (Emit budget) = Some Waiting
main_seek t (Acknowledge psn syndrome) = seek_if (inside psn (bare t)) (Staying (bound_of psn syndrome))
main_seek t (Respond psn opcode length) = seek_if (inside psn (bare t)) (Staying psn)
main_seek t (Tick elapsed) = None
main_seek t Close = None

abbrev pub read_seek : Standing → Ask → Option Seek
read_seek t (Open settings first) = None
read_seek t (Post post) = None
read_seek t (Emit budget) = None
read_seek t (Acknowledge psn syndrome) = None
read_seek t (Respond psn opcode length) = seek_if (inside psn (bare t)) (Covering psn)
read_seek t (Tick elapsed) = None
read_seek t Close = None

-- ---- the scan

abbrev pub search_for : Option Seek → Search
search_for k = record { seek = k; found = None }

-- a queue is walked only where the audit passed and something is wanted
abbrev pub begin_scan : Option ℕ → Pair → Ask → Scan
begin_scan v p ask =
    let main = search_for (main_seek p.standing ask) in
    let read = search_for (read_seek p.standing ask) in
    record {
      left = if is_some v then (if wants main || wants read then p.queue.held else 0) else 0;
      at = p.queue.first;
      standing = p.standing;
      main = main;
      read = read;
    }

-- one slot on; it ends once nothing is wanted any more
abbrev pub scan_step : Scan → Slot → Scan
scan_step w i =
    let main = seek_step (tidy w.standing) w.left w.at i.packet w.main in
    let read = seek_step (tidy w.standing) w.left w.at i.packet w.read in
    record {
      left = if wants main || wants read then w.left - 1 else 0;
      at = i.link;
      standing = w.standing;
      main = main;
      read = read;
    }

abbrev pub scan_turn : List Slot → Scan → Scan
scan_turn s w = scan_step w (slot_at s w.at)

abbrev pub scanned : List Slot → Scan → Scan
scanned s w = loop (λ (x : Scan). x.left) (scan_turn s) w
