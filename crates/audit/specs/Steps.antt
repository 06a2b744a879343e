-- What each function of `src/` answers: the audit's steps, on one record at a time.
use Rattle.std.specs.Prelude.{Bool, false, Option, None, Some, is_some, ℕ, ◌+◌, ◌-◌, leb, eqb, if◌then◌else◌}
use Rattle.std.specs.Option.{option_map, option_map_or}
use Rattle.rules.specs.declared.Ends.{Ends}
use Rattle.rules.specs.declared.Pair.{Pair}
use Rattle.rules.specs.declared.Queue.{Queue}
use Rattle.rules.specs.declared.Slot.{Slot}
use Rattle.rules.specs.declared.carried.Tally.{Tally}
use Rattle.rules.specs.Card.{small}
use Rattle.rules.specs.Passes.Links.{trail_from, trail_step, trail_ends}
use Rattle.rules.specs.Passes.Queue.{walk_from, step, walk_ends}
use Rattle.rules.specs.Passes.Record.{record_passes}
use Rattle.rules.specs.Passes.Tables.{Entry, claim_by, tally_from, tally_step}
use Rattle.rules.specs.Passes.Tests.{◌and◌}
use Rattle.message.specs.Capped.{tidy}
use Rattle.audit.specs.declared.Following.{Following}
use Rattle.audit.specs.declared.Tracing.{Tracing}
use Rattle.audit.specs.declared.Auditing.{Auditing}

-- "the tables have 64 and 256 records": if not, no record is looked at
abbrev pub begin_audit : ℕ → ℕ → Auditing
begin_audit pairs slots =
    if eqb pairs small.pairs and eqb slots small.slots
    then record { left = small.pairs; tally = tally_from small.slots }
    else record { left = 0; tally = None }

-- the pair that comes next
abbrev pub next_pair : Auditing → ℕ
next_pair v = small.pairs - v.left

-- no pair failed before, the pair's record passes, and what it holds and claims fits in beside those before: if not, its queue need not be walked
abbrev pub walkable : Option Tally → Pair → Bool
walkable None p = false
walkable (Some t) p =
    record_passes small p.standing p.queue.held
    and leb (t.held + p.queue.held) small.slots
    and leb (t.claimed + claim_by p) small.slots

abbrev pub open_queue : Auditing → Pair → Option Following
open_queue v p =
    if walkable v.tally p
    then Some (record { left = p.queue.held; standing = p.standing; walk = walk_from small.none p.queue })
    else None

abbrev pub follow_step : Following → Slot → Following
follow_step w i =
    record { left = w.left - 1; standing = w.standing; walk = step small.slots (tidy w.standing) w.walk i }

-- the pair passed: its queue was to be walked, and the walk ended as it must
abbrev pub walk_passed : Pair → Option Following → Bool
walk_passed p None = false
walk_passed p (Some w) = walk_ends small.none p.standing p.queue w.walk

-- what the pair brings to the tally
abbrev pub walked_entry : Pair → Option Following → Entry
walked_entry p w = record { passed = walk_passed p w; queue = p.queue; claim = claim_by p }

-- once a pair has failed, no other is looked at
abbrev pub join_queue : Auditing → Pair → Option Following → Auditing
join_queue v p w =
    let t = tally_step small.slots v.tally (walked_entry p w) in
    record { left = if is_some t then v.left - 1 else 0; tally = t }

-- the slots that the pairs leave; none to look at where one failed
abbrev pub left_by : Option Tally → ℕ
left_by t = option_map_or (λ w. small.slots - w.held) t 0

-- the free queue after the pairs: the lent ends, and what the pairs leave
abbrev pub free_queue : Auditing → Ends → Queue
free_queue v e = record { first = e.first; last = e.last; held = left_by v.tally }

abbrev pub open_free : Auditing → Ends → Tracing
open_free v e =
    record { left = (free_queue v e).held; trail = trail_from small.none (free_queue v e) }

abbrev pub trace_step : Tracing → Slot → Tracing
trace_step w i = record { left = w.left - 1; trail = trail_step small.slots w.trail i }

-- how many slots the open pairs claim; none where some queue failed
abbrev pub join_free : Auditing → Ends → Tracing → Option ℕ
join_free v e w =
    let q = free_queue v e in
    option_map (λ t. t.claimed) (tally_step small.slots v.tally (record { passed = trail_ends small.none q w.trail; queue = q; claim = 0 }))
