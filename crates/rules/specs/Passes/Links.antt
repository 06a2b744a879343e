-- The links of a queue: every slot number is in the table; the last slot is the queue's last end, and its link is `none`.
use Rattle.std.specs.Prelude.{Bool, true, List, ℕ, zero, suc, ltb, eqb, length}
use Rattle.rules.specs.declared.Queue.{Queue}
use Rattle.rules.specs.declared.Slot.{Slot}
use Rattle.rules.specs.declared.carried.Trail.{Trail}
use Rattle.rules.specs.Slots.{slot_at}
use Rattle.rules.specs.Passes.Tests.{◌and◌}

-- before the first slot: an empty queue is no special case
abbrev pub trail_from : ℕ → Queue → Trail
trail_from none q = record { at = q.first; last = none; ok = true }

-- one slot on
abbrev pub trail_step : ℕ → Trail → Slot → Trail
trail_step slots w i = record { at = i.link; last = w.at; ok = w.ok and ltb w.at slots }

-- what it must be after the last slot
abbrev pub trail_ends : ℕ → Queue → Trail → Bool
trail_ends none q w = w.ok and eqb w.at none and eqb w.last q.last

-- k slots, by the links
abbrev pub trailed : List Slot → Trail → ℕ → Trail
trailed s w zero = w
trailed s w (suc k) = trailed s (trail_step (length s) w (slot_at s w.at)) k

-- a queue's links pass: all that there is to see of the free queue
unfoldable pub links_pass : ℕ → List Slot → Queue → Bool
links_pass none s q = trail_ends none q (trailed s (trail_from none q) q.held)
