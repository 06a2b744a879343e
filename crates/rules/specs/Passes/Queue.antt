-- One pair's queue: links, order and messages together, in one walk by the links.
use Rattle.std.specs.Prelude.{Bool, true, Some, List, ℕ, zero, suc, eqb, length, if◌then◌else◌}
use Rattle.rules.specs.declared.Standing.{Standing}
use Rattle.rules.specs.declared.Queue.{Queue}
use Rattle.rules.specs.declared.Slot.{Slot}
use Rattle.rules.specs.declared.carried.Stage.TheVariants.{Start}
use Rattle.rules.specs.declared.carried.Walk.{Walk}
use Rattle.rules.specs.Account.{ready}
use Rattle.rules.specs.Slots.{slot_at}
use Rattle.rules.specs.Passes.Course.{course_from, course_step, line_fits, course_ends}
use Rattle.rules.specs.Passes.Links.{trail_from, trail_step, trail_ends}
use Rattle.rules.specs.Passes.Stage.{stage_step, stage_ends}
use Rattle.rules.specs.Passes.Tests.{◌and◌}

-- before the first slot
abbrev pub walk_from : ℕ → Queue → Walk
walk_from none q = record { trail = trail_from none q; course = course_from; stage = Some Start }

-- one slot on
abbrev pub step : ℕ → Standing → Walk → Slot → Walk
step slots t w i =
    record {
      trail = trail_step slots w.trail i;
      course = course_step t.settings t.line w.course i.packet;
      stage = stage_step t.settings w.stage i.packet;
    }

-- k slots, by the links
abbrev pub walked : Standing → List Slot → Walk → ℕ → Walk
walked t s w zero = w
walked t s w (suc k) = walked t s (step (length s) t w (slot_at s w.trail.at)) k

-- what it must be after the last slot; of a pair that is not ready, which holds none, the ends are asked for alone
abbrev pub walk_ends : ℕ → Standing → Queue → Walk → Bool
walk_ends none t q w =
    trail_ends none q w.trail
    and (if eqb t.state ready then line_fits t.line and course_ends t.line w.course and stage_ends w.stage else true)

-- a pair's queue passes
unfoldable pub queue_passes : ℕ → List Slot → Standing → Queue → Bool
queue_passes none s t q = walk_ends none t q (walked t s (walk_from none q) q.held)
