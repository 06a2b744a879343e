-- The order of a ready pair's packets. Places are plain numbers, distances from U; the next place is 0 before the first record and never after.
use Rattle.std.specs.Prelude.{Bool, false, ◌||◌, Option, None, Some, ℕ, ◌+◌, ◌-◌, ltb, leb, eqb, if◌then◌else◌}
use Rattle.psn.specs.Psn.{psns, half, distance}
use Rattle.rules.specs.declared.Packet.{Packet}
use Rattle.rules.specs.declared.Settings.{Settings}
use Rattle.rules.specs.declared.Line.{Line}
use Rattle.rules.specs.declared.carried.Course.{Course}
use Rattle.rules.specs.Message.{span}
use Rattle.rules.specs.Passes.Tests.{◌and◌}

-- before the first record
abbrev pub course_from : Option Course
course_from = Some (record { place = 0; x = false; h = false })

-- after a record that ends at the place
abbrev pub onward : Line → ℕ → Course → Packet → Course
onward l place w p = record { place = place; x = w.x || eqb l.x p.psn; h = w.h || eqb l.h p.psn }

-- U is one of the first record's PSNs; H is past a read that is partly answered
abbrev pub first_fits : Settings → Line → Packet → Bool
first_fits s l p =
    let gone = distance p.psn l.u in
    ltb p.psn psns and ltb gone (span s p) and (eqb gone 0 || leb (span s p - gone) (distance l.u l.h))

-- a later record starts where the one before ended
abbrev pub next_fits : Line → Course → Packet → Bool
next_fits l w p = ltb p.psn psns and eqb (distance l.u p.psn) w.place

-- one record on; none once some record did not fit
abbrev pub course_step : Settings → Line → Option Course → Packet → Option Course
course_step s l None p = None
course_step s l (Some w) p =
    if eqb w.place 0
    then (if first_fits s l p then Some (onward l (span s p - distance p.psn l.u) w p) else None)
    else if next_fits l w p then Some (onward l (w.place + span s p) w p)
    else None

-- X or H stands at U, at N or at a record's start
abbrev pub stands : Line → ℕ → Bool → Bool
stands l a start = eqb a l.u || eqb a l.n || start

-- U, X, H, N by themselves
abbrev pub line_fits : Line → Bool
line_fits l =
    ltb l.u psns and ltb l.x psns and ltb l.h psns and ltb l.n psns
    and leb (distance l.u l.x) (distance l.u l.h)
    and leb (distance l.u l.h) (distance l.u l.n)
    and leb (distance l.u l.n) half

-- what it must be after the last record: all fitted, and the place is N's
abbrev pub course_ends : Line → Option Course → Bool
course_ends l None = false
course_ends l (Some w) = eqb w.place (distance l.u l.n) and stands l l.x w.x and stands l l.h w.h
