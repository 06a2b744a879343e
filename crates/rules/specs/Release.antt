-- "To release before B". "Before" and "further" go by distance from U as the call finds it.
use Rattle.std.specs.Prelude.{Bool, true, false, not, ◌&&◌, ◌||◌, ℕ, ltb, eqb, length, get_or, if◌then◌else◌}
use Rattle.psn.specs.Psn.{before}
use Rattle.rules.specs.declared.Packet.{Packet}
use Rattle.rules.specs.declared.Settings.{Settings}
use Rattle.rules.specs.declared.Clock.{Clock}
use Rattle.rules.specs.declared.Standing.{Standing}
use Rattle.rules.specs.declared.Release.{Release}
use Rattle.rules.specs.Account.{Side, updated, further, no_packet, ahead}
use Rattle.rules.specs.Message.{is_read, unanswered}

-- "both retry counts return to their settings and elapsed time to 0"
abbrev pub renewed : Settings → Clock → Clock
renewed s c = record { retries = s.retry; rnrs = s.rnr; elapsed = 0; hold = c.hold }

-- that, "If U moved" from u to a; else the clock as it is
abbrev pub clock_at : ℕ → ℕ → Settings → Clock → Clock
clock_at u a s c = if eqb a u then c else renewed s c

-- U becomes a. "If U moved, both retry counts return to their settings and elapsed time to 0. X becomes the further of X and U."
abbrev pub advanced : ℕ → Standing → Standing
advanced a t =
    let l = t.line in
    updated (record { u = a; x = further l.u l.x a; h = l.h; n = l.n }) (clock_at l.u a t.settings t.clock) t

-- a read whose first unanswered PSN is before B
abbrev pub passed_by : ℕ → Standing → Packet → Bool
passed_by b t p = is_read p && before t.line.u (unanswered t p) b

-- "if some read's first unanswered PSN is before B, release all records ahead of the first such read; U becomes that PSN ("stopped").
-- Otherwise release all records before B and U becomes B."
unfoldable pub release : ℕ → Side → Release
release b s =
    let t = s.standing in
    let to_read = ahead (passed_by b t) s.packets in
    let before_b = ahead (λ p. not (before t.line.u p.psn b)) s.packets in
    if ltb to_read (length s.packets)
    then record { stopped = true; released = to_read; standing = advanced (unanswered t (get_or s.packets to_read no_packet)) t }
    else record { stopped = false; released = before_b; standing = advanced b t }

-- for a walk from the front: the first record that stays ends it (`released-is`)
abbrev pub stays : ℕ → Standing → Packet → Bool
stays b t p = is_read p || not (before t.line.u p.psn b)
