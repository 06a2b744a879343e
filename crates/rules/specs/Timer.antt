-- "Timer step with elapsed e".
use Rattle.std.specs.Prelude.{◌||◌, ℕ, ◌+◌, ◌-◌, ◌*◌, ◌^◌, ltb, leb, eqb, length, if◌then◌else◌}
use Rattle.rules.specs.declared.Settings.{Settings}
use Rattle.rules.specs.declared.Standing.{Standing}
use Rattle.rules.specs.declared.Answer.{Answer}
use Rattle.rules.specs.declared.Answer.TheVariants.{Resending, Resumed, Idle}
use Rattle.rules.specs.Account.{Side, updated}
use Rattle.rules.specs.declared.Outcome.{Outcome}
use Rattle.rules.specs.Outcome.{staying, ending}
use Rattle.rules.specs.Acknowledge.{back_to_u}

-- "4,096 × 2^code ns"
abbrev pub timeout_of : Settings → ℕ
timeout_of s = 4096 * 2 ^ s.timeout

-- the two times become these
abbrev pub ticked : Answer → ℕ → ℕ → Standing → Outcome
ticked a elapsed hold t =
    staying a (updated t.line (record { retries = t.clock.retries; rnrs = t.clock.rnrs; elapsed = elapsed; hold = hold }) t)

-- "take one, X becomes U, elapsed 0, "resending""
abbrev pub retried : Standing → Outcome
retried t = staying Resending (back_to_u (t.clock.retries - 1) t.clock.rnrs t.clock.hold t)

-- "Held: if e is at least the hold, it ends, "resumed"; else subtract, "idle". Not held: if U = H or timeout code 0, "idle". Else add e; if below
-- 4,096 × 2^code ns, "idle"; else if the retry count is 0, end the pair, "ended"; else take one, X becomes U, elapsed 0, "resending"."
-- Of a pair that holds so many packets.
abbrev pub timed : ℕ → ℕ → Standing → Outcome
timed e held t =
    let l = t.line in
    let c = t.clock in
    if ltb 0 c.hold then (if leb c.hold e then ticked Resumed c.elapsed 0 t else ticked Idle c.elapsed (c.hold - e) t)
    else if eqb l.u l.h || eqb t.settings.timeout 0 then ticked Idle c.elapsed c.hold t
    else if ltb (c.elapsed + e) (timeout_of t.settings) then ticked Idle (c.elapsed + e) c.hold t
    else if eqb c.retries 0 then ending held t
    else retried t

unfoldable pub timer : ℕ → Side → Outcome
timer e s = timed e (length s.packets) s.standing
