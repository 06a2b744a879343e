-- "Read response R, with opcode and payload length".
use Rattle.std.specs.Prelude.{Bool, true, false, not, ◌&&◌, ◌||◌, ℕ, suc, ◌+◌, ◌*◌, ltb, leb, eqb, length, get_or, if◌then◌else◌}
use Rattle.psn.specs.Psn.{distance, next}
use Rattle.rules.specs.declared.Packet.{Packet}
use Rattle.rules.specs.declared.Settings.{Settings}
use Rattle.rules.specs.declared.Standing.{Standing}
use Rattle.rules.specs.declared.Answer.TheVariants.{Done}
use Rattle.rules.specs.Account.{Side, U, updated, further, no_packet, ahead}
use Rattle.rules.specs.Message.{pmtu, length_at, is_read, span}
use Rattle.rules.specs.declared.Outcome.{Outcome}
use Rattle.rules.specs.Outcome.{dropped}
use Rattle.rules.specs.declared.Release.{Release}
use Rattle.rules.specs.Release.{renewed, release}
use Rattle.rules.specs.Acknowledge.{inside, resending}

-- r is one of the read's PSNs
abbrev pub covers : Settings → ℕ → Packet → Bool
covers s r p = is_read p && ltb (distance p.psn r) (span s p)

-- the read that r belongs to
abbrev pub read_at : ℕ → Side → Packet
read_at r s = get_or s.packets (ahead (covers s.standing.settings r) s.packets) no_packet

-- how many of a read's places are before r's
abbrev pub places_before : ℕ → Packet → ℕ
places_before r p = distance p.psn r

-- r's place is its last
abbrev pub at_last : Settings → ℕ → Packet → Bool
at_last s r p = eqb (suc (places_before r p)) (span s p)

-- two tests that differ
abbrev pub differ : Bool → Bool → Bool
differ true b = not b
differ false b = b

-- 9: "if R is not in a read's PSNs, or the length is not what that place carries, or 15 or 16 is used other than exactly at the last place"
abbrev pub misfit : Settings → ℕ → ℕ → ℕ → Packet → Bool
misfit s r opcode len p = not (eqb len (length_at (pmtu s) p.length (span s p) (places_before r p))) || differ (leb 15 opcode) (at_last s r p)

abbrev pub unfit : ℕ → ℕ → ℕ → Side → Bool
unfit r opcode len s =
    let st = s.standing.settings in
    eqb (ahead (covers st r) s.packets) (length s.packets) || misfit st r opcode len (read_at r s)

-- "the payload's place, offset + k × PMTU for k places before it"
abbrev pub place_of : Settings → ℕ → Packet → ℕ
place_of s r p = p.offset + places_before r p * pmtu s

-- "U becomes R + 1, counts and elapsed return, X the further of X and U", by distance from the U that the call found
abbrev pub taken : ℕ → ℕ → Standing → Standing
taken found a t =
    let l = t.line in
    updated (record { u = a; x = further found l.x a; h = l.h; n = l.n }) (renewed t.settings t.clock) t

-- "Otherwise release before R. If stopped: X becomes U, elapsed 0, "resending". Else U becomes R + 1, .. "done" ..; at the last place the slot is released."
abbrev pub responded : ℕ → ℕ → Bool → Release → Outcome
responded found r at_end g =
    let last : ℕ = if at_end then 1 else 0 in
    if g.stopped then resending g
    else record { answer = Done; released = g.released + last; flushed = 0; standing = taken found (next r) g.standing }

unfoldable pub response : ℕ → Side → Outcome
response r s = if not (inside r s) then dropped s else responded (U s) r (at_last s.standing.settings r (read_at r s)) (release r s)
