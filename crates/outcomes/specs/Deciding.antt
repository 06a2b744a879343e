-- The rules for a pair of which a scan has found what they ask for: the same rules, with "the first read" and "the first record that stays" given.
use Rattle.std.specs.Prelude.{false, not, [], ℕ, ◌-◌, min, Option, None, Some, if◌then◌else◌}
use Rattle.rules.specs.declared.Answer.TheVariants.{Dropped}
use Rattle.rules.specs.declared.Outcome.{Outcome}
use Rattle.rules.specs.declared.Packet.{Packet}
use Rattle.rules.specs.declared.Pair.{Pair}
use Rattle.rules.specs.declared.Release.{Release}
use Rattle.rules.specs.declared.Standing.{Standing}
use Rattle.rules.specs.Account.{Side}
use Rattle.rules.specs.Card.{small}
use Rattle.rules.specs.Message.{unanswered}
use Rattle.rules.specs.Outcome.{staying}
use Rattle.rules.specs.Release.{advanced, passed_by}
use Rattle.rules.specs.Acknowledge.{inside, answered}
use Rattle.rules.specs.Response.{at_last, responded}
use Rattle.outcomes.specs.declared.Found.{Found}

-- what 01 asks of a pair's PSNs alone
abbrev pub bare : Standing → Side
bare t = record { standing = t; packets = [] }

-- no pair holds more slots than there are
abbrev pub held_at_most : Pair → ℕ
held_at_most p = min p.queue.held small.slots

-- the release before b of a pair that holds so many packets, the first that stays being given: it stops at a read that is passed (`release-is`)
abbrev pub release_by : ℕ → Option Found → Standing → ℕ → Release
release_by held None t b = record { stopped = false; released = held; standing = advanced b t }
release_by held (Some f) t b =
    let stops = passed_by b t f.packet in
    record { stopped = stops; released = held - f.left; standing = advanced (if stops then unanswered t f.packet else b) t }

-- an acknowledgement (`acknowledge-is`)
abbrev pub acknowledged : ℕ → ℕ → ℕ → Option Found → Standing → Outcome
acknowledged r syndrome held f t =
    if not (inside r (bare t)) then staying Dropped t else answered t.settings r syndrome held (release_by held f t)

-- a read response, the read that has R being given (`response-is`)
abbrev pub responded_to : ℕ → ℕ → Option Found → Packet → Standing → Outcome
responded_to r held f p t =
    if not (inside r (bare t)) then staying Dropped t else responded t.line.u r (at_last t.settings r p) (release_by held f t r)
