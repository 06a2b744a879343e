-- What a call is to do: nothing, where it is refused; else what the rules say, as an answer, the pair's next standing and a walk.
use Rattle.std.specs.Prelude.{ℕ, ◌%◌, ◌^◌, min, ltb, Option, None, Some, Result, Ok, Err, if◌then◌else◌}
use Rattle.refusal.specs.declared.Refusal.{Refusal}
use Rattle.rules.specs.declared.Answer.TheVariants.{Done, Dropped}
use Rattle.rules.specs.declared.Ends.{Ends}
use Rattle.rules.specs.declared.Outcome.{Outcome}
use Rattle.rules.specs.declared.Pair.{Pair}
use Rattle.rules.specs.declared.Post.{Post}
use Rattle.rules.specs.declared.Standing.{Standing}
use Rattle.rules.specs.Message.{slots_for}
use Rattle.rules.specs.Posting.{raised}
use Rattle.rules.specs.Outcome.{staying, opened, closing_all}
use Rattle.rules.specs.Response.{place_of}
use Rattle.rules.specs.Timer.{timed}
use Rattle.rules.specs.Calls.{place_if}
use Rattle.message.specs.Capped.{tidy}
use Rattle.engine.specs.declared.Ask.{Ask}
use Rattle.engine.specs.declared.Ask.TheVariants as ask
use Rattle.outcomes.specs.declared.Found.{Found}
use Rattle.engine.specs.declared.Scan.{Scan}
use Rattle.walks.specs.declared.Leaving.{Leaving}
use Rattle.walks.specs.declared.Joining.{Joining}
use Rattle.walks.specs.declared.Emitting.{Emitting}
use Rattle.engine.specs.declared.Told.{Told}
use Rattle.engine.specs.declared.Told.TheVariants.{Answered, First, Count}
use Rattle.engine.specs.declared.Plan.{Plan}
use Rattle.walks.specs.Begun.{to_free, to_pair, no_post, outward}
use Rattle.outcomes.specs.Finding.{left_of, slot_of}
use Rattle.outcomes.specs.Deciding.{held_at_most, acknowledged, responded_to}
use Rattle.engine.specs.Refusing.{refusal_of}

abbrev pub planned : Result Told Refusal → Standing → Leaving → Joining → Emitting → Plan
planned told t leaving joining emitting = record { told = told; standing = t; leaving = leaving; joining = joining; emitting = emitting }

-- no walk has a step
abbrev pub resting : Pair → Ends → Result Told Refusal → Standing → Plan
resting p e told t = planned told t (to_free p e 0 0) (to_pair p e 0 no_post) (outward p 0 0)

-- what an event, a timer step or a close comes to; its place is a number of 32 bits
abbrev pub leaving_plan : Pair → Ends → Outcome → ℕ → Plan
leaving_plan p e o place =
    planned (Ok (Answered o.answer (place % 2 ^ 32))) o.standing (to_free p e o.released o.flushed) (to_pair p e 0 no_post) (outward p 0 0)

abbrev pub post_plan : Pair → Ends → Post → Plan
post_plan p e m =
    let t = tidy p.standing in
    planned (Ok (First t.line.n)) (raised m t) (to_free p e 0 0) (to_pair p e (slots_for t.settings m) m) (outward p 0 0)

-- "the smaller of the budget and the records ending after X; a held pair writes 0"
abbrev pub going_of : ℕ → Standing → Option Found → ℕ
going_of budget t f = if ltb 0 t.clock.hold then 0 else min budget (left_of f)

abbrev pub emit_plan : Pair → Ends → ℕ → Option Found → Plan
emit_plan p e budget f =
    let t = tidy p.standing in
    planned (Ok Count) t (to_free p e 0 0) (to_pair p e 0 no_post) (outward p (going_of budget t f) (slot_of f))

-- a response that is taken hands back its place; one whose R is in no read is refused with 9, or R is outside the open range, so that it is dropped
abbrev pub respond_plan : Pair → Ends → ℕ → Option Found → Option Found → Plan
respond_plan p e r f None = leaving_plan p e (staying Dropped (tidy p.standing)) 0
respond_plan p e r f (Some read) =
    let t = tidy p.standing in
    let o = responded_to r (held_at_most p) f read.packet t in
    leaving_plan p e o (place_if o.answer (place_of t.settings r read.packet))

-- a request that is not refused
abbrev pub accepted_plan : Pair → Ends → Scan → Ask → Plan
accepted_plan p e c (ask.Open settings first) = resting p e (Ok (Answered Done 0)) (opened settings first)
accepted_plan p e c (ask.Post m) = post_plan p e m
accepted_plan p e c (ask.Emit budget) = emit_plan p e budget c.main.found
accepted_plan p e c (ask.Acknowledge r syndrome) = leaving_plan p e (acknowledged r syndrome (held_at_most p) c.main.found (tidy p.standing)) 0
accepted_plan p e c (ask.Respond r opcode len) = respond_plan p e r c.main.found c.read.found
accepted_plan p e c (ask.Tick elapsed) = leaving_plan p e (timed elapsed (held_at_most p) (tidy p.standing)) 0
accepted_plan p e c ask.Close = leaving_plan p e (closing_all (held_at_most p)) 0

abbrev pub plan_by : Option Refusal → Pair → Ends → Scan → Ask → Plan
plan_by None p e c ask = accepted_plan p e c ask
plan_by (Some r) p e c ask = resting p e (Err r) p.standing

unfoldable pub plan_of : Option ℕ → ℕ → Pair → Ends → Scan → Ask → ℕ → Plan
plan_of v at p e c ask room = plan_by (refusal_of v at p c ask room) p e c ask
