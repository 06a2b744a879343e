-- The refusals of a request, in the order of the rules' one list, from what the audit, the pair's record and the scan told (`refusal_is`).
use Rattle.std.specs.Option.{unwrap_or}
use Rattle.std.specs.Prelude.{Bool, true, not, ◌&&◌, ◌||◌, List, [], ◌∷◌, ℕ, ◌+◌, max, ltb, leb, Option, None, Some, is_some}
use Rattle.psn.specs.Psn.{half, distance}
use Rattle.refusal.specs.declared.Refusal.{Refusal}
use Rattle.refusal.specs.declared.Refusal.TheVariants as refusal
use Rattle.refusal.specs.Refusals.{Row, ◌gives◌, first_given}
use Rattle.rules.specs.declared.Pair.{Pair}
use Rattle.rules.specs.declared.Settings.{Settings}
use Rattle.rules.specs.declared.Standing.{Standing}
use Rattle.rules.specs.Card.{small}
use Rattle.rules.specs.Message.{slots_for, psns_for}
use Rattle.rules.specs.Ranges.{over_ceiling}
use Rattle.rules.specs.Acknowledge.{inside}
use Rattle.rules.specs.Response.{misfit}
use Rattle.rules.specs.Requests.{needed}
use Rattle.rules.specs.Refusals.{of_opening, of_post, of_response, wrong_state, out_of_range}
use Rattle.message.specs.Capped.{tidy}
use Rattle.engine.specs.declared.Ask.{Ask}
use Rattle.outcomes.specs.declared.Found.{Found}
use Rattle.engine.specs.declared.Scan.{Scan}
use Rattle.engine.specs.Asked.{asked}
use Rattle.outcomes.specs.Deciding.{bare}

-- 8 of an open: the sum with one claim more
abbrev pub crowded_by : ℕ → ℕ → Bool
crowded_by claimed share = ltb small.slots (claimed + share)

-- 8 of a post: held + new over the ceiling, or the sum with the pair's claim of then in place of the one of now
abbrev pub crowded : ℕ → Settings → ℕ → ℕ → Bool
crowded claimed s held new =
    ltb s.ceiling (held + new) || ltb (small.slots + max s.share held) (claimed + max s.share (held + new))

-- 9, of a pair of which the read that has R was sought
abbrev pub misfit_of : Settings → Option Found → ℕ → ℕ → ℕ → Bool
misfit_of s None r opcode len = true
misfit_of s (Some f) r opcode len = misfit s r opcode len f.packet

abbrev pub unfit_by : Standing → Option Found → ℕ → ℕ → ℕ → Bool
unfit_by t f r opcode len = inside r (bare t) && misfit_of t.settings f r opcode len

-- v: how many slots the audit found claimed, or none where it did not pass
abbrev pub refusal_rows : Option ℕ → ℕ → Pair → Scan → Ask → ℕ → List Row
refusal_rows v at p c ask room =
    let q = asked ask [] in
    let t = tidy p.standing in
    let s = t.settings in
    not (is_some v) gives refusal.Audit
    ∷ leb small.pairs at gives refusal.Pair
    ∷ wrong_state q t.state gives refusal.State
    ∷ out_of_range small q gives refusal.Range
    ∷ ltb room (needed small q) gives refusal.Buffer
    ∷ of_post q (λ m. over_ceiling s m) gives refusal.Ceiling
    ∷ of_post q (λ m. m.fenced && is_some c.main.found) gives refusal.Fence
    ∷ of_post q (λ m. ltb half (distance t.line.u t.line.n + psns_for s m)) gives refusal.Distance
    ∷ (of_opening q (λ new. crowded_by (unwrap_or v 0) new.share) || of_post q (λ m. crowded (unwrap_or v 0) s p.queue.held (slots_for s m))) gives refusal.Room
    ∷ of_response q (unfit_by t c.read.found) gives refusal.Response
    ∷ []

unfoldable pub refusal_of : Option ℕ → ℕ → Pair → Scan → Ask → ℕ → Option Refusal
refusal_of v at p c ask room = first_given (refusal_rows v at p c ask room)
