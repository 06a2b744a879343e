-- A pair's record by itself: its state number, the second and the fifth bullet, and that a pair not ready holds none. Each list is in the order of its record in `Audit`.
use Rattle.std.specs.Prelude.{Bool, true, not, ◌||◌, List, [], ◌∷◌, ℕ, ltb, leb, eqb, if◌then◌else◌}
use Rattle.psn.specs.Psn.{psns}
use Rattle.rules.specs.declared.Standing.{Standing}
use Rattle.rules.specs.Timer.{timeout_of}
use Rattle.rules.specs.Card.{Card}
use Rattle.rules.specs.Account.{closed, ready, ended}
use Rattle.rules.specs.Ranges.{bad_settings}
use Rattle.rules.specs.Audit.{longest_hold}
use Rattle.rules.specs.Passes.Tests.{◌and◌, all_of}

-- an open pair, which holds so many slots; their PSNs are the walk's to test
abbrev pub bound_tests : Card → Standing → ℕ → List Bool
bound_tests card t held =
    not (bad_settings card t.settings)
    ∷ ltb t.line.u psns
    ∷ ltb t.line.x psns
    ∷ ltb t.line.h psns
    ∷ ltb t.line.n psns
    ∷ leb t.clock.retries t.settings.retry
    ∷ leb t.clock.rnrs t.settings.rnr
    ∷ leb held t.settings.ceiling
    ∷ []

-- a ready pair's times: elapsed is 0 if U = H, hold is over 0 or the timeout code is 0
abbrev pub timed_tests : Standing → List Bool
timed_tests t =
    let still = eqb t.clock.elapsed 0 in
    leb t.clock.hold longest_hold
    ∷ ltb t.clock.elapsed (timeout_of t.settings)
    ∷ (not (eqb t.line.u t.line.h) || still)
    ∷ (eqb t.clock.hold 0 || still)
    ∷ (not (eqb t.settings.timeout 0) || still)
    ∷ []

-- by its state: 0 closed, 1 ready, 2 ended; a closed or ended pair holds none
unfoldable pub record_passes : Card → Standing → ℕ → Bool
record_passes card t held =
    leb t.state ended
    and (if eqb t.state closed then true else all_of (bound_tests card t held))
    and (if eqb t.state ready then all_of (timed_tests t) else eqb held 0)
