-- A pair's state by its number: 0 closed, 1 ready, 2 ended, and no other number is one's.
use Rattle.std.specs.Prelude.{ℕ, eqb, Result, Ok, Err, if◌then◌else◌}
use Rattle.rules.specs.Account.{closed, ready, ended}
use Rattle.message.specs.declared.states.State.{State}
use Rattle.message.specs.declared.states.State.TheVariants.{Closed, Ready, Ended}
use Rattle.message.specs.declared.states.UnknownState.{UnknownState}

abbrev pub state_of : ℕ → Result State UnknownState
state_of n =
    if eqb n closed then Ok Closed
    else if eqb n ready then Ok Ready
    else if eqb n ended then Ok Ended
    else Err (record { number = n })
