-- What `show` and `free` write, from "Calls" of the trace protocol. Assumes nothing.
use Rattle.std.specs.Prelude.{ℕ, List, [], ◌∷◌, ◌++◌, eqb, if◌then◌else◌}
use Rattle.text.specs.Text.{bytes}
use Rattle.text.specs.Out.{decimal}
use Rattle.rules.specs.declared.Pair.{Pair}
use Rattle.rules.specs.declared.Slot.{Slot}
use Rattle.rules.specs.Account.{ready, ended}
use Rattle.answers.specs.Said.{numeral, spaced}

-- "then ` U X H N`, ` HELD`, the two counts left (retry, RNR), ` ELAPSED HOLD`"
abbrev pub shown_numbers : Pair → List ℕ
shown_numbers p =
    let l = p.standing.line in
    let c = p.standing.clock in
    l.u ∷ l.x ∷ l.h ∷ l.n ∷ p.queue.held ∷ c.retries ∷ c.rnrs ∷ c.elapsed ∷ c.hold ∷ []

-- "`pair P closed`, or `pair P ready` or `pair P ended`"; a state that is none of the three is shown as closed
abbrev pub state_text : Pair → List ℕ
state_text p =
    if eqb p.standing.state ready
    then bytes " ready" ++ spaced (shown_numbers p)
    else if eqb p.standing.state ended then bytes " ended" ++ spaced (shown_numbers p) else bytes " closed"

abbrev pub standing_text : ℕ → Pair → List ℕ
standing_text pair p = bytes "pair" ++ numeral pair ++ state_text p

abbrev pub part : ℕ → List ℕ
part n = bytes "/" ++ decimal n

-- "for each packet held, in order, ` SLOT/PSN/TICKET/OFFSET/LENGTH`, where LENGTH is the payload bytes the packet carries, or the whole message's for a read"
abbrev pub member_text : ℕ → Slot → List ℕ
member_text slot s =
    let p = s.packet in
    numeral slot ++ part p.psn ++ part p.ticket ++ part p.offset ++ part p.length
