-- What a public call leaves of all that it was lent: the rules' call, and nothing else.
use Rattle.std.specs.Prelude.{◌≡◌, List, ℕ, Result}
use Rattle.refusal.specs.declared.Refusal.{Refusal}
use Rattle.rules.specs.declared.Ends.{Ends}
use Rattle.rules.specs.declared.Pair.{Pair}
use Rattle.rules.specs.declared.Reply.{Reply}
use Rattle.rules.specs.declared.Slot.{Slot}
use Rattle.rules.specs.Card.{small}
use Rattle.rules.specs.Slots.{Tables}
use Rattle.rules.specs.Requests.{Call}
use Rattle.rules.specs.Calls.{call}

-- "The host lends 64 pair records .., the free queue's ends and a lent row of 256 slot records": or as many as it does
abbrev pub lent : List Pair → Ends → List Slot → Tables
lent pairs ends slots = record { pairs = pairs; ends = ends; slots = slots }

-- the answer and the tables are those of the rules' call on the lent tables
abbrev pub Answers : Call → Tables → Result Reply Refusal → List Pair → Ends → List Slot → Type 0
Answers c t r pairs ends slots =
    let s = call small c t in (r ≡ s.said.reply) × ((pairs ≡ s.next.pairs) × ((ends ≡ s.next.ends) × (slots ≡ s.next.slots)))

-- and so is the lent buffer
abbrev pub Fills : Call → Tables → Result Reply Refusal → List Pair → Ends → List Slot → List ℕ → Type 0
Fills c t r pairs ends slots buffer =
    let s = call small c t in
    (r ≡ s.said.reply) × ((pairs ≡ s.next.pairs) × ((ends ≡ s.next.ends) × ((slots ≡ s.next.slots) × (buffer ≡ s.said.buffer))))
