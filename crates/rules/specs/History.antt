-- "Demand 3's "accepted" and "released" (flushed included) are demand 2's rules run over the history since the last fresh start."
use Rattle.std.specs.Prelude.{◌&&◌, List, [], ◌∷◌, ◌++◌, ℕ, ◌*◌, eqb, take, is_none, if◌then◌else◌}
use Rattle.refusal.specs.Refusals.{first_given}
use Rattle.rules.specs.declared.Packet.{Packet}
use Rattle.rules.specs.declared.Reply.{Reply}
use Rattle.rules.specs.declared.Reply.TheVariants.{Answered, First, Count}
use Rattle.rules.specs.Card.{Card}
use Rattle.rules.specs.Account.{Side}
use Rattle.rules.specs.Outcome.{Departure, departures}
use Rattle.rules.specs.Slots.{Tables, fresh}
use Rattle.rules.specs.Requests.{Call, starting, on}
use Rattle.rules.specs.Refusals.{side_at, refusals}
use Rattle.rules.specs.Calls.{Move, leaves, joins, Effect, effect, Said, Step, all_closed, account, call}

-- ---- a history: what was said, call by call, and what came of it

pub record Run (A : Type 0) : Type 0 where
  pub said : List Said
  pub last : A

abbrev pub run : {A : Type 0} → (Call → A → Step A) → List Call → A → Run A
run f [] a = record { said = []; last = a }
run f (c ∷ cs) a =
    let s = f c a in
    let r = run f cs s.next in
    record { said = s.said ∷ r.said; last = r.last }

-- ---- one pair's ledger: the packets accepted, those that left, released or flushed, and what its host was told of them, each in order

pub record Ledger : Type 0 where
  pub accepted : List Packet
  pub departed : List Departure
  pub told : List ℕ

abbrev pub blank : Ledger
blank = record { accepted = []; departed = []; told = [] }

-- which packets a move accepts, and which leave from the front of those held
abbrev pub accepts : Move → List Packet
accepts (leaves released flushed) = []
accepts (joins qs) = qs

abbrev pub departs : Move → List Packet → List Departure
departs (leaves released flushed) held = departures released flushed held
departs (joins qs) held = []

-- what the host reads: ticket and status of as many messages as the answer counts, from the buffer's front
abbrev pub heard : Reply → List ℕ → List ℕ
heard (Answered a messages place) buffer = take (2 * messages) buffer
heard (First psn) buffer = []
heard (Count n) buffer = []

abbrev pub entered : Effect → List Packet → Ledger → Ledger
entered e held l =
    record {
      accepted = l.accepted ++ accepts e.move;
      departed = l.departed ++ departs e.move held;
      told = l.told ++ heard e.reply e.buffer;
    }

module _ (card : Card) (p : ℕ) where
  -- a call adds to it if it is on this pair and not refused
  unfoldable pub entry : Call → List Side → Ledger → Ledger
  entry starting a l = blank
  entry (on r q) a l =
      if eqb r p && is_none (first_given (refusals card q p a)) then entered (effect q (side_at a p)) (side_at a p).packets l else l

  abbrev pub ledger_from : List Call → List Side → Ledger → Ledger
  ledger_from [] a l = l
  ledger_from (c ∷ cs) a l = ledger_from cs (account card c a).next (entry c a l)

  abbrev pub ledger : List Call → Ledger
  ledger cs = ledger_from cs (all_closed card) blank

-- ---- the account over a history, and the tables over it

abbrev pub accounted : Card → List Call → Run (List Side)
accounted card cs = run (account card) cs (all_closed card)

abbrev pub called : Card → List Call → Run Tables
called card cs = run (call card) cs (fresh card)
