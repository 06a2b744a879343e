-- A host's memory over any calls, where it hands the tables on as the call before left them: each step is what the contract of the called function says, and no more.
use Rattle.std.specs.Prelude.{◌≡◌, List, [], ◌∷◌, ◌++◌, map, ℕ, ◌≤◌, ◌<◌, length, Ok}
use Rattle.rules.specs.declared.Post.{Post}
use Rattle.rules.specs.declared.Reply.TheVariants.{First}
use Rattle.rules.specs.Account.{N}
use Rattle.rules.specs.Audit.{Audit}
use Rattle.rules.specs.Calls.{Said, call}
use Rattle.rules.specs.Card.{small}
use Rattle.rules.specs.Demands.{WithinShare}
use Rattle.rules.specs.History.{ledger, accounted}
use Rattle.rules.specs.Outcome.{Departure, completions}
use Rattle.rules.specs.Refusals.{side_at}
use Rattle.rules.specs.Requests.{opening, posting, emitting, acknowledging, responding, ticking, closing, Call, starting, on}
use Rattle.rules.specs.Slots.{Tables, queue, queues, free, times, concat, side}
use Rattle.card.specs.Lent.{Answers, Fills}

-- a call, what its host was told, and the tables after it
pub record Event : Type 0 where
  pub made : Call
  pub said : Said
  pub after : Tables

-- the contract of the function that is called; where no buffer is lent, none is read
abbrev pub Kept : Call → Tables → Said → Tables → Type 0
Kept starting t s n = Answers starting t s.reply n.pairs n.ends n.slots × (s.buffer ≡ [])
Kept (on p (opening st a)) t s n = Answers (on p (opening st a)) t s.reply n.pairs n.ends n.slots × (s.buffer ≡ [])
Kept (on p (posting m)) t s n = Answers (on p (posting m)) t s.reply n.pairs n.ends n.slots × (s.buffer ≡ [])
Kept (on p (emitting k b)) t s n = Fills (on p (emitting k b)) t s.reply n.pairs n.ends n.slots s.buffer
Kept (on p (acknowledging r y b)) t s n = Fills (on p (acknowledging r y b)) t s.reply n.pairs n.ends n.slots s.buffer
Kept (on p (responding r o l b)) t s n = Fills (on p (responding r o l b)) t s.reply n.pairs n.ends n.slots s.buffer
Kept (on p (ticking e b)) t s n = Fills (on p (ticking e b)) t s.reply n.pairs n.ends n.slots s.buffer
Kept (on p (closing b)) t s n = Fills (on p (closing b)) t s.reply n.pairs n.ends n.slots s.buffer

-- each call is lent what the one before left
abbrev pub Handed : Tables → List Event → Type 0
Handed t [] = Unit {0}
Handed t (e ∷ es) = Kept e.made t e.said e.after × Handed e.after es

abbrev pub last_of : Tables → List Event → Tables
last_of t [] = t
last_of t (e ∷ es) = last_of e.after es

abbrev pub calls : List Event → List Call
calls = map (λ (e : Event). e.made)

abbrev pub answers : List Event → List Said
answers = map (λ (e : Event). e.said)

-- demand 3 of memory m after the events es from a fresh start: `Faithful` of the rules, field by field, with the host's memory for the history's last tables
pub record Holds (es : List Event) (m : Tables) : Type 0 where
  pub audited : Audit small m
  pub said : answers es ≡ (accounted small (calls es)).said
  pub sides : (p : ℕ) → p < small.pairs → side m p ≡ side_at (accounted small (calls es)).last p
  pub held : (p : ℕ) → p < small.pairs
      → (ledger small p (calls es)).accepted ≡ map (λ (d : Departure). d.packet) (ledger small p (calls es)).departed ++ (side m p).packets
  pub told : (p : ℕ) → (ledger small p (calls es)).told ≡ completions (ledger small p (calls es)).departed
  pub once : (i : ℕ) → i < small.slots → times i (free m ++ concat (queues m)) ≡ 1
  pub ceiling : (p : ℕ) → p < small.pairs → length (queue m p) ≤ (side m p).standing.settings.ceiling
  pub room : (p : ℕ) (q : Post) → WithinShare small m p q → (call small (on p (posting q)) m).said.reply ≡ Ok (First (N (side m p)))

-- "After any sequence of calls from a fresh start": whatever stood in the host's 64 and 256 records before it
abbrev pub MemoryHolds : Type 0
MemoryHolds = (t : Tables) → length t.pairs ≡ small.pairs → length t.slots ≡ small.slots
    → (start : Event) → start.made ≡ starting → (es : List Event) → Handed t (start ∷ es) → Holds es (last_of t (start ∷ es))
