-- The lines of a trace as calls, and what it means that the second program and the definitions agree on them.
use Rattle.std.specs.Prelude.{◌≡◌, List, [], ◌∷◌, map, ℕ, zero, suc, ◌*◌, ◌/◌, eqb, ltb, replicate, take, drop, Result, Ok, Err, if◌then◌else◌}
use Rattle.refusal.specs.declared.Refusal.{Refusal}
use Rattle.wire.specs.Bytes.{number}
use Rattle.rules.specs.declared.Reply.{Reply}
use Rattle.rules.specs.declared.Reply.TheVariants.{Answered, First, Count}
use Rattle.rules.specs.Card.{small, completion_buffer}
use Rattle.rules.specs.Ranges.{largest_budget}
use Rattle.rules.specs.Emission.{record_bytes}
use Rattle.rules.specs.Requests.{Call, starting, on, opening, posting, emitting, acknowledging, responding, ticking, closing}
use Rattle.rules.specs.Calls.{Said}
use Rattle.rules.specs.History.{heard, accounted}

-- ---- the lines, each with the numbers of the trace in their order; what is lent is all zero, and just as long as is needed

abbrev lent : List ℕ
lent = replicate (completion_buffer small) 0

-- nothing, for a budget over the largest
abbrev lent_for : ℕ → List ℕ
lent_for budget = if ltb largest_budget budget then [] else replicate (record_bytes * budget) 0

abbrev pub opens : ℕ → ℕ → ℕ → ℕ → ℕ → ℕ → ℕ → ℕ → ℕ → ℕ → Call
opens p far psn pkey pmtu share ceiling retry rnr timeout =
    on p
    (opening (record { far = far; pkey = pkey; pmtu = pmtu; share = share; ceiling = ceiling; retry = retry; rnr = rnr; timeout = timeout }) psn)

abbrev pub posts : ℕ → ℕ → ℕ → ℕ → ℕ → ℕ → ℕ → ℕ → ℕ → ℕ → Call
posts p ticket kind imm value fence length offset address key =
    on p
    (posting
    (record { kind = kind; immediate = eqb imm 1; fenced = eqb fence 1; ticket = ticket; offset = offset; length = length; address = address; key = key; value = value }))

abbrev pub emits : ℕ → ℕ → Call
emits p budget = on p (emitting budget (lent_for budget))

abbrev pub acks : ℕ → ℕ → ℕ → Call
acks p psn syndrome = on p (acknowledging psn syndrome lent)

abbrev pub responds : ℕ → ℕ → ℕ → ℕ → Call
responds p psn opcode length = on p (responding psn opcode length lent)

abbrev pub ticks : ℕ → ℕ → Call
ticks p ns = on p (ticking ns lent)

abbrev pub closes : ℕ → Call
closes p = on p (closing lent)

-- ---- the answers

-- so many big-endian numbers of four bytes
abbrev words : ℕ → List ℕ → List ℕ
words zero bs = []
words (suc k) bs = number (take 4 bs) ∷ words k (drop 4 bs)

-- what the host reads: of an emission the records counted, of the others tickets and statuses
abbrev read : Result Reply Refusal → List ℕ → List ℕ
read (Ok (Count n)) buffer = words (record_bytes / 4 * n) buffer
read (Ok (Answered a messages place)) buffer = heard (Answered a messages place) buffer
read (Ok (First psn)) buffer = []
read (Err r) buffer = []

-- what the definitions answer to a trace on the card, with what is read in the buffer's place
abbrev answers : List Call → List Said
answers cs = map (λ s. record { reply = s.reply; buffer = read s.reply s.buffer }) (accounted small cs).said

-- ---- a call and the second program's answer, with the numbers to read of it, if any

pub record Exchange : Type 0 where
  pub call : Call
  pub said : Said

infixl 80 ◌gets◌
abbrev pub ◌gets◌ : Call → Reply → Exchange
◌gets◌ c r = record { call = c; said = record { reply = Ok r; buffer = [] } }

infixl 80 ◌refused◌
abbrev pub ◌refused◌ : Call → Refusal → Exchange
◌refused◌ c r = record { call = c; said = record { reply = Err r; buffer = [] } }

infixl 80 ◌reading◌
abbrev pub ◌reading◌ : Exchange → List ℕ → Exchange
◌reading◌ e ns = record { call = e.call; said = record { reply = e.said.reply; buffer = ns } }

-- the definitions answer so too, to each call after those before it
abbrev pub Agrees : List Exchange → Type 0
Agrees es = answers (map (λ e. e.call) es) ≡ map (λ e. e.said) es
