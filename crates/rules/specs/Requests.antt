-- What may be asked of the card, and what it answers.
use Rattle.std.specs.Prelude.{List, [], ◌∷◌, ℕ, ◌*◌, Result, Ok, Err}
use Rattle.refusal.specs.declared.Refusal.{Refusal}
use Rattle.refusal.specs.Numbers.{number}
use Rattle.rules.specs.declared.Settings.{Settings}
use Rattle.rules.specs.declared.Post.{Post}
use Rattle.rules.specs.declared.Answer.{Answer}
use Rattle.rules.specs.declared.Answer.TheVariants.{Dropped, Done, Resending, Held, Resumed, Idle, Ended}
use Rattle.rules.specs.declared.Reply.{Reply}
use Rattle.rules.specs.declared.Reply.TheVariants.{Answered, First, Count}
use Rattle.rules.specs.Card.{Card, completion_buffer}
use Rattle.rules.specs.Emission.{record_bytes}

-- of one pair: the arguments, and the lent buffer (bytes for an emission, numbers for the others)
pub data Request : Type 0 where
  opening : (settings : Settings) (first : ℕ) → Request
  posting : (m : Post) → Request
  emitting : (budget : ℕ) (buffer : List ℕ) → Request
  acknowledging : (r syndrome : ℕ) (buffer : List ℕ) → Request
  responding : (r opcode len : ℕ) (buffer : List ℕ) → Request
  ticking : (elapsed : ℕ) (buffer : List ℕ) → Request
  closing : (buffer : List ℕ) → Request

-- of the card: a fresh start, or a request to pair p
pub data Call : Type 0 where
  starting : Call
  on : (p : ℕ) (q : Request) → Call

-- the buffer that is lent
abbrev pub lent : Request → List ℕ
lent (opening st a) = []
lent (posting m) = []
lent (emitting n b) = b
lent (acknowledging r y b) = b
lent (responding r o l b) = b
lent (ticking e b) = b
lent (closing b) = b

-- how long it must be: "48 × budget bytes"; "Events, timer steps and close need a buffer of 512 32-bit numbers"
abbrev pub needed : Card → Request → ℕ
needed card (opening st a) = 0
needed card (posting m) = 0
needed card (emitting n b) = record_bytes * n
needed card (acknowledging r y b) = completion_buffer card
needed card (responding r o l b) = completion_buffer card
needed card (ticking e b) = completion_buffer card
needed card (closing b) = completion_buffer card

-- ---- each answer's number and values: the refusal's number, or 0; then what 01 says the answer holds

abbrev pub word_of : Answer → ℕ
word_of Dropped = 0
word_of Done = 1
word_of Resending = 2
word_of Held = 3
word_of Resumed = 4
word_of Idle = 5
word_of Ended = 6

abbrev pub number_of : Result Reply Refusal → ℕ
number_of (Err r) = number r
number_of (Ok reply) = 0

abbrev pub values_of : Result Reply Refusal → List ℕ
values_of (Err r) = []
values_of (Ok (Answered a messages place)) = word_of a ∷ messages ∷ place ∷ []
values_of (Ok (First psn)) = psn ∷ []
values_of (Ok (Count packets)) = packets ∷ []
