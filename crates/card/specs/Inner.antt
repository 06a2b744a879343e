-- What private functions promise one another; nobody need believe it.
use Rattle.std.specs.Prelude.{◌≡◌, [], List, ◌&&◌, ℕ, ◌-◌, min, eqb, length, set, Result, Ok, Err, if◌then◌else◌}
use Rattle.refusal.specs.declared.Refusal.{Refusal}
use Rattle.refusal.specs.declared.Refusal.TheVariants as refusal
use Rattle.refusal.specs.Loop.{loop}
use Rattle.rules.specs.declared.Answer.TheVariants.{Done}
use Rattle.rules.specs.declared.Ends.{Ends}
use Rattle.rules.specs.declared.Pair.{Pair}
use Rattle.rules.specs.declared.Reply.{Reply}
use Rattle.rules.specs.declared.Reply.TheVariants.{Answered}
use Rattle.rules.specs.declared.Slot.{Slot}
use Rattle.rules.specs.Account.{no_packet, no_standing}
use Rattle.rules.specs.Card.{small}
use Rattle.rules.specs.Slots.{Tables, pair_at}
use Rattle.audit.specs.Loops.{audited}
use Rattle.engine.specs.declared.Ask.{Ask}
use Rattle.engine.specs.declared.Plan.{Plan}
use Rattle.engine.specs.declared.Settled.{Settled}
use Rattle.engine.specs.Asked.{lent_of}
use Rattle.engine.specs.Planning.{plan_of}
use Rattle.engine.specs.Settling.{settled_of}
use Rattle.walks.specs.Acting.{leave, join, emit}
use Rattle.engine.specs.Body.{Ran, acted, scan_of}
use Rattle.card.specs.declared.Limits.{Limits}
use Rattle.card.specs.declared.Started.{Started}
use Rattle.card.specs.declared.Walked.{Walked}

-- ---- a call that may use so much of the lent buffers: with all of them it is the engine's `body`

abbrev pub within : Limits → List ℕ → List ℕ → Limits
within r done out = record { numbers = min r.numbers (length done); bytes = min r.bytes (length out) }

abbrev pub plan_with : ℕ → Ask → Tables → ℕ → Plan
plan_with at ask t room = plan_of (audited t) at (pair_at t.pairs at) t.ends (scan_of at ask t) ask room

unfoldable pub body_in : Limits → ℕ → Ask → Tables → List ℕ → List ℕ → Ran
body_in r at ask t done out =
    let w = within r done out in
    acted at t done out (plan_with at ask t (lent_of ask w.numbers w.bytes))

-- the three walks of a plan, one after the other
pub record Acted : Type 0 where
  pub walked : Walked
  pub slots : List Slot
  pub numbers : List ℕ
  pub bytes : List ℕ

abbrev pub acted_on : Plan → List Slot → List ℕ → List ℕ → Acted
acted_on g slots done out =
    let l = leave (record { work = g.leaving; slots = slots; done = done }) in
    let j = join (record { work = g.joining; slots = l.slots }) in
    let m = emit j.slots (record { work = g.emitting; out = out }) in
    record { walked = record { leaving = l.work; joining = j.work; emitting = m.work }; slots = j.slots; numbers = l.done; bytes = m.out }

abbrev pub Acts : Acted → Walked → List Slot → List ℕ → List ℕ → Type 0
Acts x r slots done out = (r ≡ x.walked) × ((slots ≡ x.slots) × ((done ≡ x.numbers) × (out ≡ x.bytes)))

-- what is to be written back after them
abbrev pub finished : Pair → Ends → Plan → Walked → Settled
finished p e g w = settled_of p e g w.leaving w.joining w.emitting

abbrev pub Runs : Ran → Result Reply Refusal → List Pair → Ends → List Slot → List ℕ → List ℕ → Type 0
Runs x r pairs ends slots done out =
    (r ≡ x.reply) × ((pairs ≡ x.tables.pairs) × ((ends ≡ x.tables.ends) × ((slots ≡ x.tables.slots) × ((done ≡ x.numbers) × (out ≡ x.bytes)))))

-- a call that is lent numbers, and no bytes
abbrev pub with_numbers : ℕ → Ask → Tables → List ℕ → Ran
with_numbers at ask t done = body_in (record { numbers = length done; bytes = 0 }) at ask t done []

abbrev pub Leaves : Ran → Result Reply Refusal → List Pair → Ends → List Slot → List ℕ → Type 0
Leaves x r pairs ends slots done = (r ≡ x.reply) × ((pairs ≡ x.tables.pairs) × ((ends ≡ x.tables.ends) × ((slots ≡ x.tables.slots) × (done ≡ x.numbers))))

-- ---- a fresh start, from the last record to the first

abbrev pub closed_pair : Pair
closed_pair = record { standing = no_standing; queue = record { first = small.none; last = small.none; held = 0 } }

-- slot i leads to the next, and the last to none, which is the number past it
abbrev pub free_slot : ℕ → Slot
free_slot i = record { link = i; packet = no_packet }

pub record Filled (A : Type 0) : Type 0 where
  pub left : ℕ
  pub rows : List A

abbrev pub fill_turn : {A : Type 0} → (ℕ → A) → Filled A → Filled A
fill_turn row x = record { left = x.left - 1; rows = set x.rows (x.left - 1) (row x.left) }

abbrev pub fill : {A : Type 0} → (ℕ → A) → Filled A → Filled A
fill {A} row x = loop (λ (y : Filled A). y.left) (fill_turn row) x

abbrev pub pair_row : ℕ → Pair
pair_row i = closed_pair

-- all records are written, or none
abbrev pub starts_all : Started
starts_all =
    record {
      pairs = small.pairs;
      slots = small.slots;
      ends = record { first = 0; last = small.slots - 1 };
      reply = Ok (Answered Done 0 0);
    }

abbrev pub starts_none : Ends → Started
starts_none e = record { pairs = 0; slots = 0; ends = e; reply = Err refusal.Audit }

unfoldable pub start_of : ℕ → ℕ → Ends → Started
start_of pairs slots e = if eqb pairs small.pairs && eqb slots small.slots then starts_all else starts_none e
