-- "Errors of this trade", each as what shuts it out. Their proofs are in proofs/Errors.
use Rattle.std.specs.Prelude.{◌≡◌, ◌≢◌, true, false, ◌&&◌, List, ◌++◌, map, ℕ, ◌≤◌, ◌<◌, length, Ok}
use Rattle.psn.specs.Psn.{psns, distance, plus, next}
use Rattle.refusal.specs.Choice.{Each}
use Rattle.rules.specs.declared.Packet.{Packet}
use Rattle.rules.specs.declared.Line.{Line}
use Rattle.rules.specs.declared.Standing.{Standing}
use Rattle.rules.specs.declared.Post.{Post}
use Rattle.rules.specs.declared.Answer.{Answer}
use Rattle.rules.specs.declared.Answer.TheVariants.{Done, Resending, Held, Ended}
use Rattle.rules.specs.declared.Reply.TheVariants.{Answered}
use Rattle.rules.specs.Card.{Card, completion_buffer}
use Rattle.rules.specs.Account.{Side, ready, U, X, H, N, updated}
use Rattle.rules.specs.Message.{is_read, unanswered}
use Rattle.rules.specs.Posting.{posted}
use Rattle.rules.specs.declared.Outcome.{Outcome}
use Rattle.rules.specs.Outcome.{left_with, completions, messages_of}
use Rattle.rules.specs.Acknowledge.{inside, acknowledge}
use Rattle.rules.specs.Response.{unfit, response}
use Rattle.rules.specs.Timer.{timer}
use Rattle.rules.specs.Emission.{emitted}
use Rattle.rules.specs.Slots.{Tables, slot_at, queue, free, times, side}
use Rattle.rules.specs.Order.{◌or◌}
use Rattle.rules.specs.Audit.{Audit}
use Rattle.rules.specs.Requests.{acknowledging, on}
use Rattle.rules.specs.Calls.{overlaid, Step, call}

-- ---- "An ACK of Sends that leaves R held."

-- a packet up to R, and one after R, by distance from u
abbrev pub UpTo : ℕ → ℕ → Packet → Type 0
UpTo u r q = distance u q.psn ≤ distance u r

abbrev pub After : ℕ → ℕ → Packet → Type 0
After u r q = distance u r < distance u q.psn

-- where tables t became n: pair p let go of its packets up to R and of no other, and every slot that held one of them is free
pub record NoneUpTo (p r : ℕ) (t n : Tables) : Type 0 where
  pub gone : List Packet
  pub rest : (side t p).packets ≡ gone ++ (side n p).packets
  pub all-up-to : Each (UpTo (U (side t p)) r) gone
  pub none-held : Each (After (U (side t p)) r) (side n p).packets
  pub slots-free : (i : ℕ) → 1 ≤ times i (queue t p) → UpTo (U (side t p)) r (slot_at t.slots i).packet → times i (free n) ≡ 1

-- an event for R that nothing is wrong with: the tables pass, the pair is ready, R and the lent buffer are in range, and the distance U to R is less than U to H
pub record Proper (card : Card) (t : Tables) (p r : ℕ) (b : List ℕ) : Type 0 where
  pub audited : Audit card t
  pub pair : p < card.pairs
  pub is-ready : (side t p).standing.state ≡ ready
  pub psn : r < psns
  pub buffer : completion_buffer card ≤ length b
  pub open-range : distance (U (side t p)) r < distance (U (side t p)) (H (side t p))

-- every read's first unanswered PSN is after R
abbrev pub ReadsAfter : ℕ → Side → Type 0
ReadsAfter r s = Each (λ (q : Packet). is_read q ≡ true → distance (U s) r < distance (U s) (unanswered s.standing q)) s.packets

-- it lets go of all packets up to R and of no other, tells the tickets of their messages with status 0, answers "done", and U is past R
pub record Acked (p r : ℕ) (b : List ℕ) (t : Tables) (n : Step Tables) : Type 0 where
  pub none-up-to : NoneUpTo p r t n.next
  pub done : n.said.reply ≡ Ok (Answered Done (messages_of (left_with 0 none-up-to.gone)) 0)
  pub told : n.said.buffer ≡ overlaid (completions (left_with 0 none-up-to.gone)) b
  pub u-after : U (side n.next p) ≡ next r

-- of every ACK ("Syndrome top bits 000") of R with no read unanswered up to R
abbrev pub AckFrees : Card → Type 0
AckFrees card =
    (t : Tables) (p r y : ℕ) (b : List ℕ) → Proper card t p r b → y < 32 → ReadsAfter r (side t p)
    → Acked p r b t (call card (on p (acknowledging r y b)) t)

-- ---- the same of a NAK or RNR, which must not let go of R

-- a packet before R, and one from R on
abbrev pub BeforeR : ℕ → ℕ → Packet → Type 0
BeforeR u r q = distance u q.psn < distance u r

abbrev pub FromR : ℕ → ℕ → Packet → Type 0
FromR u r q = distance u r ≤ distance u q.psn

-- every read's first unanswered PSN is at R or after it
abbrev pub ReadsFrom : ℕ → Side → Type 0
ReadsFrom r s = Each (λ (q : Packet). is_read q ≡ true → distance (U s) r ≤ distance (U s) (unanswered s.standing q)) s.packets

-- it lets go of all packets before R and of no other, tells them with status 0, and all from R on is to be sent again
pub record Nacked (p r : ℕ) (b : List ℕ) (answer : Answer) (t : Tables) (n : Step Tables) : Type 0 where
  pub gone : List Packet
  pub rest : (side t p).packets ≡ gone ++ (side n.next p).packets
  pub all-before : Each (BeforeR (U (side t p)) r) gone
  pub all_from : Each (FromR (U (side t p)) r) (side n.next p).packets
  pub said : n.said.reply ≡ Ok (Answered answer (messages_of (left_with 0 gone)) 0)
  pub told : n.said.buffer ≡ overlaid (completions (left_with 0 gone)) b
  pub u-after : U (side n.next p) ≡ r
  pub x-after : X (side n.next p) ≡ r

-- of every NAK of code 0 to 2 ("011": 96, 97, 98), and of every RNR ("001": 32 to 63) on a pair whose RNR retry is set to 7 or has a count left
pub record NakKeeps (card : Card) : Type 0 where
  pub nak : (t : Tables) (p r y : ℕ) (b : List ℕ) → Proper card t p r b → 96 ≤ y → y ≤ 98 → ReadsFrom r (side t p)
      → Nacked p r b Resending t (call card (on p (acknowledging r y b)) t)
  pub rnr : (t : Tables) (p r y : ℕ) (b : List ℕ) → Proper card t p r b → 32 ≤ y → y < 64 → ReadsFrom r (side t p)
      → ((side t p).standing.settings.rnr ≡ 7) or (0 < (side t p).standing.clock.rnrs)
      → Nacked p r b Held t (call card (on p (acknowledging r y b)) t)

-- ---- "PSNs compared as plain numbers, wrong at 16,777,215."

-- every PSN of a side, k places on
abbrev pub turned_packet : ℕ → Packet → Packet
turned_packet k p =
    record {
      psn = plus p.psn k;
      ticket = p.ticket;
      opcode = p.opcode;
      offset = p.offset;
      length = p.length;
      address = p.address;
      key = p.key;
      total = p.total;
      value = p.value;
    }

abbrev pub turned_line : ℕ → Line → Line
turned_line k l = record { u = plus l.u k; x = plus l.x k; h = plus l.h k; n = plus l.n k }

abbrev pub turned_standing : ℕ → Standing → Standing
turned_standing k t = updated (turned_line k t.line) t.clock t

abbrev pub turned : ℕ → Side → Side
turned k s = record { standing = turned_standing k s.standing; packets = map (turned_packet k) s.packets }

-- an outcome's line turned; answer and counts as they are
abbrev pub turned_outcome : ℕ → Outcome → Outcome
turned_outcome k o = record { answer = o.answer; released = o.released; flushed = o.flushed; standing = turned_standing k o.standing }

-- every rule does the same wherever the PSNs stand: no PSN is compared as a plain number
pub record TurnsRound (k : ℕ) (s : Side) : Type 0 where
  pub post : (m : Post) → posted m (turned k s) ≡ turned k (posted m s)
  pub emission : (budget : ℕ) → emitted budget (turned k s) ≡ turned k (emitted budget s)
  pub acknowledgement : (r syndrome : ℕ) → r < psns → acknowledge (plus r k) syndrome (turned k s) ≡ turned_outcome k (acknowledge r syndrome s)
  -- of any response that 9 does not refuse
  pub read-response : (r opcode len : ℕ) → r < psns → inside r s && unfit r opcode len s ≡ false
      → response (plus r k) (turned k s) ≡ turned_outcome k (response r s)
  pub timer-step : (e : ℕ) → timer e (turned k s) ≡ turned_outcome k (timer e s)
  -- and what 7 and 9 ask of PSNs
  pub reach : distance (U (turned k s)) (N (turned k s)) ≡ distance (U s) (N s)
  pub unfitting : (r opcode len : ℕ) → r < psns
      → inside (plus r k) (turned k s) && unfit (plus r k) opcode len (turned k s) ≡ inside r s && unfit r opcode len s

-- of every open pair of audited tables, and every turn
abbrev pub AnyTurn : Card → Type 0
AnyTurn card = (t : Tables) → Audit card t → (p : ℕ) → p < card.pairs → 0 < (side t p).standing.state → (k : ℕ) → TurnsRound k (side t p)

-- ---- "An ACK past an unanswered read that frees the read."

-- every slot of pair p that holds a read stays in its queue, and the read's first unanswered PSN is what it was
pub record ReadsStay (p : ℕ) (t n : Tables) : Type 0 where
  pub stay : (i : ℕ) → 1 ≤ times i (queue t p) → is_read (slot_at t.slots i).packet ≡ true → times i (queue n p) ≡ 1
  pub unanswered-kept : (i : ℕ) → 1 ≤ times i (queue t p) → is_read (slot_at t.slots i).packet ≡ true
      → unanswered (side n p).standing (slot_at t.slots i).packet ≡ unanswered (side t p).standing (slot_at t.slots i).packet

-- of every acknowledgement, whatever its syndrome and the tables, that does not end the pair
abbrev pub AckKeepsReads : Card → Type 0
AckKeepsReads card =
    (t : Tables) (p r y : ℕ) (b : List ℕ) (answer : Answer) (messages place : ℕ)
    → (call card (on p (acknowledging r y b)) t).said.reply ≡ Ok (Answered answer messages place)
    → answer ≢ Ended
    → ReadsStay p t (call card (on p (acknowledging r y b)) t).next
