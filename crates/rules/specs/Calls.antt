-- What a call does: to the account, where no slot, link or free queue is; and to the tables, by way of the slots. Both by the same refusals and rules.
use Rattle.std.specs.Prelude.{not, ◌&&◌, List, [], ◌∷◌, ◌++◌, ℕ, ◌+◌, eqb, length, set, drop, replicate, Option, Some, None, Result, Ok, Err, if◌then◌else◌}
use Rattle.refusal.specs.declared.Refusal.{Refusal}
use Rattle.refusal.specs.declared.Refusal.TheVariants as refusal
use Rattle.refusal.specs.Refusals.{◌gives◌, first_given}
use Rattle.rules.specs.declared.Packet.{Packet}
use Rattle.rules.specs.declared.Standing.{Standing}
use Rattle.rules.specs.declared.Answer.{Answer}
use Rattle.rules.specs.declared.Answer.TheVariants.{Dropped, Done, Resending, Held, Resumed, Idle, Ended}
use Rattle.rules.specs.declared.Reply.{Reply}
use Rattle.rules.specs.declared.Reply.TheVariants.{Answered, First, Count}
use Rattle.rules.specs.Card.{Card}
use Rattle.rules.specs.Account.{Side, no_side, N}
use Rattle.rules.specs.Message.{packets_of}
use Rattle.rules.specs.Posting.{posted}
use Rattle.rules.specs.declared.Outcome.{Outcome}
use Rattle.rules.specs.Outcome.{departures, completions, messages_of, opened, closing_all}
use Rattle.rules.specs.Acknowledge.{acknowledge}
use Rattle.rules.specs.Response.{read_at, place_of, response}
use Rattle.rules.specs.Timer.{timer}
use Rattle.rules.specs.Emission.{going, outgoing, emitted, emissions}
use Rattle.rules.specs.Slots.{Tables, sides, freed, stored, fresh}
use Rattle.rules.specs.Passes.Tables.{passes}
use Rattle.rules.specs.Requests.{Request, opening, posting, emitting, acknowledging, responding, ticking, closing, Call, starting, on, lent}
use Rattle.rules.specs.Refusals.{side_at, refusals}

-- ---- what an accepted request does: its answer, how its pair then stands, which packets leave or join the pair, and the lent buffer

pub data Move : Type 0 where
  leaves : (released flushed : ℕ) → Move
  joins : List Packet → Move

pub record Effect : Type 0 where
  pub reply : Reply
  pub standing : Standing
  pub move : Move
  pub buffer : List ℕ

-- from the front, "rest unchanged", "Other buffer bytes stay."
abbrev pub overlaid : List ℕ → List ℕ → List ℕ
overlaid new old = new ++ drop (length new) old

-- ""done" with the payload's place"; other answers have none
abbrev pub place_if : Answer → ℕ → ℕ
place_if Done n = n
place_if Dropped n = 0
place_if Resending n = 0
place_if Held n = 0
place_if Resumed n = 0
place_if Idle n = 0
place_if Ended n = 0

abbrev pub reported : Outcome → ℕ → List ℕ → Side → Effect
reported o place buffer s =
    let gone = departures o.released o.flushed s.packets in
    record {
      reply = Answered o.answer (messages_of gone) place;
      standing = o.standing;
      move = leaves o.released o.flushed;
      buffer = overlaid (completions gone) buffer;
    }

-- "Open and close answer "done", a post its first PSN, an emission its count."
abbrev pub effect : Request → Side → Effect
effect (opening st a) s = record { reply = Answered Done 0 0; standing = opened st a; move = leaves 0 0; buffer = [] }
effect (posting m) s =
    record { reply = First (N s); standing = (posted m s).standing; move = joins (packets_of s.standing.settings m (N s)); buffer = [] }
effect (emitting budget b) s =
    record {
      reply = Count (going budget s);
      standing = (emitted budget s).standing;
      move = leaves 0 0;
      buffer = overlaid (emissions s.standing (outgoing budget s)) b;
    }
effect (acknowledging r y b) s = reported (acknowledge r y s) 0 b s
effect (responding r o l b) s = reported (response r s) (place_if (response r s).answer (place_of s.standing.settings r (read_at r s))) b s
effect (ticking e b) s = reported (timer e s) 0 b s
effect (closing b) s = reported (closing_all (length s.packets)) 0 b s

-- ---- a step: what is said (answer and buffer), and what is next

pub record Said : Type 0 where
  pub reply : Result Reply Refusal
  pub buffer : List ℕ

pub record Step (A : Type 0) : Type 0 where
  pub said : Said
  pub next : A

-- "Each returns its number and leaves all tables and buffers unchanged."
abbrev pub refuse : {A : Type 0} → Refusal → List ℕ → A → Step A
refuse r b a = record { said = record { reply = Err r; buffer = b }; next = a }

abbrev pub accept : {A : Type 0} → Effect → A → Step A
accept e a = record { said = record { reply = Ok e.reply; buffer = e.buffer }; next = a }

abbrev pub started : {A : Type 0} → A → Step A
started a = record { said = record { reply = Ok (Answered Done 0 0); buffer = [] }; next = a }

-- refused where a row gives a refusal; else accepted, and n is next
abbrev pub verdict : {A : Type 0} → Option Refusal → Effect → A → List ℕ → A → Step A
verdict None e n b a = accept e n
verdict (Some r) e n b a = refuse r b a

-- ---- the account

abbrev pub packets_after : Move → List Packet → List Packet
packets_after (leaves released flushed) ps = drop (released + flushed) ps
packets_after (joins qs) ps = ps ++ qs

abbrev pub side_after : Effect → Side → Side
side_after e s = record { standing = e.standing; packets = packets_after e.move s.packets }

-- "A fresh start closes all pairs"
abbrev pub all_closed : Card → List Side
all_closed card = replicate card.pairs no_side

unfoldable pub account : Card → Call → List Side → Step (List Side)
account card starting a = started (all_closed card)
account card (on p q) a =
    let e = effect q (side_at a p) in
    verdict (first_given (refusals card q p a)) e (set a p (side_after e (side_at a p))) (lent q) a

-- ---- the tables

abbrev pub tables_after : ℕ → ℕ → Standing → Move → Tables → Tables
tables_after none p st (leaves released flushed) t = freed none p st (released + flushed) t
tables_after none p st (joins qs) t = stored none p st qs t

-- "Every call on the tables audits first; a fresh start tests only the two lengths (15)." "Order: 15, then 1 to 9". `passes` is true exactly if the tables pass the
-- audit (`decided`)
unfoldable pub call : Card → Call → Tables → Step Tables
call card starting t =
    if eqb (length t.pairs) card.pairs && eqb (length t.slots) card.slots
    then started (fresh card)
    else refuse refusal.Audit [] t
call card (on p q) t =
    let e = effect q (side_at (sides t) p) in
    verdict (first_given (not (passes card t) gives refusal.Audit ∷ refusals card q p (sides t))) e (tables_after card.none p e.standing e.move t) (lent q) t
