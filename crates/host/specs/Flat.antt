-- Answers and posts as a C driver has them, and what a call leaves of all that it was lent.
use Rattle.std.specs.Prelude.{◌≡◌, Bool, List, ℕ, ltb, eqb, Result, Ok, Err, if◌then◌else◌}
use Rattle.refusal.specs.declared.Refusal.{Refusal}
use Rattle.refusal.specs.declared.Refusal.TheVariants as refusal
use Rattle.refusal.specs.Numbers.{number}
use Rattle.rules.specs.declared.Ends.{Ends}
use Rattle.rules.specs.declared.Pair.{Pair}
use Rattle.rules.specs.declared.Post.{Post}
use Rattle.rules.specs.declared.Reply.{Reply}
use Rattle.rules.specs.declared.Reply.TheVariants.{Answered, First, Count}
use Rattle.rules.specs.declared.Slot.{Slot}
use Rattle.rules.specs.Card.{small}
use Rattle.rules.specs.Slots.{Tables}
use Rattle.rules.specs.Requests.{Call, number_of, word_of}
use Rattle.rules.specs.Calls.{call}
use Rattle.host.specs.declared.Said.{Said}
use Rattle.host.specs.declared.Posted.{Posted}

-- the number (`number_of`), then the values (`values_of`), each in its place; 0 where there is none
abbrev pub said_of : Result Reply Refusal → Said
said_of (Err r) = record { refusal = number_of (Err r); answer = 0; number = 0; place = 0 }
said_of (Ok (Answered a messages place)) = record { refusal = 0; answer = word_of a; number = messages; place = place }
said_of (Ok (First psn)) = record { refusal = 0; answer = 0; number = psn; place = 0 }
said_of (Ok (Count packets)) = record { refusal = 0; answer = 0; number = packets; place = 0 }

-- 1 says yes and 0 no; with more the post is of no known kind, which is out of range as well
abbrev pub post_of : Posted → Post
post_of m =
    record {
      kind = if ltb 1 m.immediate then 3 else (if ltb 1 m.fenced then 3 else m.kind);
      immediate = eqb m.immediate 1;
      fenced = eqb m.fenced 1;
      ticket = m.ticket;
      offset = m.offset;
      length = m.length;
      address = m.address;
      key = m.key;
      value = m.value;
    }

-- the audit: 0 where it passes, else its refusal
abbrev pub number_if : Bool → ℕ
number_if b = if b then 0 else number refusal.Audit

-- the answer in numbers, and the tables, are those of the rules' call on the lent tables
abbrev pub Says : Call → Tables → Said → List Pair → Ends → List Slot → Type 0
Says c t r pairs ends slots =
    let s = call small c t in (r ≡ said_of s.said.reply) × ((pairs ≡ s.next.pairs) × ((ends ≡ s.next.ends) × (slots ≡ s.next.slots)))

-- and so is the lent buffer
abbrev pub Fills : Call → Tables → Said → List Pair → Ends → List Slot → List ℕ → Type 0
Fills c t r pairs ends slots buffer =
    let s = call small c t in
    (r ≡ said_of s.said.reply) × ((pairs ≡ s.next.pairs) × ((ends ≡ s.next.ends) × ((slots ≡ s.next.slots) × (buffer ≡ s.said.buffer))))
