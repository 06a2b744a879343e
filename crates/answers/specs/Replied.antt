-- The text of a call's answer, from "Calls" of the trace protocol. Assumes nothing.
use Rattle.std.specs.Prelude.{ℕ, zero, suc, ◌+◌, ◌*◌, List, [], ◌∷◌, ◌++◌, get_or, take, drop, Result, Ok, Err}
use Rattle.refusal.specs.declared.Refusal.{Refusal}
use Rattle.refusal.specs.Numbers.{number}
use Rattle.text.specs.declared.Ask.{Ask}
use Rattle.text.specs.declared.Ask.TheVariants.{Nothing, Unread, Fresh, Open, Post, Emit, Ack, Response, Timer, Close, Room, Show, Free, Write, Read}
use Rattle.text.specs.Text.{bytes}
use Rattle.text.specs.Hex.{hex_text}
use Rattle.text.specs.Out.{decimal}
use Rattle.rules.specs.declared.Answer.{Answer}
use Rattle.rules.specs.declared.Answer.TheVariants.{Dropped, Done, Resending, Held, Resumed, Idle, Ended}
use Rattle.rules.specs.declared.Reply.{Reply}
use Rattle.rules.specs.declared.Reply.TheVariants.{Answered, First, Count}
use Rattle.rules.specs.Emission.{record_bytes}
use Rattle.answers.specs.Said.{numeral, said, refused_text}

-- f 0, f 1 and so on, n texts in a row
unfoldable pub joined : (ℕ → List ℕ) → ℕ → List ℕ
joined f zero = []
joined f (suc n) = joined f n ++ f n

-- "Answers are the words of document 01: `dropped done resending held ended idle resumed`."
abbrev pub word_text : Answer → List ℕ
word_text Dropped = bytes "dropped"
word_text Done = bytes "done"
word_text Resending = bytes "resending"
word_text Held = bytes "held"
word_text Resumed = bytes "resumed"
word_text Idle = bytes "idle"
word_text Ended = bytes "ended"

-- "`done@O` for "done", O being the payload's place": of a response alone
abbrev pub done_place : Answer → ℕ → List ℕ
done_place Done place = bytes "@" ++ decimal place
done_place Dropped place = []
done_place Resending place = []
done_place Held place = []
done_place Resumed place = []
done_place Idle place = []
done_place Ended place = []

abbrev pub place_text : Ask → Answer → ℕ → List ℕ
place_text Response w place = done_place w place
place_text Nothing w place = []
place_text Unread w place = []
place_text Fresh w place = []
place_text Open w place = []
place_text Post w place = []
place_text Emit w place = []
place_text Ack w place = []
place_text Timer w place = []
place_text Close w place = []
place_text Room w place = []
place_text Show w place = []
place_text Free w place = []
place_text Write w place = []
place_text Read w place = []

-- "A completion is ` TICKET:STATUS`": the i-th of a buffer, in which a number past the end reads as 0
abbrev pub completion : List ℕ → ℕ → List ℕ
completion numbers i = numeral (get_or numbers (2 * i) 0) ++ bytes ":" ++ decimal (get_or numbers (2 * i + 1) 0)

-- "K lines `record HEX` of 48 bytes each": the i-th of a buffer, of as many bytes as the buffer has there
abbrev pub record_line : List ℕ → ℕ → List ℕ
record_line buffer i = bytes "record " ++ hex_text (take record_bytes (drop (record_bytes * i) buffer)) ++ bytes "\n"

-- "the answer, then the completions"
abbrev pub answered_text : List ℕ → Ask → Answer → ℕ → ℕ → List ℕ
answered_text numbers what w messages place = word_text w ++ place_text what w place ++ joined (completion numbers) messages ++ bytes "\n"

-- "`emitted K`, then K lines"
abbrev pub emitted_text : List ℕ → ℕ → List ℕ
emitted_text buffer packets = said "emitted" (packets ∷ []) ++ joined (record_line buffer) packets

-- "`first F`, F the message's first PSN"; "Any refusal is `refused N`, and only that."
abbrev pub reply_text : List ℕ → List ℕ → Ask → Result Reply Refusal → List ℕ
reply_text numbers buffer what (Err r) = refused_text (number r)
reply_text numbers buffer what (Ok (Answered w messages place)) = answered_text numbers what w messages place
reply_text numbers buffer what (Ok (First psn)) = said "first" (psn ∷ [])
reply_text numbers buffer what (Ok (Count packets)) = emitted_text buffer packets
