-- What a line asks, from "Reading" and "Calls" of the trace protocol. Assumes nothing.
use Rattle.std.specs.Prelude.{ℕ, zero, suc, ◌-◌, ◌&&◌, List, [], ◌∷◌, ◌++◌, Option, None, Some, leb, ltb, eqb, length, get_or, replicate, if◌then◌else◌}
use Prim.Native.String.{String}
use Rattle.text.specs.declared.Ask.{Ask}
use Rattle.text.specs.declared.Ask.TheVariants.{Nothing, Unread, Fresh, Open, Post, Emit, Ack, Response, Timer, Close, Room, Show, Free, Write, Read}
use Rattle.text.specs.declared.Parsed.{Parsed}
use Rattle.text.specs.declared.Follow.{Follow}
use Rattle.text.specs.declared.Follow.TheVariants.{Numbers, Sizes, Hex}
use Rattle.text.specs.declared.Row.{Row}
use Rattle.text.specs.Text.{bytes, same}
use Rattle.text.specs.Words.{words}
use Rattle.text.specs.Number.{number_of}
use Rattle.text.specs.Hex.{is_hex}

abbrev pub alone : Ask → Parsed
alone a = record { ask = a; args = replicate 11 0 }

-- ---- the words that follow the first

abbrev pub with_number : Option ℕ → Option (List ℕ) → Option (List ℕ)
with_number None ns = None
with_number (Some n) None = None
with_number (Some n) (Some ns) = Some (n ∷ ns)

-- "a missing or extra word, a number over 2^64 − 1, a word that is no number .. where one stands": just so many words, all numbers
unfoldable pub numbers_of : ℕ → List (List ℕ) → Option (List ℕ)
numbers_of zero [] = Some []
numbers_of zero (w ∷ ws) = None
numbers_of (suc n) [] = None
numbers_of (suc n) (w ∷ ws) = with_number (number_of w) (numbers_of n ws)

-- the numbers in their array, with zeros behind them
abbrev pub padded : List ℕ → List ℕ
padded ns = ns ++ replicate (11 - length ns) 0

abbrev pub given : Ask → Option (List ℕ) → Parsed
given a None = alone Unread
given a (Some ns) = record { ask = a; args = padded ns }

-- "(at most 8,192 and 2,048, else `unread L`)"
abbrev pub limited : ℕ → ℕ → Parsed → Parsed
limited x y p = if leb (get_or p.args 0 0) x && leb (get_or p.args 1 0) y then p else alone Unread

-- "a word that is .. no HEX where one stands", or a missing or extra one
abbrev pub given_hex : Ask → List (List ℕ) → Parsed
given_hex a [] = alone Unread
given_hex a (w ∷ []) = if is_hex w then alone a else alone Unread
given_hex a (w ∷ v ∷ ws) = alone Unread

abbrev pub called_by : Follow → Ask → List (List ℕ) → Parsed
called_by (Numbers n) a ws = given a (numbers_of n ws)
called_by (Sizes x y) a ws = limited x y (given a (numbers_of 2 ws))
called_by Hex a ws = given_hex a ws

abbrev pub called : Row → List (List ℕ) → Parsed
called r ws = called_by r.follow r.ask ws

-- ---- the table of calls

pub record Entry : Type 0 where
  pub name : List ℕ
  pub row : Row

abbrev pub entry : String → Ask → Follow → Entry
entry s a f = record { name = bytes s; row = record { ask = a; follow = f } }

abbrev pub table : List Entry
table =
    entry "fresh" Fresh (Numbers 0)
    ∷ entry "open" Open (Numbers 10)
    ∷ entry "post" Post (Numbers 10)
    ∷ entry "emit" Emit (Numbers 2)
    ∷ entry "ack" Ack (Numbers 3)
    ∷ entry "response" Response (Numbers 4)
    ∷ entry "timer" Timer (Numbers 2)
    ∷ entry "close" Close (Numbers 1)
    ∷ entry "room" Room (Sizes 8192 2048)
    ∷ entry "show" Show (Numbers 1)
    ∷ entry "free" Free (Numbers 0)
    ∷ entry "write" Write (Numbers 11)
    ∷ entry "read" Read Hex
    ∷ []

-- "an unknown first word" is not read
unfoldable pub asked : List Entry → List ℕ → List (List ℕ) → Parsed
asked [] w ws = alone Unread
asked (e ∷ es) w ws = if same w e.name then called e.row ws else asked es w ws

-- ---- the line

-- "an empty line, a line of blanks, and one whose first word starts with `#` write nothing"
abbrev pub asked_of : List (List ℕ) → Parsed
asked_of [] = alone Nothing
asked_of (w ∷ ws) = if eqb (get_or w 0 0) 35 then alone Nothing else asked table w ws

-- "A line of over 20,000 bytes is not read, whatever it holds. Else .."
unfoldable pub parsed_of : List ℕ → Parsed
parsed_of l = if ltb 20000 (length l) then alone Unread else asked_of (words l)
