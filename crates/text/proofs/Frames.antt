-- A line that asks for `read` has a HEX as its second word, and is short. Assumes nothing.
use mathlib.Core.Path.{◌≡◌, refl, sym, ap, subst, ◌∙◌}
use mathlib.Core.Bool.{Bool, true, false, cond, ◌&&◌, true≢false}
use mathlib.Core.List.{List, [], ◌∷◌}
use Prim.Native.Nat.{ℕ, zero, suc, ◌≤◌, ◌<◌, zero-le, suc-le-suc}
use Prim.Native.String.{String}
use native.Mathlib.Omega.{arith}
use native.Mathlib.Decide.{dec_lt}
use native.Mathlib.Nat.{le_trans}
use lib.Dec.{leb, eqb}
use lib.ListN.{length, get_or}
use Rattle.std.specs.Prelude.{Option, Some, None}
use Rattle.text.specs.declared.Ask.{Ask}
use Rattle.text.specs.declared.Ask.TheVariants.{Nothing, Unread, Fresh, Open, Post, Emit, Ack, Response, Timer, Close, Room, Show, Free, Write, Read}
use Rattle.text.specs.declared.Parsed.{Parsed}
use Rattle.text.specs.declared.Follow.TheVariants.{Numbers, Sizes, Hex}
use Rattle.text.specs.Text.{same}
use Rattle.text.specs.Words.{blank, goes_on, onto, words}
use Rattle.text.specs.Hex.{is_hex, octets}
use Rattle.text.specs.Line.{alone, numbers_of, given, limited, called, Entry, entry, table, asked, asked_of, parsed_of}
use Rattle.text.proofs.Decoding.{octets-length}
use Rattle.text.proofs.Lines.{too_long, short}

-- ---- a word is no longer than its line

onto-short : (b n : ℕ) (ws : List (List ℕ)) → ((k : ℕ) → length (get_or ws k []) ≤ n) → (k : ℕ) → length (get_or (onto b ws) k []) ≤ suc n
onto-short b n [] h zero = suc-le-suc zero-le
onto-short b n [] h (suc k) = zero-le
onto-short b n (w ∷ ws) h zero = suc-le-suc (h 0)
onto-short b n (w ∷ ws) h (suc k) = le_trans (h (suc k)) (omega arith)

alone-short : (b n : ℕ) (ws : List (List ℕ)) → ((k : ℕ) → length (get_or ws k []) ≤ n) → (k : ℕ) → length (get_or ((b ∷ []) ∷ ws) k []) ≤ suc n
alone-short b n ws h zero = suc-le-suc zero-le
alone-short b n ws h (suc k) = le_trans (h k) (omega arith)

word-short : (l : List ℕ) (k : ℕ) → length (get_or (words l) k []) ≤ length l
unfolding words
word-short [] k = zero-le
word-short (b ∷ l) k = go (blank b) (goes_on l) (word-short l)
  where
    go : (t u : Bool) → ((j : ℕ) → length (get_or (words l) j []) ≤ length l)
        → length (get_or (cond t (words l) (cond u (onto b (words l)) ((b ∷ []) ∷ words l))) k []) ≤ suc (length l)
    go true u h = le_trans (h k) (omega arith)
    go false true h = onto-short b (length l) (words l) h k
    go false false h = alone-short b (length l) (words l) h k

-- ---- only `read` asks so

abbrev is_read : Ask → Bool
is_read Read = true
is_read Nothing = false
is_read Unread = false
is_read Fresh = false
is_read Open = false
is_read Post = false
is_read Emit = false
is_read Ack = false
is_read Response = false
is_read Timer = false
is_read Close = false
is_read Room = false
is_read Show = false
is_read Free = false
is_read Write = false

other : (a : Ask) → is_read a ≡ false → a ≡ Read → ⊥
other a h e = true≢false (sym (ap is_read e) ∙ h)

given-other : (a : Ask) (m : Option (List ℕ)) → is_read a ≡ false → (given a m).ask ≡ Read → ⊥
given-other a None h = other Unread refl
given-other a (Some ns) h = other a h

limited-other : (x y : ℕ) (p : Parsed) → (p.ask ≡ Read → ⊥) → (limited x y p).ask ≡ Read → ⊥
limited-other x y p h = go (leb (get_or p.args 0 0) x && leb (get_or p.args 1 0) y)
  where
    go : (t : Bool) → (cond t p (alone Unread)).ask ≡ Read → ⊥
    go true = h
    go false = other Unread refl

-- what a row that asks for `read` says of the word behind the first
abbrev ReadsHex : Entry → Type 0
ReadsHex e = (ws : List (List ℕ)) → (called e.row ws).ask ≡ Read → is_hex (get_or ws 0 []) ≡ true

plain_row : (s : String) (a : Ask) (n : ℕ) → is_read a ≡ false → ReadsHex (entry s a (Numbers n))
plain_row s a n h ws e = absurd (given-other a (numbers_of n ws) h e)

room_row : ReadsHex (entry "room" Room (Sizes 8192 2048))
room_row ws e = absurd (limited-other 8192 2048 (given Room (numbers_of 2 ws)) (given-other Room (numbers_of 2 ws) refl) e)

hex-row : ReadsHex (entry "read" Read Hex)
hex-row [] e = absurd (other Unread refl e)
hex-row (w ∷ []) e = go (is_hex w) e
  where
    go : (t : Bool) → (cond t (alone Read) (alone Unread)).ask ≡ Read → t ≡ true
    go true e = refl
    go false e = absurd (other Unread refl e)
hex-row (w ∷ v ∷ ws) e = absurd (other Unread refl e)

abbrev AllRead : List Entry → Type 0
AllRead [] = Unit {0}
AllRead (e ∷ es) = ReadsHex e × AllRead es

asked-reads : (es : List Entry) → AllRead es → (w : List ℕ) (ws : List (List ℕ)) → (asked es w ws).ask ≡ Read → is_hex (get_or ws 0 []) ≡ true
unfolding asked
asked-reads [] h w ws = λ e. absurd (other Unread refl e)
asked-reads (e ∷ es) h w ws = go (same w e.name) (asked-reads es h.1 w ws)
  where
    go : (t : Bool) → ((asked es w ws).ask ≡ Read → is_hex (get_or ws 0 []) ≡ true)
        → (cond t (called e.row ws) (asked es w ws)).ask ≡ Read → is_hex (get_or ws 0 []) ≡ true
    go true ih = h.0 ws
    go false ih = ih

table-reads : AllRead table
table-reads = (
  plain_row "fresh" Fresh 0 refl,
  (
    plain_row "open" Open 10 refl,
    (
      plain_row "post" Post 10 refl,
      (
        plain_row "emit" Emit 2 refl,
        (
          plain_row "ack" Ack 3 refl,
          (
            plain_row "response" Response 4 refl,
            (
              plain_row "timer" Timer 2 refl,
              (
                plain_row "close" Close 1 refl,
                (
                  room_row,
                  (plain_row "show" Show 1 refl, (plain_row "free" Free 0 refl, (plain_row "write" Write 11 refl, (hex-row, tt)))),
                ),
              ),
            ),
          ),
        ),
      ),
    ),
  ),
)

asked_of-reads : (ws : List (List ℕ)) → (asked_of ws).ask ≡ Read → is_hex (get_or ws 1 []) ≡ true
asked_of-reads [] = λ e. absurd (other Nothing refl e)
asked_of-reads (w ∷ ws) = go (eqb (get_or w 0 0) 35)
  where
    go : (t : Bool) → (cond t (alone Nothing) (asked table w ws)).ask ≡ Read → is_hex (get_or ws 0 []) ≡ true
    go true = λ e. absurd (other Nothing refl e)
    go false = asked-reads table table-reads w ws

pub read_short : (l : List ℕ) → (parsed_of l).ask ≡ Read → length l ≤ 20000
read_short l e = go (dec_lt 20000 (length l))
  where
    go : Dec (20000 < length l) → length l ≤ 20000
    go (yes h) = absurd (other Unread refl (ap (λ (p : Parsed). p.ask) (too_long l h) ∙ e))
    go (no h) = omega arith

pub read_hex : (l : List ℕ) → (parsed_of l).ask ≡ Read → is_hex (get_or (words l) 1 []) ≡ true
read_hex l e = asked_of-reads (words l) (subst (λ (p : Parsed). p.ask ≡ Read) (short l (read_short l e)) e)

pub read_fits : (l : List ℕ) → (parsed_of l).ask ≡ Read → length (octets (get_or (words l) 1 [])) ≤ 10000
read_fits l e = omega (arith, octets-length (get_or (words l) 1 []), word-short l 1, read_short l e)
