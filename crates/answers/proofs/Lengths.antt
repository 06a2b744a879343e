-- How long each answer is at most. Assumes nothing.
use mathlib.Core.Bool.{Bool, true, false, cond}
use mathlib.Core.Path.{◌≡◌}
use mathlib.Core.List.{List, [], ◌∷◌, ◌++◌}
use Prim.Native.Nat.{ℕ, zero, suc, ◌+◌, ◌*◌, ◌/◌, ◌%◌, ◌≤◌}
use native.Mathlib.Omega.{arith}
use lib.Dec.{ltb}
use lib.ListN.{length, get_or, length-append}
use Rattle.text.specs.declared.Ask.{Ask}
use Rattle.text.specs.declared.Ask.TheVariants.{Nothing, Unread, Fresh, Open, Post, Emit, Ack, Response, Timer, Close, Room, Show, Free, Write, Read}
use Rattle.text.specs.Text.{bytes}
use Rattle.text.specs.Words.{words}
use Rattle.text.specs.Hex.{octets, lower, hex_text}
use Rattle.text.specs.Line.{parsed_of}
use Rattle.text.specs.Out.{decimal_in}
use Rattle.std.specs.Prelude.{Result, Ok, Err}
use Rattle.refusal.specs.declared.Refusal.{Refusal}
use Rattle.refusal.specs.Numbers.{number}
use Rattle.wire.specs.declared.Frame.{Frame}
use Rattle.wire.specs.Header.{write_of}
use Rattle.wire.specs.Frame.{read_of}
use Rattle.wire.proofs.Writing.{bytes_whole}
use Rattle.answers.specs.Said.{numeral, spaced, line, refused_text, unread_text}
use Rattle.answers.specs.Headers.{widest, within, header_of, size_text, written_text, write_text, fields_of, frame_text}
use Rattle.answers.specs.Plain.{ask_text, text_of}

-- ---- how long each piece is

decimal-most : (k n : ℕ) → length (decimal_in k n) ≤ k
unfolding decimal_in
decimal-most zero n = omega arith
decimal-most (suc k) n = go (ltb n 10) (decimal-most k (n / 10))
  where
    go : (t : Bool) → length (decimal_in k (n / 10)) ≤ k → length (cond t ((48 + n) ∷ []) (decimal_in k (n / 10) ++ ((48 + n % 10) ∷ []))) ≤ suc k
    go true h = omega arith
    go false h = omega (arith, length-append (decimal_in k (n / 10)) ((48 + n % 10) ∷ []))

spaced-most : (ns : List ℕ) → length (spaced ns) ≤ 21 * length ns
unfolding spaced
spaced-most [] = omega arith
spaced-most (n ∷ ns) = omega (arith, spaced-most ns, decimal-most 20 n, length-append (numeral n) (spaced ns))

line-most : (w ns : List ℕ) → length (line w ns) ≤ length w + 21 * length ns + 1
line-most w ns = omega (arith, spaced-most ns, length-append w (spaced ns), length-append (w ++ spaced ns) (bytes "\n"))

lower-most : (bs : List ℕ) → length (lower bs) ≤ 2 * length bs
unfolding lower
lower-most [] = omega arith
lower-most (b ∷ bs) = omega (arith, lower-most bs)

hex-most : (bs : List ℕ) → length (hex_text bs) ≤ 2 * length bs + 1
hex-most [] = omega arith
hex-most (b ∷ bs) = omega (arith, lower-most (b ∷ bs))

-- ---- what needs no table

refused-most : (r : Refusal) → length (refused_text (number r)) ≤ 400
refused-most r = omega (arith, line-most (bytes "refused") (number r ∷ []))

size-most : (r : Result ℕ Refusal) (bs : List ℕ) → length bs ≡ 32 → length (size_text r bs) ≤ 400
size-most (Err r) bs e = refused-most r
size-most (Ok k) bs e =
    let head = bytes "header" ++ spaced (k ∷ []) in
    omega (
      arith,
      e,
      hex-most bs,
      spaced-most (k ∷ []),
      length-append (bytes "header") (spaced (k ∷ [])),
      length-append head (bytes " "),
      length-append (head ++ bytes " ") (hex_text bs),
      length-append (head ++ bytes " " ++ hex_text bs) (bytes "\n"),
    )

write-most : (a : List ℕ) → length (write_text a) ≤ 400
write-most a = go (within 0 a widest)
  where
    go : (t : Bool) → length (cond t (written_text (write_of (header_of a))) (refused_text 3)) ≤ 400
    go true = size-most (write_of (header_of a)).size (write_of (header_of a)).bytes (bytes_whole (header_of a))
    go false = omega (arith, line-most (bytes "refused") (3 ∷ []))

frame-most : (f : Result Frame Refusal) → length (frame_text f) ≤ 400
frame-most (Err r) = refused-most r
frame-most (Ok f) = omega (arith, line-most (bytes "frame") (fields_of f.header f.length f.payload))

pub unread-most : (n : ℕ) → length (unread_text n) ≤ 100
unread-most n = omega (arith, line-most (bytes "unread") (n ∷ []))

ask-most : (x : Ask) (a l : List ℕ) (n : ℕ) → length (ask_text x a l n) ≤ 400
ask-most Unread a l n = omega (arith, unread-most n)
ask-most Write a l n = write-most a
ask-most Read a l n = frame-most (read_of (octets (get_or (words l) 1 [])))
ask-most Nothing a l n = omega arith
ask-most Fresh a l n = omega arith
ask-most Open a l n = omega arith
ask-most Post a l n = omega arith
ask-most Emit a l n = omega arith
ask-most Ack a l n = omega arith
ask-most Response a l n = omega arith
ask-most Timer a l n = omega arith
ask-most Close a l n = omega arith
ask-most Room a l n = omega arith
ask-most Show a l n = omega arith
ask-most Free a l n = omega arith

pub text-most : (l : List ℕ) (n : ℕ) → length (text_of l n) ≤ 400
unfolding text_of
text-most l n = ask-most (parsed_of l).ask (parsed_of l).args l n
