-- What a line asks, by how it begins. Assumes nothing.
use mathlib.Core.Path.{◌≡◌, refl, sym, ap, ◌∙◌}
use mathlib.Core.Bool.{Bool, true, false, ◌&&◌}
use mathlib.Core.List.{List, [], ◌∷◌}
use Prim.Native.Nat.{ℕ, ◌≤◌, ◌<◌}
use native.Mathlib.Omega.{arith}
use native.Mathlib.Decide.{dec_lt}
use lib.Dec.{eqb}
use lib.ListN.{length, get_or, take, length-take}
use lib.Seq.{take_all}
use borrow.Author.Tests.{lt-ltb, le-ltb}
use Rattle.std.specs.Prelude.{Option, Some, None}
use Rattle.std.specs.List.{starts_with}
use Rattle.std.proofs.lemmas.Bool.Decides.{nat_tests}
use Rattle.text.specs.declared.Ask.TheVariants.{Nothing, Unread}
use Rattle.text.specs.declared.Parsed.{Parsed}
use Rattle.text.specs.declared.Row.{Row}
use Rattle.text.specs.Text.{same}
use Rattle.text.specs.Words.{words}
use Rattle.text.specs.Line.{alone, called, Entry, table, asked, asked_of, parsed_of}
use Rattle.text.specs.Inner.{row_in, row_of}
use Rattle.refusal.proofs.Cases.{by-test}

pub too_long : (l : List ℕ) → 20000 < length l → alone Unread ≡ parsed_of l
unfolding parsed_of
too_long l h = rw (lt-ltb 20000 (length l) h)

pub short : (l : List ℕ) → length l ≤ 20000 → parsed_of l ≡ asked_of (words l)
unfolding parsed_of
short l h = rw (le-ltb 20000 (length l) h)

-- the call that a word asks for is that of its row
abbrev row_asks : Option Row → List (List ℕ) → Parsed
row_asks None ws = alone Unread
row_asks (Some r) ws = called r ws

asked-row : (es : List Entry) (w : List ℕ) (ws : List (List ℕ)) → asked es w ws ≡ row_asks (row_in es w) ws
unfolding asked
asked-row [] w ws = refl
asked-row (e ∷ es) w ws = by-test (same w e.name) (λ t. rw t) (λ t. rw t (asked-row es w ws))

pub row-asks : (w : List ℕ) (ws : List (List ℕ)) {o : Option Row} → o ≡ row_of w → row_asks o ws ≡ asked table w ws
row-asks w ws q = ap (λ (o : Option Row). row_asks o ws) q ∙ sym (asked-row table w ws)

turned : (b : ℕ) → eqb 35 b && true ≡ eqb b 35
turned b = grind (arith, nat_tests)

hash : (w : List ℕ) → starts_with eqb w (35 ∷ []) ≡ eqb (get_or w 0 0) 35
hash [] = refl
hash (b ∷ w) = turned b

module _ (l : List ℕ) (h : length l ≤ 20000) where
  pub no_words : words l ≡ [] → alone Nothing ≡ parsed_of l
  no_words k = sym (short l h ∙ ap asked_of k)

  module _ {w : List ℕ} {ws : List (List ℕ)} (k : words l ≡ w ∷ ws) where
    pub comment : {t : Bool} → t ≡ true → t ≡ starts_with eqb w (35 ∷ []) → alone Nothing ≡ parsed_of l
    comment b e = sym (short l h ∙ ap asked_of k ∙ rw (sym (hash w) ∙ sym e ∙ b))

    pub asks : {t : Bool} → t ≡ false → t ≡ starts_with eqb w (35 ∷ []) → asked table w ws ≡ parsed_of l
    asks b e = sym (short l h ∙ ap asked_of k ∙ rw (sym (hash w) ∙ sym e ∙ b) refl)

-- of a line that is too long, what is over may be left out: it is not read in either form
pub kept-enough : (l : List ℕ) → parsed_of (take 20001 l) ≡ parsed_of l
kept-enough l = go (dec_lt 20000 (length l))
  where
    go : Dec (20000 < length l) → parsed_of (take 20001 l) ≡ parsed_of l
    go (yes h) = sym (too_long (take 20001 l) (simp length-take (omega arith))) ∙ too_long l h
    go (no h) = ap parsed_of (take_all 20001 l (omega arith))
