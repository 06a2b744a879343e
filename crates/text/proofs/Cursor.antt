-- How the first word is found: past the blanks nothing changes, and what stands up to the next blank, or to the end, is the word.
-- Assumes nothing.
use mathlib.Core.Path.{◌≡◌, refl, sym, ap, ◌∙◌}
use mathlib.Core.Bool.{Bool, true, false, not, cond}
use mathlib.Core.List.{List, [], ◌∷◌}
use Prim.Native.Nat.{ℕ, suc, ◌+◌, ◌-◌, ◌≤◌, ◌<◌}
use native.Mathlib.Omega.{arith}
use native.Mathlib.Numerals.{one-add}
use native.Mathlib.Nat.{le_refl}
use borrow.Author.Tests.{not-true, lt-ltb, le-ltb}
use native.Mathlib.Decide.{dec_lt}
use lib.ListN.{length, get_or, take, drop, drop_of_length-le, length-drop}
use lib.Seq.{take_all}
use Rattle.std.specs.Prelude.{Option, Some, None, unwrap_or, position}
use Rattle.std.specs.List.{position_or_len}
use Rattle.std.proofs.lemmas.List.Quantifiers.{position-Some}
use Rattle.std.proofs.lemmas.Option.{cond_some}
use Rattle.text.specs.Words.{blank, goes_on, onto, words}
use Rattle.refusal.proofs.Cases.{by-test}
use Rattle.text.proofs.Parts.{drop_at}

abbrev plain : ℕ → Bool
plain b = not (blank b)

past : (l : List ℕ) → words (drop (position_or_len plain l) l) ≡ words l
unfolding words
past [] = refl
past (b ∷ l) = by-test (blank b) (λ e. rw (e, one-add) (past l)) (λ e. rw (e, e))

within : (p : ℕ → Bool) (l : List ℕ) → position_or_len p l ≤ length l
within p [] = le_refl 0
within p (b ∷ l) = go (p b) (within p l)
  where
    go : (t : Bool) → position_or_len p l ≤ length l → cond (not t) (1 + position_or_len p l) 0 ≤ suc (length l)
    go true h = omega arith
    go false h = omega arith

-- up to the next blank, or to the end
end-is : (p : ℕ → Bool) (l : List ℕ) → unwrap_or (position p l) (length l) ≡ position_or_len p l
end-is p l = go (dec_lt (position_or_len p l) (length l))
  where
    go : Dec (position_or_len p l < length l) → unwrap_or (position p l) (length l) ≡ position_or_len p l
    go (yes h) = rw (lt-ltb (position_or_len p l) (length l) h)
    go (no h) =
        let all : length l ≡ position_or_len p l = omega (arith, within p l) in
        rw (le-ltb (position_or_len p l) (length l) (omega arith)) all

abbrev cut : List ℕ → ℕ → List (List ℕ)
cut l k = take k l ∷ words (drop k l)

goes : (b : ℕ) (r : List ℕ) → blank b ≡ false → position_or_len blank (b ∷ r) ≡ suc (position_or_len blank r)
goes b r e = rw e (one-add (position_or_len blank r))

stops : (b : ℕ) (r : List ℕ) → blank b ≡ true → position_or_len blank (b ∷ r) ≡ 0
stops b r e = rw e

word-ends : (b : ℕ) (r : List ℕ) → blank b ≡ false → goes_on r ≡ false → words (b ∷ r) ≡ (b ∷ []) ∷ words r
unfolding words
word-ends b r h e = rw (h, e)

word-goes-on : (b c : ℕ) (r : List ℕ) → blank b ≡ false → blank c ≡ false → words (b ∷ c ∷ r) ≡ onto b (words (c ∷ r))
unfolding words
word-goes-on b c r h k = rw (h, k)

word-is : (b : ℕ) (r : List ℕ) → blank b ≡ false → words (b ∷ r) ≡ cut (b ∷ r) (position_or_len blank (b ∷ r))
word-is b [] e = word-ends b [] e refl ∙ ap (cut (b ∷ [])) (sym (goes b [] e))
word-is b (c ∷ r) e =
    by-test (blank c) (λ f. word-ends b (c ∷ r) e (ap not f) ∙ ap (cut (b ∷ c ∷ r)) (sym (goes b (c ∷ r) e ∙ ap suc (stops c r f))))
    (λ f. word-goes-on b c r e f ∙ ap (onto b) (word-is c r f) ∙ ap (cut (b ∷ c ∷ r)) (sym (goes b (c ∷ r) e)))

pub no-word : (l : List ℕ) → None ≡ position plain l → words l ≡ []
unfolding words
no-word l e = go (dec_lt (position_or_len plain l) (length l))
  where
    go : Dec (position_or_len plain l < length l) → words l ≡ []
    go (yes h) = let no : ◌≡◌ {A = Option ℕ} None (Some (position_or_len plain l)) = e ∙ rw (lt-ltb (position_or_len plain l) (length l) h) in cc
    go (no h) = sym (past l) ∙ ap words (drop_of_length-le l (omega arith))

pub first-word : (l r : List ℕ) (s e : ℕ) {o : Option ℕ} → Some s ≡ position plain l → r ≡ drop s l → o ≡ position blank r → e ≡ unwrap_or o (length r)
    → words l ≡ cut r e
first-word l r s e {o} h k p n =
    let at = position-Some plain l s 0 (sym h) in
    let start : position_or_len plain l ≡ s = (cond_some _ _ _ (sym h)).1 in
    let end : e ≡ position_or_len blank r = n ∙ ap (λ (x : Option ℕ). unwrap_or x (length r)) p ∙ end-is blank r in
    let first : words l ≡ words r = sym (past l) ∙ ap (λ (k : ℕ). words (drop k l)) start ∙ ap words (sym k) in
    let split : r ≡ get_or l s 0 ∷ drop (s + 1) l = k ∙ drop_at l s (get_or l s 0) at.0 refl in
    first ∙ rw (end, split) (word-is (get_or l s 0) (drop (s + 1) l) (not-true (blank (get_or l s 0)) at.1))

pub rest-is : (l : List ℕ) (s : ℕ) → take (length l - s) (drop s l) ≡ drop s l
rest-is l s = take_all (length l - s) (drop s l) (omega (arith, length-drop s l))
