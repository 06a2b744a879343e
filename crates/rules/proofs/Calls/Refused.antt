-- Refusals: they change nothing, whatever the tables; 15 is given exactly if the audit does not pass, else one of 1 to 9.
use mathlib.Core.Path.{◌≡◌, refl, sym, ◌∙◌}
use mathlib.Core.Logic.{◌↔◌}
use mathlib.Core.Bool.{Bool, true, false, not, ◌&&◌}
use mathlib.Core.List.{List, [], ◌∷◌}
use Prim.Native.Nat.{ℕ, ◌≤◌}
use native.Mathlib.Omega.{arith}
use lib.Dec.{eqb}
use lib.ListN.{length}
use Rattle.refusal.specs.Choice.{Each}
use Rattle.refusal.proofs.Cases.{by-test, if-case}
use Rattle.std.specs.Prelude.{Option, None, Some, Err}
use Rattle.refusal.specs.declared.Refusal.{Refusal}
use Rattle.refusal.specs.declared.Refusal.TheVariants as refusal
use Rattle.refusal.specs.Numbers.{number}
use Rattle.refusal.proofs.Given.{by-given, ok-not-err}
use Rattle.rules.specs.Card.{Card}
use Rattle.rules.specs.Account.{Side}
use Rattle.rules.specs.Slots.{Tables, sides}
use Rattle.rules.specs.Audit.{Audit}
use Rattle.rules.specs.Calls.{refuse, call}
use Rattle.rules.specs.Passes.Tables.{passes}
use Rattle.rules.specs.Refusals.{refusals}
use Rattle.rules.specs.Requests.{Request, starting, on, lent}
use Rattle.rules.proofs.Passes.Decided.{sound, complete}
use Rattle.refusal.specs.Refusals.{Row, ◌gives◌, first_given}
use Rattle.rules.proofs.Calls.Agrees.{refused-inj}

module _ (card : Card) (t : Tables) (n : Refusal) where
  pub unchanged : (p : ℕ) (q : Request) → (call card (on p q) t).said.reply ≡ Err n
      → ((call card (on p q) t).next ≡ t) × ((call card (on p q) t).said.buffer ≡ lent q)
  unfolding call
  unchanged p q =
      by-given (first_given (not (passes card t) gives refusal.Audit ∷ refusals card q p (sides t)))
      (λ e. rw e (λ r. ok-not-err r))
      (λ k e. rw e (λ r. (refl, refl)))

  pub unchanged-start : (call card starting t).said.reply ≡ Err n → (call card starting t).next ≡ t
  unfolding call
  unchanged-start =
      by-test (eqb (length t.pairs) card.pairs && eqb (length t.slots) card.slots)
      (λ e. rw e (λ r. ok-not-err r))
      (λ e. rw e (λ r. refl))

-- the numbers of the rows
abbrev Low : List Row → Type 0
Low ls = Each (λ (l : Row). number l.refusal ≤ 9) ls

-- that of the one given, or 0
abbrev pub given-number : Option Refusal → ℕ
given-number None = 0
given-number (Some r) = number r

given-low : (ls : List Row) → Low ls → given-number (first_given ls) ≤ 9
given-low [] h = omega arith
given-low (l ∷ ls) h = if-case (λ (o : Option Refusal). given-number o ≤ 9) l.holds (λ _. h.0) (λ _. given-low ls h.1)

low-numbers : (card : Card) (p : ℕ) (a : List Side) (q : Request) → Low (refusals card q p a)
low-numbers card p a q = omega arith

-- any test that decides the audit gives what ours gives: a call's answer does not hang on how the test goes about it
pub one-test : (card : Card) (f : Tables → Bool) → ((t : Tables) → f t ≡ true ↔ Audit card t) → (t : Tables) → f t ≡ passes card t
one-test card f d t =
    by-test (f t)
    (λ e. e ∙ sym (complete card t ((d t).0 e)))
    (λ e. by-test (passes card t) (λ h. (d t).1 (sound card t h) ∙ sym h) (λ h. e ∙ sym h))

module _ (card : Card) where
  -- 15 comes first, and leaves all as it is
  pub unaudited : (t : Tables) (p : ℕ) (q : Request) → passes card t ≡ false → call card (on p q) t ≡ refuse refusal.Audit (lent q) t
  unfolding call
  unaudited t p q e = rw e

  -- from audited tables refusals are 1 to 9
  pub one-to-nine : (t : Tables) → Audit card t → (p : ℕ) (q : Request) (n : Refusal) → (call card (on p q) t).said.reply ≡ Err n → number n ≤ 9
  unfolding call
  one-to-nine t a p q n =
      rw (complete card t a)
      (by-given (first_given (refusals card q p (sides t)))
      (λ e. rw e (λ r. ok-not-err r))
      (λ k e. rw e (λ r. rw (e, refused-inj r) at (given-low (refusals card q p (sides t)) (low-numbers card p (sides t) q)))))
