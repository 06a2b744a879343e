-- A call on audited tables says what the account says, does to the sides what the account does, and leaves audited tables; so does any run of calls.
use mathlib.Core.Path.{◌≡◌, refl}
use mathlib.Core.List.{List, [], ◌∷◌}
use borrow.Author.Tests.{eq-eqb}
use lib.ListN.{length}
use Rattle.refusal.proofs.Given.{by-given}
use Rattle.std.specs.Prelude.{Result, Err}
use Rattle.refusal.specs.declared.Refusal.{Refusal}
use Rattle.rules.specs.Card.{Card}
use Rattle.rules.specs.Account.{Side}
use Rattle.rules.specs.Slots.{Tables, sides}
use Rattle.rules.specs.Audit.{Audit}
use Rattle.rules.specs.Calls.{account, call}
use Rattle.rules.specs.History.{Run, run}
use Rattle.rules.specs.Refusals.{refusals}
use Rattle.rules.specs.Requests.{Call, starting, on}
use Rattle.rules.specs.Demands.{Agree}
use Rattle.rules.proofs.Passes.Decided.{complete}
use Rattle.refusal.specs.Refusals.{first_given}
use Rattle.rules.proofs.Calls.Accepted.{accepted}
use Rattle.rules.proofs.Calls.Moves.{moved, accepted-audit}
use Rattle.rules.proofs.Calls.Fresh.{fresh-sides, fresh-audit}

pub refused-inj : {A : Type 0} {m n : Refusal} → ◌≡◌ {A = Result A Refusal} (Err m) (Err n) → m ≡ n
refused-inj e = cc

-- ---- one call: it says what the account says, does what the account does, and leaves audited tables

module _ (card : Card) where
  pub agrees : (c : Call) (t : Tables) → Audit card t
      → Agree card (call card c t) (account card c (sides t))
  unfolding call account
  agrees starting t a =
      rw (eq-eqb (length t.pairs) card.pairs a.whole.pair-records, eq-eqb (length t.slots) card.slots a.whole.slot-records)
      (record { said = refl; sides-after = fresh-sides card; audited = fresh-audit card })
  agrees (on p q) t a =
      rw (complete card t a)
      (by-given (first_given (refusals card q p (sides t)))
      (λ e.
      let h = accepted card q p (sides t) e in
      let hp = h.pair in
      rw e (record { said = refl; sides-after = (moved card t a p hp q h).same; audited = accepted-audit card t a p hp q h }))
      (λ k e. rw e (record { said = refl; sides-after = refl; audited = a })))

  -- ---- any calls

  pub record Agreed (c : Run Tables) (a : Run (List Side)) : Type 0 where
    pub said : c.said ≡ a.said
    pub same : sides c.last ≡ a.last
    pub audit : Audit card c.last

  pub agreed : (cs : List Call) (t : Tables) (a : List Side) → sides t ≡ a → Audit card t
      → Agreed (run (call card) cs t) (run (account card) cs a)
  agreed [] t a e h = record { said = refl; same = e; audit = h }
  agreed (c ∷ cs) t a e h =
      let one = agrees c t h in
      let rest = agreed cs (call card c t).next (account card c a).next (rw e at one.sides-after) one.audited in
      record { said = λ i. (rw e at one.said) i ∷ rest.said i; same = rest.same; audit = rest.audit }
