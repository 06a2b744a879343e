-- The three demands, proved: on any card, for any arguments, buffers and tables, and over every history.
use mathlib.Core.Path.{◌≡◌, refl, sym, ap, ◌∙◌}
use mathlib.Core.Bool.{◌&&◌}
use mathlib.Core.List.{List, [], ◌++◌, map}
use Prim.Native.Nat.{ℕ, ◌≤◌, ◌<◌}
use native.Mathlib.Omega.{arith}
use lib.Dec.{eqb, ltb}
use borrow.Author.Tests.{ltb-true, ltb-false, eqb-true, eq-eqb}
use lib.ListN.{length}
use Rattle.refusal.proofs.Cases.{by-test, and_left, and_right}
use Rattle.std.specs.Prelude.{Result, Ok, Err}
use Rattle.refusal.specs.declared.Refusal.{Refusal}
use Rattle.refusal.specs.Numbers.{number}
use Rattle.rules.specs.declared.Reply.{Reply}
use Rattle.rules.specs.Card.{Card}
use Rattle.rules.specs.Account.{Side}
use Rattle.rules.specs.Outcome.{Departure}
use Rattle.rules.specs.Slots.{Tables, queue, side, fresh}
use Rattle.rules.specs.Audit.{Audit}
use Rattle.rules.specs.Calls.{all_closed, call}
use Rattle.rules.specs.Demands.{Harmless, Audits, Demand1, Starts, Demand2, Demand3}
use Rattle.rules.specs.History.{blank, ledger, accounted, called}
use Rattle.rules.specs.Passes.Tables.{passes}
use Rattle.rules.specs.Refusals.{side_at}
use Rattle.rules.specs.Requests.{Request, Call, starting, on, number_of}
use Rattle.rules.proofs.Passes.Decided.{sound}
use Rattle.rules.proofs.Calls.Moves.{side-at, side-length, idle-side}
use Rattle.rules.proofs.Calls.Fresh.{fresh-sides, fresh-audit}
use Rattle.rules.proofs.Calls.Agrees.{agrees, Agreed, agreed}
use Rattle.rules.proofs.Calls.Refused.{unchanged, unchanged-start, unaudited, one-to-nine}
use Rattle.rules.proofs.Calls.Buffers.{call_buffer}
use Rattle.rules.proofs.Calls.Tidy.{tidy}
use Rattle.rules.proofs.Calls.Room.{room}
use Rattle.rules.proofs.Calls.Emits.{emits}
use Rattle.rules.proofs.Calls.Ledger.{Balanced, balanced, blank-balanced}

-- an answer with a number is a refusal with that number
record Refused (r : Result Reply Refusal) : Type 0 where
  by : Refusal
  is : r ≡ Err by
  numbered : number_of r ≡ number by

refusal-of : (r : Result Reply Refusal) → 0 < number_of r → Refused r
refusal-of (Err n) h = record { by = n; is = refl; numbered = refl }
refusal-of (Ok a) h = absurd (omega arith)

module _ (card : Card) where
  -- ---- demand 1

  start-buffer : (t : Tables) → (call card starting t).said.buffer ≡ []
  unfolding call
  start-buffer t =
      by-test (eqb (length t.pairs) card.pairs && eqb (length t.slots) card.slots) (λ e. rw e) (λ e. rw e)

  pub harmless : (c : Call) (t : Tables) → Harmless card c t
  harmless starting t =
      record {
        tables = λ h. unchanged-start card t _ (refusal-of (call card starting t).said.reply h).is;
        kept = λ h. start-buffer t;
        as_long = ap length (start-buffer t);
      }
  harmless (on p q) t =
      let refused = refusal-of (call card (on p q) t).said.reply in
      record {
        tables = λ h. (unchanged card t _ p q (refused h).is).0;
        kept = λ h. (unchanged card t _ p q (refused h).is).1;
        as_long = call_buffer card t p q;
      }

  pub audits : (p : ℕ) (q : Request) (t : Tables) → Audits card p q t
  audits p q t = (never, always)
    where
      never : number_of (call card (on p q) t).said.reply ≡ 15 → Audit card t → ⊥
      never e a =
          let r = refusal-of (call card (on p q) t).said.reply (omega (arith, e)) in
          omega (arith, e, r.numbered, one-to-nine card t a p q r.by r.is)

      always : (Audit card t → ⊥) → number_of (call card (on p q) t).said.reply ≡ 15
      always h = by-test (passes card t) (λ e. absurd (h (sound card t e))) (λ e. rw (unaudited card t p q e))

  pub demand1 : Demand1 card
  demand1 = (harmless, audits)

  -- ---- demand 2

  pub starts : (t : Tables) → Starts card t
  unfolding call
  starts t =
      record {
        right = λ np ns. rw (eq-eqb (length t.pairs) card.pairs np, eq-eqb (length t.slots) card.slots ns);
        wrong =
            λ h.
            by-test (eqb (length t.pairs) card.pairs && eqb (length t.slots) card.slots)
            (λ e.
            absurd (h (eqb-true (length t.pairs) card.pairs (and_left _ _ e))
            (eqb-true (length t.slots) card.slots (and_right (eqb (length t.pairs) card.pairs) _ e))))
            (λ e. rw e);
      }

  pub demand2 : Demand2 card
  demand2 = record { exact = agrees card; tidy = λ p q t a. tidy card t a p q; starts = starts; emits = emits card }

  -- ---- demand 3

  ceiling-kept : (t : Tables) → Audit card t → (p : ℕ) → p < card.pairs → length (queue t p) ≤ (side t p).standing.settings.ceiling
  ceiling-kept t a p h =
      by-test (ltb 0 (side t p).standing.state)
      (λ e. omega (arith, side-length t p, (a.bounded p h (ltb-true 0 (side t p).standing.state e)).held))
      (λ e. omega (arith, side-length t p, idle-side card t a.whole p h (λ q. omega (arith, ltb-false 0 (side t p).standing.state e))))

  pub demand3 : Demand3 card
  demand3 cs =
      record {
        audited = r.audit;
        said = r.said;
        sides = λ p h. at p;
        held = λ p h. (b p).held ∙ ap (λ (s : Side). map (λ (d : Departure). d.packet) (ledger card p cs).departed ++ s.packets) (sym (at p));
        told = λ p. (b p).told;
        once = r.audit.whole.once;
        ceiling = ceiling-kept (called card cs).last r.audit;
        room = room card (called card cs).last r.audit;
      }
    where
      r : Agreed card (called card cs) (accounted card cs)
      r = agreed card cs (fresh card) (all_closed card) (fresh-sides card) (fresh-audit card)

      at : (p : ℕ) → side (called card cs).last p ≡ side_at (accounted card cs).last p
      at p = sym (side-at (called card cs).last p) ∙ ap (λ (a : List Side). side_at a p) r.same

      b : (p : ℕ) → Balanced card p (ledger card p cs) (accounted card cs).last
      b p = balanced card p cs (all_closed card) blank (blank-balanced card p)
