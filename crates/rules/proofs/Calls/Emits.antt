-- An emission that nothing is wrong with is accepted: its count, what it writes, what still waits then, and that only X and H move.
use mathlib.Core.Path.{◌≡◌, refl, sym, ap, ◌∙◌, subst⁻¹}
use mathlib.Core.List.{List, ◌++◌}
use Prim.Native.Nat.{ℕ, ◌*◌, ◌≤◌}
use native.Mathlib.Omega.{arith}
use lib.Dec.{ltb}
use borrow.Author.Tests.{le-ltb, lt-leb, eq-eqb}
use lib.ListN.{length, take, drop, length-take}
use Rattle.std.specs.Prelude.{None, Ok}
use Rattle.refusal.specs.Refusals.{first_given}
use Rattle.refusal.proofs.Cases.{if-case}
use Rattle.rules.specs.declared.Packet.{Packet}
use Rattle.rules.specs.declared.Reply.TheVariants.{Count}
use Rattle.rules.specs.Card.{Card}
use Rattle.rules.specs.Account.{Side, U, X, H, N, further}
use Rattle.rules.specs.Ranges.{largest_budget}
use Rattle.rules.specs.Emission.{waiting, going, outgoing, emitted, record_bytes, emissions}
use Rattle.rules.specs.Slots.{Tables, side, sides}
use Rattle.rules.specs.Calls.{overlaid, call}
use Rattle.rules.specs.Refusals.{refusals}
use Rattle.rules.specs.Requests.{emitting, on}
use Rattle.rules.specs.Demands.{ending_after, CanEmit, Emits, with_line}
use Rattle.rules.proofs.Passes.Decided.{complete}
use Rattle.rules.proofs.Sides.InOrder.{InOrder, audited-order}
use Rattle.rules.proofs.Sides.Waiting.{waiting-is, going-is, left_is}
use Rattle.rules.proofs.Calls.Moves.{side-at}
use Rattle.rules.proofs.Calls.Called.{called}
use Rattle.rules.proofs.Calls.Buffers.{length-emissions}

-- no more go than wait
pub going-waits : (budget : ℕ) (s : Side) → going budget s ≤ length (waiting s)
going-waits budget s = if-case (λ (n : ℕ). n ≤ length (waiting s)) (ltb 0 s.standing.clock.hold) (λ _. omega arith) (λ _. omega arith)

-- the records of those that go, and "Other buffer bytes stay."
laid : (budget : ℕ) (b : List ℕ) (s : Side) → InOrder s
    → overlaid (emissions s.standing (outgoing budget s)) b
    ≡ emissions s.standing (take (going budget s) (ending_after s)) ++ drop (record_bytes * going budget s) b
laid budget b s o =
    let many : length (emissions s.standing (outgoing budget s)) ≡ record_bytes * going budget s =
    omega (arith, length-emissions s.standing (outgoing budget s), length-take (going budget s) (waiting s), going-waits budget s) in
    ap (λ (k : ℕ). emissions s.standing (outgoing budget s) ++ drop k b) many
    ∙ ap (λ (l : List Packet). emissions s.standing (take (going budget s) l) ++ drop (record_bytes * going budget s) b) (waiting-is s o)

module _ (card : Card) (p budget : ℕ) (b : List ℕ) (t : Tables) (can : CanEmit card p budget b t) where
  none : first_given (refusals card (emitting budget b) p (sides t)) ≡ None
  none =
      rw (
        lt-leb card.pairs p can.pair,
        side-at t p,
        eq-eqb (side t p).standing.state 1 can.is-ready,
        le-ltb budget 1 can.some,
        le-ltb largest_budget budget can.most,
        le-ltb (length b) (record_bytes * budget) can.long,
      ) refl

  in_order : InOrder (side t p)
  in_order = audited-order can.audited p can.pair can.is-ready

  counted : (call card (on p (emitting budget b)) t).said.reply ≡ Ok (Count (going budget (side t p)))
  unfolding call
  counted = rw (complete card t can.audited, none) (ap (λ (s : Side). Ok (Count (going budget s))) (side-at t p))

  laid_in : (call card (on p (emitting budget b)) t).said.buffer ≡ overlaid (emissions (side t p).standing (outgoing budget (side t p))) b
  unfolding call
  laid_in =
      rw (complete card t can.audited, none) (ap (λ (s : Side). overlaid (emissions s.standing (outgoing budget s)) b) (side-at t p))

  after : side (call card (on p (emitting budget b)) t).next p ≡ emitted budget (side t p)
  unfolding emitted
  after = called card t can.audited p (emitting budget b) can.pair none

  pub emits : Emits card p budget b (side t p) (call card (on p (emitting budget b)) t)
  unfolding emitted
  emits =
      record {
        went = going budget (side t p);
        number = going-is budget (side t p) in_order;
        said = counted;
        written = laid_in ∙ laid budget b (side t p) in_order;
        left = ap ending_after after ∙ left_is budget (side t p) in_order;
        h-after = ap H after ∙ ap (λ (s : Side). further (U (side t p)) (H (side t p)) (X s)) (sym after);
        kept = subst⁻¹ (λ (s : Side). s ≡ with_line (record { u = U (side t p); x = X s; h = H s; n = N (side t p) }) (side t p)) after refl;
      }
