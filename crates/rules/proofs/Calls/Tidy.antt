-- Slots move as 01 says: from the pair's front to the free queue's end, from the free queue's front to the pair's end; no other pair's queue and no other packet changes.
use mathlib.Core.Path.{◌≡◌, ap, subst}
use Prim.Native.Nat.{ℕ, ◌+◌, ◌<◌, ◌≤◌}
use lib.ListN.{length}
use Rattle.std.specs.Prelude.{None}
use Rattle.refusal.specs.Refusals.{first_given}
use Rattle.rules.specs.declared.Standing.{Standing}
use Rattle.rules.specs.Card.{Card}
use Rattle.rules.specs.Account.{Side}
use Rattle.rules.specs.Slots.{Tables, free, side, sides}
use Rattle.rules.specs.Audit.{Whole, Audit}
use Rattle.rules.specs.Requests.{Request, opening, posting, emitting, acknowledging, responding, ticking, closing, on}
use Rattle.rules.specs.Refusals.{side_at, refusals}
use Rattle.rules.specs.Calls.{Move, leaves, joins, effect, tables_after, call}
use Rattle.rules.specs.Demands.{Tidy}
use Rattle.rules.proofs.Passes.Decided.{complete}
use Rattle.rules.proofs.Slots.Freed.{freed-queue, freed-free, freed-other-queue, freed-packet}
use Rattle.rules.proofs.Slots.Stored.{stored-queue, stored-free, stored-other-queue, stored-packet}
use Rattle.rules.proofs.Calls.Accepted.{Accepted, accepted}
use Rattle.rules.proofs.Calls.Moves.{side-at, post-fits}

module _ (card : Card) (t : Tables) (w : Whole card t) (p : ℕ) (hp : p < card.pairs) (st : Standing) where
  -- what joins finds as many free
  abbrev Fits : Move → Type 0
  Fits (leaves r f) = Unit {0}
  Fits (joins qs) = length qs ≤ length (free t)

  books : (m : Move) → Fits m → Tidy card p m t (tables_after card.none p st m t)
  books (leaves r f) fit =
      record {
        queue-after = freed-queue card t w p hp st (r + f);
        free-after = freed-free card t w p hp st (r + f);
        others-after = freed-other-queue card t w p hp st (r + f);
        kept = λ i z. freed-packet card t w p hp st (r + f) i;
      }
  books (joins qs) fit =
      record {
        queue-after = stored-queue card t w p hp st qs fit;
        free-after = stored-free card t w p hp st qs fit;
        others-after = stored-other-queue card t w p hp st qs fit;
        kept = stored-packet card t w p hp st qs fit;
      }

module _ (card : Card) (t : Tables) (a : Audit card t) (p : ℕ) where
  fits : (q : Request) → (h : Accepted card q p (sides t)) → Fits card t a.whole p h.pair (effect q (side_at (sides t) p)).standing (effect q (side_at (sides t) p)).move
  fits (opening st psn) h = tt
  fits (posting m) h = post-fits card t a p h.pair m h
  fits (emitting n b) h = tt
  fits (acknowledging r y b) h = tt
  fits (responding r o l b) h = tt
  fits (ticking e b) h = tt
  fits (closing b) h = tt

  pub tidy : (q : Request) → first_given (refusals card q p (sides t)) ≡ None → Tidy card p (effect q (side t p)).move t (call card (on p q) t).next
  unfolding call
  tidy q e =
      let h = accepted card q p (sides t) e in
      let b = books card t a.whole p h.pair (effect q (side_at (sides t) p)).standing (effect q (side_at (sides t) p)).move (fits q h) in
      rw (complete card t a, e)
      (subst (λ (m : Move). Tidy card p m t (tables_after card.none p (effect q (side_at (sides t) p)).standing (effect q (side_at (sides t) p)).move t))
      (ap (λ (s : Side). (effect q s).move) (side-at t p)) b)
