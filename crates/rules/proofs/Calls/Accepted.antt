-- What it means that a request is not refused: no condition of 1 to 9 holds.
use mathlib.Core.Path.{◌≡◌}
use mathlib.Core.Bool.{false, not, ◌&&◌, ◌||◌}
use mathlib.Core.List.{List}
use Prim.Native.Nat.{ℕ, ◌+◌, ◌<◌}
use lib.Dec.{eqb, ltb}
use borrow.Author.Tests.{leb-false, eqb-true, not-false}
use lib.ListN.{length}
use Rattle.psn.specs.Psn.{half, distance}
use Rattle.std.specs.Prelude.{None}
use Rattle.refusal.specs.Refusals.{first_given}
use Rattle.refusal.proofs.Given.{none-given}
use Rattle.rules.specs.Card.{Card}
use Rattle.rules.specs.Account.{Side, U, N}
use Rattle.rules.specs.Message.{psns_for}
use Rattle.rules.specs.Ranges.{over_ceiling}
use Rattle.rules.specs.Acknowledge.{inside}
use Rattle.rules.specs.Response.{unfit}
use Rattle.rules.specs.Refusals.{side_at, of_opening, of_post, of_response, wrong_state, out_of_range, any_read, no_room_to_open, no_room, refusals}
use Rattle.rules.specs.Requests.{Request, lent, needed}

pub record Accepted (card : Card) (q : Request) (p : ℕ) (a : List Side) : Type 0 where
  pub pair : p < card.pairs
  pub state : wrong_state q (side_at a p).standing.state ≡ false
  pub range : out_of_range card q ≡ false
  pub buffer : ltb (length (lent q)) (needed card q) ≡ false
  pub ceiling : of_post q (λ m. over_ceiling (side_at a p).standing.settings m) ≡ false
  pub fence : of_post q (λ m. m.fenced && any_read (side_at a p).packets) ≡ false
  pub near : of_post q (λ m. ltb half (distance (U (side_at a p)) (N (side_at a p)) + psns_for (side_at a p).standing.settings m)) ≡ false
  pub room : of_opening q (λ new. no_room_to_open card p new a) || of_post q (λ m. no_room card p m a) ≡ false
  pub fits : of_response q (λ r opcode len. inside r (side_at a p) && unfit r opcode len (side_at a p)) ≡ false

module _ (card : Card) (q : Request) (p : ℕ) (a : List Side) where
  pub accepted : first_given (refusals card q p a) ≡ None → Accepted card q p a
  accepted e =
      let h = none-given (refusals card q p a) e in
      record {
        pair = leb-false card.pairs p h.0;
        state = h.1.0;
        range = h.1.1.0;
        buffer = h.1.1.1.0;
        ceiling = h.1.1.1.1.0;
        fence = h.1.1.1.1.1.0;
        near = h.1.1.1.1.1.1.0;
        room = h.1.1.1.1.1.1.1.0;
        fits = h.1.1.1.1.1.1.1.1.0;
      }

pub is-ready : {x : ℕ} → not (eqb x 1) ≡ false → x ≡ 1
is-ready {x} e = eqb-true x 1 (not-false (eqb x 1) e)
