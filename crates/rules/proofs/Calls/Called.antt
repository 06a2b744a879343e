-- From audited tables: audited after, the called pair by its rule, the others as they were.
use mathlib.Core.Path.{◌≡◌, refl, sym, ap, ◌∙◌}
use mathlib.Core.Logic.{◌≢◌}
use mathlib.Core.List.{List}
use Prim.Native.Nat.{ℕ, ◌<◌}
use native.Mathlib.Omega.{arith}
use Rattle.std.specs.Prelude.{None}
use Rattle.refusal.proofs.Given.{by-given}
use Rattle.rules.specs.Card.{Card}
use Rattle.rules.specs.Account.{Side}
use Rattle.rules.specs.Slots.{Tables, side, sides}
use Rattle.rules.specs.Audit.{Audit}
use Rattle.rules.specs.Calls.{effect, side_after, account, call}
use Rattle.rules.specs.Refusals.{side_at, refusals}
use Rattle.rules.specs.Requests.{Request, Call, on}
use Rattle.refusal.specs.Refusals.{first_given}
use Rattle.rules.proofs.Calls.Well.{side_same, side-other}
use Rattle.rules.proofs.Calls.Moves.{side-at, well-of}
use Rattle.rules.proofs.Calls.Agrees.{agrees}

module _ (card : Card) where
  module _ (t : Tables) (a : Audit card t) where
    pub stays-audited : (c : Call) → Audit card (call card c t).next
    stays-audited c = (agrees card c t a).audited

    others-account : (p : ℕ) (q : Request) (r : ℕ) → r ≢ p → side_at (account card (on p q) (sides t)).next r ≡ side_at (sides t) r
    unfolding account
    others-account p q r d =
        by-given (first_given (refusals card q p (sides t)))
        (λ e. rw e (side-other (sides t) p r _ d)) (λ k e. rw e refl)

    pub others : (p : ℕ) (q : Request) (r : ℕ) → r ≢ p → side (call card (on p q) t).next r ≡ side t r
    others p q r d =
        sym (side-at (call card (on p q) t).next r)
        ∙ ap (λ (l : List Side). side_at l r) (agrees card (on p q) t a).sides-after
        ∙ others-account p q r d
        ∙ side-at t r

    called-account : (p : ℕ) (q : Request) → p < card.pairs → first_given (refusals card q p (sides t)) ≡ None
        → side_at (account card (on p q) (sides t)).next p ≡ side_after (effect q (side_at (sides t) p)) (side_at (sides t) p)
    unfolding account
    called-account p q h e = rw e (side_same (sides t) p _ (omega (arith, (well-of card t a).count)))

    pub called : (p : ℕ) (q : Request) → p < card.pairs → first_given (refusals card q p (sides t)) ≡ None
        → side (call card (on p q) t).next p ≡ side_after (effect q (side t p)) (side t p)
    called p q h e =
        sym (side-at (call card (on p q) t).next p)
        ∙ ap (λ (l : List Side). side_at l p) (agrees card (on p q) t a).sides-after
        ∙ called-account p q h e
        ∙ ap (λ (s : Side). side_after (effect q s) s) (side-at t p)
