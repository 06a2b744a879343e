-- A dropped event changes nothing, bit for bit.
use mathlib.Core.Path.{◌≡◌, refl, ap, ◌∙◌}
use mathlib.Core.Bool.{not, ◌&&◌}
use mathlib.Core.List.{List}
use Prim.Native.Nat.{ℕ, ◌/◌, ◌%◌, ◌<◌}
use native.Mathlib.Omega.{arith}
use lib.Dec.{eqb, ltb, leb}
use lib.ListN.{set}
use lib.Seq.{set-get_or}
use Rattle.refusal.proofs.Cases.{by-test, if-case}
use Rattle.rules.specs.declared.Pair.{Pair}
use Rattle.rules.specs.declared.Answer.TheVariants.{Dropped}
use Rattle.psn.specs.Psn.{plus}
use Rattle.rules.specs.declared.Reply.TheVariants.{Answered}
use Rattle.rules.specs.Card.{Card}
use Rattle.rules.specs.Account.{Side}
use Rattle.rules.specs.declared.Outcome.{Outcome}
use Rattle.rules.specs.Outcome.{dropped}
use Rattle.rules.specs.Release.{release}
use Rattle.rules.specs.Acknowledge.{inside, acknowledge}
use Rattle.rules.specs.Response.{response}
use Rattle.rules.specs.Slots.{Tables, pair_at, side_of, side, sides, freed}
use Rattle.rules.specs.Audit.{Whole}
use Rattle.rules.specs.Calls.{call}
use Rattle.rules.specs.Passes.Tables.{passes}
use Rattle.rules.specs.Refusals.{side_at, refusals}
use Rattle.rules.specs.Requests.{acknowledging, responding, on}
use Rattle.rules.proofs.Passes.Decided.{sound}
use Rattle.std.specs.Prelude.{Ok}
use Rattle.refusal.specs.Refusals.{first_given}
use Rattle.refusal.proofs.Given.{by-given}
use Rattle.rules.proofs.Slots.Freed.{freed-none}
use Rattle.rules.proofs.Calls.Moves.{side-at}
use Rattle.rules.proofs.Calls.Accepted.{accepted}

-- ---- nothing moves where nothing leaves and the standing stays

standing-at : (t : Tables) (p : ℕ) → (side_at (sides t) p).standing ≡ (pair_at t.pairs p).standing
unfolding side side_of
standing-at t p = ap (λ (s : Side). s.standing) (side-at t p)

same-pair : (ps : List Pair) (p : ℕ) → set ps p (pair_at ps p) ≡ ps
unfolding pair_at
same-pair ps p = set-get_or ps p _

nothing-moves : (card : Card) (t : Tables) → Whole card t → (p : ℕ) → p < card.pairs → freed card.none p (side_at (sides t) p).standing 0 t ≡ t
nothing-moves card t w p h =
    rw (standing-at t p)
    (freed-none card t w p h (pair_at t.pairs p).standing
    ∙ ap (λ (ps : List Pair). record { pairs = ps; ends = t.ends; slots = t.slots }) (same-pair t.pairs p))

never : {A : Type 0} → ◌≡◌ {A = ℕ} 0 1 → A
never z = absurd (omega arith)

drop-acknowledge : (r y : ℕ) (s : Side) → (acknowledge r y s).answer ≡ Dropped → acknowledge r y s ≡ dropped s
unfolding acknowledge
drop-acknowledge r y s =
    if-case P (not (inside r s)) (λ _ _. refl) (λ _.
    if-case P (eqb (y / 32) 0) (λ _. if-case P (release (plus r 1) s).stopped (λ _ d. never (cc)) (λ _ d. never (cc))) (λ _.
    if-case P (eqb (y / 32) 1)
    (λ _. if-case P (ltb s.standing.settings.rnr 7 && eqb (release r s).standing.clock.rnrs 0) (λ _ d. never (cc)) (λ _ d. never (cc))) (λ _.
    if-case P (leb (y % 32) 2) (λ _ d. never (cc)) (λ _ d. never (cc)))))
  where
    P : Outcome → Type 0
    P o = o.answer ≡ Dropped → o ≡ dropped s

drop-response : (r : ℕ) (s : Side) → (response r s).answer ≡ Dropped → response r s ≡ dropped s
unfolding response
drop-response r s =
    if-case P (not (inside r s)) (λ _ _. refl) (λ _. if-case P (release r s).stopped (λ _ d. never (cc)) (λ _ d. never (cc)))
  where
    P : Outcome → Type 0
    P o = o.answer ≡ Dropped → o ≡ dropped s

module _ (card : Card) where
  module _ (t : Tables) (p : ℕ) where
    -- a dropped event changes nothing
    pub dropped-acknowledge : (r y : ℕ) (b : List ℕ) (k j : ℕ) → (call card (on p (acknowledging r y b)) t).said.reply ≡ Ok (Answered Dropped k j)
        → ((call card (on p (acknowledging r y b)) t).next ≡ t) × ((call card (on p (acknowledging r y b)) t).said.buffer ≡ b)
    unfolding call
    dropped-acknowledge r y b k j =
        by-test (passes card t)
        (λ e. rw e (by-given (first_given (refusals card (acknowledging r y b) p (sides t)))
        (λ z. rw z (λ d.
        let h = (accepted card (acknowledging r y b) p (sides t) z).pair in
        rw (drop-acknowledge r y (side_at (sides t) p) (cc)) (nothing-moves card t (sound card t e).whole p h, refl)))
        (λ i z. rw z (λ d. (refl, refl)))))
        (λ e. rw e (λ d. (refl, refl)))

    pub dropped-response : (r o l : ℕ) (b : List ℕ) (k j : ℕ) → (call card (on p (responding r o l b)) t).said.reply ≡ Ok (Answered Dropped k j)
        → ((call card (on p (responding r o l b)) t).next ≡ t) × ((call card (on p (responding r o l b)) t).said.buffer ≡ b)
    unfolding call
    dropped-response r o l b k j =
        by-test (passes card t)
        (λ e. rw e (by-given (first_given (refusals card (responding r o l b) p (sides t)))
        (λ z. rw z (λ d.
        let h = (accepted card (responding r o l b) p (sides t) z).pair in
        rw (drop-response r (side_at (sides t) p) (cc)) (nothing-moves card t (sound card t e).whole p h, refl)))
        (λ i z. rw z (λ d. (refl, refl)))))
        (λ e. rw e (λ d. (refl, refl)))
