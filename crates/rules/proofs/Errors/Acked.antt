-- The first error of the trade, shut out: an ACK of R with no read unanswered up to R is "done", all packets up to R go and no other, and every slot they had is free.
use mathlib.Core.Path.{◌≡◌, sym, ap, ◌∙◌, subst}
use mathlib.Core.Bool.{true, false, not, ◌&&◌}
use mathlib.Core.List.{List, [], ◌∷◌, map}
use Prim.Native.Nat.{ℕ, ◌+◌, ◌≤◌, ◌<◌}
use native.Mathlib.Omega.{arith}
use lib.Dec.{eqb, ltb, leb}
use borrow.Author.Tests.{ltb-true, ltb-false, eqb-true, eqb-false, not-false}
use lib.ListN.{take, drop, take-append-drop}
use Rattle.refusal.specs.Choice.{Each}
use Rattle.refusal.proofs.Cases.{by-test, if-case}
use Rattle.refusal.proofs.Each.{each-so}
use Rattle.rules.specs.declared.Packet.{Packet}
use Rattle.rules.specs.declared.Standing.{Standing}
use Rattle.rules.specs.declared.Answer.TheVariants.{Done}
use Rattle.psn.specs.Psn.{distance, plus, next}
use Rattle.rules.specs.declared.Reply.TheVariants.{Answered}
use Rattle.rules.specs.Card.{Card}
use Rattle.rules.specs.Account.{Side, U, H}
use Rattle.rules.specs.Message.{is_read, unanswered}
use Rattle.rules.specs.Ranges.{top_bits, low_bits}
use Rattle.rules.specs.declared.Outcome.{Outcome}
use Rattle.rules.specs.Release.{release}
use Rattle.rules.specs.Acknowledge.{inside, acknowledge}
use Rattle.rules.specs.Slots.{Tables, slot_at, free, queue, times, side_of, side, sides, freed}
use Rattle.rules.specs.Audit.{Whole, Audit}
use Rattle.rules.specs.Calls.{call}
use Rattle.rules.specs.Errors.{After, UpTo, NoneUpTo, ReadsAfter, ReadsFrom, BeforeR, FromR, Acked, AckFrees}
use Rattle.rules.specs.Passes.Tables.{passes}
use Rattle.rules.specs.Refusals.{side_at, refusals}
use Rattle.rules.specs.Requests.{acknowledging, on}
use Rattle.rules.proofs.Sides.InOrder.{InOrder, audited-order}
use Rattle.rules.proofs.Passes.Decided.{sound}
use Rattle.std.specs.Prelude.{None, Ok}
use Rattle.refusal.specs.Refusals.{first_given}
use Rattle.refusal.proofs.Given.{by-given, ok-not-err}
use Rattle.psn.proofs.Laws.{distance-step}
use Rattle.rules.proofs.Slots.Links.{times-append, times-parts, times-other}
use Rattle.rules.proofs.Slots.Lists.{map-drop}
use Rattle.rules.proofs.Slots.Freed.{freed-free, freed-side}
use Rattle.rules.proofs.Slots.Queues.{pair-and-free}
use Rattle.rules.proofs.Calls.Accepted.{Accepted, accepted, is-ready}
use Rattle.rules.proofs.Calls.Moves.{side-at}
use Rattle.rules.proofs.Errors.Before.{unstopped, u-is, gone-before, left-from, given-none, within, replied, told, next-tables}

-- ---- on the account

-- what an ACK of R that is not stopped comes to
abbrev cleared : ℕ → Side → Outcome
cleared r s = record { answer = Done; released = (release (plus r 1) s).released; flushed = 0; standing = (release (plus r 1) s).standing }

cleared-is : (r y : ℕ) (s : Side) → top_bits y ≡ 0 → inside r s ≡ true → (release (plus r 1) s).stopped ≡ false → acknowledge r y s ≡ cleared r s
unfolding acknowledge
cleared-is r y s top h e = rw (h, top, e)

-- an acknowledgement that is answered "done": an ACK, R is inside, and the release did not stop
record Clean (r y : ℕ) (s : Side) : Type 0 where
  top : top_bits y ≡ 0
  within : inside r s ≡ true
  clear : (release (plus r 1) s).stopped ≡ false

clean : (r y : ℕ) (s : Side) → (acknowledge r y s).answer ≡ Done → Clean r y s
unfolding acknowledge
clean r y s =
    if-case P (not (inside r s)) (λ _ d. never (cc)) (λ e.
    if-case P (eqb (top_bits y) 0)
    (λ top. if-case P (release (plus r 1) s).stopped (λ _ d. never (cc))
    (λ q d. record { top = eqb-true (top_bits y) 0 top; within = not-false (inside r s) e; clear = q })) (λ _.
    if-case P (eqb (top_bits y) 1)
    (λ _. if-case P (ltb s.standing.settings.rnr 7 && eqb (release r s).standing.clock.rnrs 0) (λ _ d. never (cc)) (λ _ d. never (cc))) (λ _.
    if-case P (leb (low_bits y) 2) (λ _ d. never (cc)) (λ _ d. never (cc)))))
  where
    P : Outcome → Type 0
    P o = o.answer ≡ Done → Clean r y s

    never : {A : Type 0} → ◌≡◌ {A = ℕ} 0 1 → A
    never z = absurd (omega arith)

-- R + 1 is one further than R
pub next-is : (s : Side) → InOrder s → (r : ℕ) → inside r s ≡ true → distance (U s) (plus r 1) ≡ distance (U s) r + 1
next-is s o r h = distance-step (U s) r 1 (omega (arith, ltb-true (distance (U s) r) (distance (U s) (H s)) h, o.u-h-n, o.near))

-- so what is after R is at R + 1 or after it
reads-from-next : (s : Side) → InOrder s → (r : ℕ) → inside r s ≡ true → ReadsAfter r s → ReadsFrom (plus r 1) s
reads-from-next s o r h =
    each-so (λ (q : Packet). is_read q ≡ true → distance (U s) r < distance (U s) (unanswered s.standing q))
    (λ (q : Packet). is_read q ≡ true → distance (U s) (plus r 1) ≤ distance (U s) (unanswered s.standing q))
    (λ q f e. omega (arith, f e, next-is s o r h)) s.packets

module _ (s : Side) (o : InOrder s) (r : ℕ) (h : inside r s ≡ true) (e : (release (plus r 1) s).stopped ≡ false) where
  -- nothing goes but what is up to R
  gone-up-to : Each (UpTo (U s) r) (take (release (plus r 1) s).released s.packets)
  gone-up-to =
      each-so (BeforeR (U s) (plus r 1)) (UpTo (U s) r) (λ q l. omega (arith, next-is s o r h))
      (take (release (plus r 1) s).released s.packets) (gone-before (plus r 1) s e)

  -- nothing is left at or before R
  left_after : Each (After (U s) r) (drop (release (plus r 1) s).released s.packets)
  left_after =
      each-so (FromR (U s) (plus r 1)) (After (U s) r) (λ q l. omega (arith, next-is s o r h))
      (drop (release (plus r 1) s).released s.packets)
      (left-from (plus r 1) s e o (omega (arith, next-is s o r h, ltb-true (distance (U s) r) (distance (U s) (H s)) h)))

-- ---- on the tables

pub each_in : (P : Packet → Type 0) (f : ℕ → Packet) (i : ℕ) (l : List ℕ) → Each P (map f l) → 1 ≤ times i l → P (f i)
each_in P f i [] h m = absurd (omega arith)
each_in P f i (a ∷ l) h m =
    by-test (eqb i a)
    (λ e. rw (eqb-true i a e) h.0)
    (λ e. each_in P f i l h.1 (omega (arith, times-other i a l (eqb-false i a e))))

pub side-drop : (t : Tables) (p k : ℕ) → drop k (side t p).packets ≡ map (λ j. (slot_at t.slots j).packet) (drop k (queue t p))
unfolding side side_of
side-drop t p k = sym (map-drop (λ j. (slot_at t.slots j).packet) k (queue t p))

-- a release of tables that are whole, whose pair p is in order
module _ (card : Card) (t : Tables) (w : Whole card t) (p : ℕ) (low : p < card.pairs) (o : InOrder (side t p))
    (r : ℕ) (in-range : inside r (side t p) ≡ true) (e : (release (plus r 1) (side t p)).stopped ≡ false) where
  abbrev count : ℕ
  count = (release (plus r 1) (side t p)).released

  abbrev new : Tables
  new = freed card.none p (release (plus r 1) (side t p)).standing count t

  new-side : side new p ≡ record { standing = (release (plus r 1) (side t p)).standing; packets = drop count (side t p).packets }
  new-side = freed-side card t w p low (release (plus r 1) (side t p)).standing count

  -- a slot of a packet up to R does not stay
  left_out : (i : ℕ) → UpTo (U (side t p)) r (slot_at t.slots i).packet → times i (drop count (queue t p)) ≡ 0
  left_out i l =
      by-test (ltb 0 (times i (drop count (queue t p))))
      (λ z.
      absurd (omega (
        arith,
        each_in (After (U (side t p)) r) (λ j. (slot_at t.slots j).packet) i (drop count (queue t p))
            (subst (Each (After (U (side t p)) r)) (side-drop t p count) (left_after (side t p) o r in-range e))
            (ltb-true 0 (times i (drop count (queue t p))) z),
      )))
      (λ z. omega (arith, ltb-false))

  slots-free : (i : ℕ) → 1 ≤ times i (queue t p) → UpTo (U (side t p)) r (slot_at t.slots i).packet → times i (free new) ≡ 1
  slots-free i m l =
      ap (times i) (freed-free card t w p low (release (plus r 1) (side t p)).standing count)
      ∙ omega (arith, left_out i l, times-append i (free t) (take count (queue t p)), times-parts i count (queue t p), pair-and-free card t w p i)

  -- of tables that are the new ones
  none-up-to : (n : Tables) → n ≡ new → NoneUpTo p r t n
  none-up-to n is =
      record {
        gone = take count (side t p).packets;
        rest = rw (is, new-side) (sym (take-append-drop count (side t p).packets));
        all-up-to = gone-up-to (side t p) o r in-range e;
        none-held = rw (is, new-side) (left_after (side t p) o r in-range e);
        slots-free = λ i m l. ap (λ (x : Tables). times i (free x)) is ∙ slots-free i m l;
      }

-- ---- the call

-- one that meets none of 1 to 9, is not dropped and not stopped
acked-clean : (card : Card) (t : Tables) → Audit card t → (p r y : ℕ) (b : List ℕ)
    → first_given (refusals card (acknowledging r y b) p (sides t)) ≡ None → Clean r y (side t p)
    → Acked p r b t (call card (on p (acknowledging r y b)) t)
unfolding none-up-to
acked-clean card t a p r y b given c =
    record {
      none-up-to = none-up-to card t a.whole p h.pair order r c.within c.clear (call card (on p (acknowledging r y b)) t).next after;
      done = replied card t p r y b a given Done k st is;
      told = told card t p r y b a given Done k st is;
      u-after = rw (after, freed-side card t a.whole p h.pair st k) (u-is (next r) (side t p) c.clear);
    }
  where
    k : ℕ
    k = (release (next r) (side t p)).released

    st : Standing
    st = (release (next r) (side t p)).standing

    is : acknowledge r y (side t p) ≡ cleared r (side t p)
    is = cleared-is r y (side t p) c.top c.within c.clear

    h : Accepted card (acknowledging r y b) p (sides t)
    h = accepted card (acknowledging r y b) p (sides t) given

    order : InOrder (side t p)
    order = audited-order a p h.pair (rw (side-at t p) at (is-ready {x = (side_at (sides t) p).standing.state} h.state))

    after : (call card (on p (acknowledging r y b)) t).next ≡ freed card.none p st k t
    after = next-tables card t p r y b a given Done k st is

-- an ACK of R with no read unanswered up to R: "done", all packets up to R gone and no other, their slots free, U past R
pub acked : (card : Card) → AckFrees card
acked card t p r y b f low reads =
    let top : top_bits y ≡ 0 = omega arith in
    let h = within card t p r y b f in
    let order = audited-order f.audited p f.pair f.is-ready in
    acked-clean card t f.audited p r y b (given-none card t p r y b f (rw top))
    (record { top = top; within = h; clear = unstopped (plus r 1) (side t p) (reads-from-next (side t p) order r h reads) })

-- what was answered "done": audited tables, none of 1 to 9 met, an ACK that was not dropped and not stopped
record Was (card : Card) (t : Tables) (p r y : ℕ) (b : List ℕ) : Type 0 where
  audit : Audit card t
  given : first_given (refusals card (acknowledging r y b) p (sides t)) ≡ None
  clean : Clean r y (side t p)

was : (card : Card) (t : Tables) (p r y : ℕ) (b : List ℕ) (messages place : ℕ)
    → (call card (on p (acknowledging r y b)) t).said.reply ≡ Ok (Answered Done messages place) → Was card t p r y b
unfolding call
was card t p r y b messages place =
    by-test (passes card t)
    (λ e. rw e (by-given (first_given (refusals card (acknowledging r y b) p (sides t)))
    (λ q. rw q (λ d.
    record {
      audit = sound card t e;
      given = q;
      clean = rw (side-at t p) at (clean r y (side_at (sides t) p) (cc));
    }))
    (λ k q. rw q (λ d. ok-not-err (sym d)))))
    (λ e. rw e (λ d. ok-not-err (sym d)))

-- and the other way: whatever is answered "done" was such an ACK, of audited tables
pub acked-when-done : (card : Card) (t : Tables) (p r y : ℕ) (b : List ℕ) (messages place : ℕ)
    → (call card (on p (acknowledging r y b)) t).said.reply ≡ Ok (Answered Done messages place) → Acked p r b t (call card (on p (acknowledging r y b)) t)
acked-when-done card t p r y b messages place d =
    let w = was card t p r y b messages place d in
    acked-clean card t w.audit p r y b w.given w.clean
