-- A NAK or RNR of R lets go of the packets before R and of no other: R and all after it are kept, and sent again.
use Rattle.std.specs.Prelude.{if◌then◌else◌}
use mathlib.Core.Path.{◌≡◌, sym, ap, ◌∙◌}
use mathlib.Core.Bool.{true, false, ◌&&◌}
use mathlib.Core.List.{List}
use Prim.Native.Nat.{ℕ, ◌-◌, ◌≤◌, ◌<◌}
use native.Mathlib.Omega.{arith}
use lib.Dec.{eqb, ltb}
use borrow.Author.Tests.{le-leb, ne_eqb}
use lib.ListN.{length, take, drop, take-append-drop}
use Rattle.std.specs.Prelude.{None}
use Rattle.refusal.specs.Refusals.{first_given}
use Rattle.refusal.proofs.Cases.{if-case, and_none}
use Rattle.rules.specs.declared.Clock.{Clock}
use Rattle.rules.specs.declared.Standing.{Standing}
use Rattle.rules.specs.declared.Answer.{Answer}
use Rattle.rules.specs.declared.Answer.TheVariants.{Resending, Held}
use Rattle.rules.specs.Card.{Card}
use Rattle.rules.specs.Account.{Side, U, ahead}
use Rattle.rules.specs.Ranges.{top_bits, low_bits, bad_syndrome}
use Rattle.rules.specs.declared.Outcome.{Outcome}
use Rattle.rules.specs.declared.Release.{Release}
use Rattle.rules.specs.Release.{release, passed_by, advanced}
use Rattle.rules.specs.Acknowledge.{inside, back_to_u, wait_of, acknowledge}
use Rattle.rules.specs.Slots.{Tables, side, sides}
use Rattle.rules.specs.Order.{◌or◌, left, right}
use Rattle.rules.specs.Refusals.{refusals}
use Rattle.rules.specs.Requests.{acknowledging, on}
use Rattle.rules.specs.Calls.{call}
use Rattle.rules.specs.Errors.{Proper, ReadsFrom, Nacked, NakKeeps}
use Rattle.rules.proofs.Sides.InOrder.{InOrder, audited-order}
use Rattle.rules.proofs.Slots.Freed.{freed-side}
use Rattle.rules.proofs.Errors.Before.{unstopped, u-is, gone-before, left-from, given-none, within, replied, told, next-tables}

-- ---- on the account

-- released before R, and X back at U, with these counts and this hold
abbrev again : Answer → ℕ → ℕ → ℕ → ℕ → Side → Outcome
again answer retries rnrs hold r s =
    record { answer = answer; released = (release r s).released; flushed = 0; standing = back_to_u retries rnrs hold (release r s).standing }

nak-is : (r y : ℕ) (s : Side) → inside r s ≡ true → top_bits y ≡ 3 → low_bits y ≤ 2
    → acknowledge r y s ≡ again Resending (release r s).standing.clock.retries (release r s).standing.clock.rnrs (release r s).standing.clock.hold r s
unfolding acknowledge
nak-is r y s h top low = rw (h, top, le-leb (low_bits y) 2 low)

-- a release leaves a count that was not 0 above 0: as it was, or as its setting
count-stays : (r : ℕ) (s : Side) → 0 < s.standing.clock.rnrs → s.standing.clock.rnrs ≤ s.standing.settings.rnr
    → 0 < (release r s).standing.clock.rnrs
unfolding release
count-stays r s some most =
    if-case (λ (g : Release). 0 < g.standing.clock.rnrs) (ltb (ahead (passed_by r s.standing) s.packets) (length s.packets))
    (λ _. at _) (λ _. at r)
  where
    at : (a : ℕ) → 0 < (advanced a s.standing).clock.rnrs
    at a = if-case (λ (c : Clock). 0 < c.rnrs) (eqb a (U s)) (λ _. some) (λ _. omega arith)

-- what an RNR leaves of the count: at 7 none is taken
abbrev left-of : ℕ → Side → ℕ
left-of r s = if ltb s.standing.settings.rnr 7 then (release r s).standing.clock.rnrs - 1 else (release r s).standing.clock.rnrs

rnr-is : (r y : ℕ) (s : Side) → inside r s ≡ true → top_bits y ≡ 1
    → ltb s.standing.settings.rnr 7 && eqb (release r s).standing.clock.rnrs 0 ≡ false
    → acknowledge r y s ≡ again Held (release r s).standing.clock.retries (left-of r s) (wait_of (low_bits y)) r s
unfolding acknowledge
rnr-is r y s h top goes_on = rw (h, top, goes_on)

goes_on : (r : ℕ) (s : Side) → s.standing.clock.rnrs ≤ s.standing.settings.rnr → (s.standing.settings.rnr ≡ 7) or (0 < s.standing.clock.rnrs)
    → ltb s.standing.settings.rnr 7 && eqb (release r s).standing.clock.rnrs 0 ≡ false
goes_on r s most (left seven) = rw seven
goes_on r s most (right some) =
    let more = count-stays r s some most in
    rw (ne_eqb (release r s).standing.clock.rnrs 0 (λ z. omega arith)) (and_none (ltb s.standing.settings.rnr 7))

-- ---- the call

module _ (card : Card) (t : Tables) (p r y : ℕ) (b : List ℕ) (f : Proper card t p r b) (known : bad_syndrome y ≡ false) (reads : ReadsFrom r (side t p))
    (answer : Answer) (retries rnrs hold : ℕ) (is : acknowledge r y (side t p) ≡ again answer retries rnrs hold r (side t p)) where
  abbrev count : ℕ
  count = (release r (side t p)).released

  abbrev standing : Standing
  standing = back_to_u retries rnrs hold (release r (side t p)).standing

  given : first_given (refusals card (acknowledging r y b) p (sides t)) ≡ None
  given = given-none card t p r y b f known

  order : InOrder (side t p)
  order = audited-order f.audited p f.pair f.is-ready

  clear : (release r (side t p)).stopped ≡ false
  clear = unstopped r (side t p) reads

  after : side (call card (on p (acknowledging r y b)) t).next p ≡ record { standing = standing; packets = drop count (side t p).packets }
  after =
      ap (λ (n : Tables). side n p) (next-tables card t p r y b f.audited given answer count standing is)
      ∙ freed-side card t f.audited.whole p f.pair standing count

  nacked : Nacked p r b answer t (call card (on p (acknowledging r y b)) t)
  nacked =
      record {
        gone = take count (side t p).packets;
        rest = rw after (sym (take-append-drop count (side t p).packets));
        all-before = gone-before r (side t p) clear;
        all_from = rw after (left-from r (side t p) clear order (omega (arith, f.open-range)));
        said = replied card t p r y b f.audited given answer count standing is;
        told = told card t p r y b f.audited given answer count standing is;
        u-after = rw after (u-is r (side t p) clear);
        x-after = rw after (u-is r (side t p) clear);
      }

pub nak-keeps : (card : Card) → NakKeeps card
nak-keeps card =
    record {
      nak = λ t p r y b f low high reads.
          let top : top_bits y ≡ 3 = omega arith in
          let code : low_bits y ≤ 2 = omega arith in
          nacked card t p r y b f (rw (top, le-leb (low_bits y) 3 (omega arith))) reads Resending _ _ _
          (nak-is r y (side t p) (within card t p r y b f) top code);
      rnr = λ t p r y b f low high reads left_over.
          let top : top_bits y ≡ 1 = omega arith in
          nacked card t p r y b f (rw top) reads Held _ _ _
          (rnr-is r y (side t p) (within card t p r y b f) top
          (goes_on r (side t p) (f.audited.bounded p f.pair (omega (arith, f.is-ready))).rnrs left_over));
    }
