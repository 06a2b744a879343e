-- An acknowledgement keeps the order, unless it ends the pair; and the packets that are left are the rear of those held.
use mathlib.Core.Path.{◌≡◌, refl}
use mathlib.Core.Bool.{true, not, ◌&&◌}
use mathlib.Core.List.{List}
use Prim.Native.Nat.{ℕ, ◌+◌, ◌/◌, ◌%◌, ◌≤◌, ◌<◌}
use native.Mathlib.Omega.{arith}
use native.Mathlib.Nat.{add-zero}
use lib.Dec.{eqb, ltb, leb}
use borrow.Author.Tests.{ltb-true, not-false}
use lib.ListN.{length}
use Rattle.refusal.proofs.Cases.{if-case}
use Rattle.rules.specs.declared.Packet.{Packet}
use Rattle.rules.specs.declared.Standing.{Standing}
use Rattle.rules.specs.declared.Answer.{Answer}
use Rattle.rules.specs.declared.Answer.TheVariants.{Resending, Held}
use Rattle.psn.specs.Psn.{psns, distance, plus}
use Rattle.rules.specs.Account.{Side, U, H, ahead}
use Rattle.rules.specs.declared.Outcome.{Outcome}
use Rattle.rules.specs.declared.Release.{Release}
use Rattle.rules.specs.Release.{passed_by, release}
use Rattle.rules.specs.Acknowledge.{back_to_u, inside, ack, ended_after, rnr, acknowledge}
use Rattle.rules.specs.Order.{◌or◌, left, right}
use Rattle.rules.proofs.Sides.After.{after}
use Rattle.rules.proofs.Sides.InOrder.{InOrder}
use Rattle.psn.proofs.Laws.{distance-same, distance-step}
use Rattle.rules.proofs.Sides.Order.{ordered-release}

pub ordered-resent : (t : Standing) (ps : List Packet) (retries rnrs hold : ℕ) → InOrder (record { standing = t; packets = ps })
    → InOrder (record { standing = back_to_u retries rnrs hold t; packets = ps })
ordered-resent t ps k l w o =
    record {
      u-low = o.u-low;
      x-low = o.u-low;
      h-low = o.h-low;
      n-low = o.n-low;
      starts = o.starts;
      u-x-h = rw distance-same (omega arith);
      u-h-n = o.u-h-n;
      near = o.near;
      x-stands = left refl;
      h-stands = o.h-stands;
      h-past = o.h-past;
    }

-- what an outcome is: the pair still ready and in order, or ended with nothing left. The settings stay
pub record Fine (s : Side) (o : Outcome) : Type 0 where
  pub settings : o.standing.settings ≡ s.standing.settings
  pub fate : ((o.standing.state ≡ 1) × InOrder (after o s)) or ((o.standing.state ≡ 2) × (length s.packets ≤ o.released + o.flushed))

module _ (s : Side) (ready : s.standing.state ≡ 1) (o : InOrder s) where
  pub release-keeps : (b : ℕ) → ((release b s).standing.state ≡ 1) × ((release b s).standing.settings ≡ s.standing.settings)
  unfolding release
  release-keeps b =
      if-case (λ (g : Release). (g.standing.state ≡ 1) × (g.standing.settings ≡ s.standing.settings))
      (ltb (ahead (passed_by b s.standing) s.packets) (length s.packets)) (λ e. (ready, refl)) (λ e. (ready, refl))

  module _ (r : ℕ) (low : r < psns) (h : inside r s ≡ true) where
    in-range : distance (U s) r < distance (U s) (H s)
    in-range = ltb-true (distance (U s) r) (distance (U s) (H s)) h

    next_low : distance (U s) (plus r 1) ≤ distance (U s) (H s)
    next_low = omega (arith, in-range, o.u-h-n, o.near, distance-step (U s) r 1 (omega (arith, in-range, o.u-h-n, o.near)))

    -- released before b, and X back at U
    pub again : (b : ℕ) → b < psns → distance (U s) b ≤ distance (U s) (H s) → (answer : Answer) (left wait : ℕ)
        → Fine s (record { answer = answer; released = (release b s).released; flushed = 0; standing = back_to_u (release b s).standing.clock.retries left wait (release b s).standing })
    again b l e answer n wait =
        record {
          settings = (release-keeps b).1;
          fate = left ((release-keeps b).0, rw add-zero (ordered-resent _ _ _ _ _ (ordered-release s o b l e)));
        }

    fine-ack : Fine s (ack (release (plus r 1) s))
    fine-ack =
        if-case (Fine s) (release (plus r 1) s).stopped
        (λ e. again (plus r 1) (omega arith) next_low Resending _ _)
        (λ e. record {
          settings = (release-keeps (plus r 1)).1;
          fate = left ((release-keeps (plus r 1)).0, rw add-zero (ordered-release s o (plus r 1) (omega arith) next_low));
        })

    fine_end : Fine s (ended_after (length s.packets) (release r s))
    fine_end = record { settings = (release-keeps r).1; fate = right (refl, omega arith) }

    fine-rnr : (wait : ℕ) → Fine s (rnr s.standing.settings wait (length s.packets) (release r s))
    fine-rnr wait =
        if-case (Fine s) (ltb s.standing.settings.rnr 7 && eqb (release r s).standing.clock.rnrs 0)
        (λ e. fine_end)
        (λ e. again r low (omega (arith, in-range)) Held _ _)

  pub fine-acknowledge : (r syndrome : ℕ) → r < psns → Fine s (acknowledge r syndrome s)
  unfolding acknowledge
  fine-acknowledge r y low =
      if-case (Fine s) (not (inside r s)) (λ e. record { settings = refl; fate = left (ready, o) }) (λ e.
      let h = not-false (inside r s) e in
      if-case (Fine s) (eqb (y / 32) 0) (λ _. fine-ack r low h) (λ _.
      if-case (Fine s) (eqb (y / 32) 1) (λ _. fine-rnr r low h _) (λ _.
      if-case (Fine s) (leb (y % 32) 2) (λ _. again r low h r low (omega (arith, in-range r low h)) Resending _ _) (λ _. fine_end r low h))))
