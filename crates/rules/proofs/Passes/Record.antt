-- The tests of a pair's record pass exactly if the state number, the second and the fifth bullet are as the audit asks, and a pair not ready holds none.
use mathlib.Core.Path.{◌≡◌, refl}
use mathlib.Core.Bool.{Bool, true, false, not, ◌||◌, false≢true, true≢false}
use mathlib.Core.List.{List}
use Prim.Native.Nat.{ℕ, ◌≤◌, ◌<◌}
use native.Mathlib.Omega.{arith}
use lib.Dec.{eqb}
use borrow.Author.Tests.{ltb-true, leb-true, eqb-true, eqb-false, eq-eqb, ne_eqb, lt-ltb, le-leb, not-true}
use lib.ListN.{length}
use Rattle.refusal.specs.Choice.{Each}
use Rattle.refusal.proofs.Cases.{by-test}
use Rattle.psn.specs.Psn.{psns}
use Rattle.rules.specs.declared.Packet.{Packet}
use Rattle.rules.specs.declared.Standing.{Standing}
use Rattle.rules.specs.Card.{Card}
use Rattle.rules.specs.Account.{Side}
use Rattle.rules.specs.Ranges.{bad_settings}
use Rattle.rules.specs.Timer.{timeout_of}
use Rattle.rules.specs.Audit.{Bounded, longest_hold, Timed}
use Rattle.rules.specs.Passes.Record.{bound_tests, timed_tests, record_passes}
use Rattle.rules.specs.Passes.Tests.{all_of}
use Rattle.rules.proofs.Ranges.{InRange, in-range}
use Rattle.rules.proofs.Passes.Tests.{both, joined, all_hold, hold-all}

-- ---- implications

unless : (t u : Bool) → not t || u ≡ true → t ≡ true → u ≡ true
unless true u e h = e
unless false u e h = absurd (false≢true h)

unless-is : (t u : Bool) → (t ≡ true → u ≡ true) → not t || u ≡ true
unless-is true u f = f refl
unless-is false u f = refl

otherwise : (t u : Bool) → t || u ≡ true → t ≡ false → u ≡ true
otherwise true u e h = absurd (true≢false h)
otherwise false u e h = e

otherwise-is : (t u : Bool) → (t ≡ false → u ≡ true) → t || u ≡ true
otherwise-is true u f = refl
otherwise-is false u f = f refl

-- ---- a pair's side

module _ (card : Card) (t : Standing) (ps : List Packet) where
  abbrev here : Side
  here = record { standing = t; packets = ps }

  fair-of : all_of (bound_tests card t (length ps)) ≡ true → Each (λ p. p.psn < psns) ps → Bounded card here
  fair-of e low =
      let h = all_hold (bound_tests card t (length ps)) e in
      record {
        settings = not-true (bad_settings card t.settings) h.0;
        u-low = ltb-true t.line.u psns h.1.0;
        x-low = ltb-true t.line.x psns h.1.1.0;
        h-low = ltb-true t.line.h psns h.1.1.1.0;
        n-low = ltb-true t.line.n psns h.1.1.1.1.0;
        packets-low = low;
        retries = leb-true t.clock.retries t.settings.retry h.1.1.1.1.1.0;
        rnrs = leb-true t.clock.rnrs t.settings.rnr h.1.1.1.1.1.1.0;
        held = leb-true (length ps) t.settings.ceiling h.1.1.1.1.1.1.1.0;
      }

  fair-is : Bounded card here → all_of (bound_tests card t (length ps)) ≡ true
  fair-is f =
      hold-all (bound_tests card t (length ps)) (
        rw f.settings,
        (
          lt-ltb t.line.u psns f.u-low,
          (
            lt-ltb t.line.x psns f.x-low,
            (
              lt-ltb t.line.h psns f.h-low,
              (
                lt-ltb t.line.n psns f.n-low,
                (
                  le-leb t.clock.retries t.settings.retry f.retries,
                  (
                    le-leb t.clock.rnrs t.settings.rnr f.rnrs,
                    (
                      le-leb (length ps) t.settings.ceiling f.held,
                      tt,
                    ),
                  ),
                ),
              ),
            ),
          ),
        ),
      )

  timed-of : all_of (timed_tests t) ≡ true → Timed here
  timed-of e =
      let h = all_hold (timed_tests t) e in
      let still = eqb t.clock.elapsed 0 in
      record {
        hold = leb-true t.clock.hold longest_hold h.0;
        elapsed = ltb-true t.clock.elapsed (timeout_of t.settings) h.1.0;
        still = λ q. eqb-true t.clock.elapsed 0 (unless (eqb t.line.u t.line.h) still h.1.1.0 (eq-eqb t.line.u t.line.h q));
        on-hold = λ q. eqb-true t.clock.elapsed 0 (otherwise (eqb t.clock.hold 0) still h.1.1.1.0 (ne_eqb t.clock.hold 0 (λ z. omega (arith, q, z))));
        untimed = λ q. eqb-true t.clock.elapsed 0 (unless (eqb t.settings.timeout 0) still h.1.1.1.1.0 (eq-eqb t.settings.timeout 0 q));
      }

  timed-is : Timed here → all_of (timed_tests t) ≡ true
  timed-is r =
      let still = eqb t.clock.elapsed 0 in
      hold-all (timed_tests t) (
        le-leb t.clock.hold longest_hold r.hold,
        (
          lt-ltb t.clock.elapsed (timeout_of t.settings) r.elapsed,
          (
            unless-is (eqb t.line.u t.line.h) still (λ q. eq-eqb t.clock.elapsed 0 (r.still (eqb-true t.line.u t.line.h q))),
            (
              otherwise-is (eqb t.clock.hold 0) still (λ q. eq-eqb t.clock.elapsed 0 (r.on-hold (omega (arith, eqb-false t.clock.hold 0 q)))),
              (
                unless-is (eqb t.settings.timeout 0) still (λ q. eq-eqb t.clock.elapsed 0 (r.untimed (eqb-true t.settings.timeout 0 q))),
                tt,
              ),
            ),
          ),
        ),
      )

  -- what the record alone says of the side
  pub record Sits : Type 0 where
    pub state : t.state ≤ 2
    pub idle : (t.state ≡ 1 → ⊥) → length ps ≡ 0
    pub bounded : Each (λ p. p.psn < psns) ps → 0 < t.state → Bounded card here
    pub timed : t.state ≡ 1 → Timed here

  pub sits : record_passes card t (length ps) ≡ true → Sits
  unfolding record_passes
  sits e =
      let a = both e in
      let b = both a.1 in
      record {
        state = leb-true t.state 2 a.0;
        idle = λ q. eqb-true (length ps) 0 (rw (ne_eqb t.state 1 q) at b.1);
        bounded = λ low q. fair-of (rw (ne_eqb t.state 0 (λ z. omega (arith, q, z))) at b.0) low;
        timed = λ q. timed-of (rw (eq-eqb t.state 1 q) at b.1);
      }

  pub record-passes : t.state ≤ 2 → ((t.state ≡ 1 → ⊥) → length ps ≡ 0) → (0 < t.state → Bounded card here) → (t.state ≡ 1 → Timed here)
      → record_passes card t (length ps) ≡ true
  unfolding record_passes
  record-passes low idle fair timed =
      joined (le-leb t.state 2 low)
      (joined
      (by-test (eqb t.state 0) (λ q. rw q) (λ q. rw q (fair-is (fair (omega (arith, eqb-false t.state 0 q))))))
      (by-test (eqb t.state 1)
      (λ q. rw q (timed-is (timed (eqb-true t.state 1 q))))
      (λ q. rw q (eq-eqb (length ps) 0 (idle (eqb-false t.state 1 q))))))

-- ---- what is known before the queue is walked

module _ (card : Card) (t : Standing) (held : ℕ) (e : record_passes card t held ≡ true) where
  -- of a ready pair the settings, so the PMTU code
  pub ready-range : t.state ≡ 1 → InRange card t.settings
  unfolding record_passes
  ready-range q =
      in-range
      (not-true (bad_settings card t.settings) (all_hold (bound_tests card t held) (rw (ne_eqb t.state 0 (λ z. omega (arith, q, z))) at (both (both e).1).0)).0)

  -- of any, that it holds no more slots than there are
  pub held_low : held ≤ card.slots
  unfolding record_passes
  held_low =
      by-test (eqb t.state 1)
      (λ q.
      let k = eqb-true t.state 1 q in
      let h = all_hold (bound_tests card t held) (rw (ne_eqb t.state 0 (λ z. omega (arith, k, z))) at (both (both e).1).0) in
      omega (arith, leb-true held t.settings.ceiling h.1.1.1.1.1.1.1.0, (in-range {s = t.settings} (not-true (bad_settings card t.settings) h.0)).ceiling))
      (λ q. omega (arith, eqb-true held 0 (rw q at (both (both e).1).1)))
