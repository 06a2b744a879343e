-- Each event's outcome keeps all that the audit asks of one pair: counts, times, PSNs.
use mathlib.Core.Path.{◌≡◌, refl, ap}
use mathlib.Core.Bool.{true, false, not, ◌&&◌, ◌||◌}
use mathlib.Core.List.{List, [], ◌∷◌}
use Prim.Native.Nat.{ℕ, zero, suc, ◌+◌, ◌*◌, ◌/◌, ◌%◌, ◌≤◌, ◌<◌}
use native.Mathlib.Omega.{arith}
use lib.Pow.{pow_pos}
use lib.Dec.{eqb, ltb, leb}
use borrow.Author.Tests.{ltb-true, ltb-false, eqb-false, ne_eqb, not-false}
use lib.ListN.{length, get_or}
use Rattle.refusal.proofs.Cases.{by-test, if-case, or_left, or_right}
use Rattle.rules.specs.declared.Settings.{Settings}
use Rattle.rules.specs.declared.Line.{Line}
use Rattle.rules.specs.declared.Standing.{Standing}
use Rattle.psn.specs.Psn.{psns, distance, plus}
use Rattle.rules.specs.Card.{Card}
use Rattle.rules.specs.Account.{Side, U, H, N, ahead}
use Rattle.rules.specs.declared.Outcome.{Outcome}
use Rattle.rules.specs.Outcome.{ended_standing}
use Rattle.rules.specs.declared.Release.{Release}
use Rattle.rules.specs.Release.{release, passed_by, advanced}
use Rattle.rules.specs.Acknowledge.{inside, back_to_u, ack, rnr, waits, acknowledge}
use Rattle.rules.specs.Response.{response}
use Rattle.rules.specs.Timer.{timer, timeout_of}
use Rattle.rules.specs.Audit.{Bounded, Timed, longest_hold}
use Rattle.rules.proofs.Sides.InOrder.{InOrder}
use Rattle.psn.proofs.Laws.{distance-step, distance-same}
use Rattle.rules.proofs.Sides.Response.{clear}

pub record Lows (l : Line) : Type 0 where
  pub u-low : l.u < psns
  pub x-low : l.x < psns
  pub h-low : l.h < psns
  pub n-low : l.n < psns

-- what a rule leaves of counts, times and PSNs, beside the order
pub record Timely (st : Settings) (t : Standing) : Type 0 where
  pub lows : t.state ≡ 2 → Lows t.line
  pub retries : t.clock.retries ≤ st.retry
  pub rnrs : t.clock.rnrs ≤ st.rnr
  pub hold : t.clock.hold ≤ longest_hold
  pub elapsed : t.clock.elapsed < timeout_of st
  pub still : t.line.u ≡ t.line.h → t.clock.elapsed ≡ 0
  pub on-hold : 0 < t.clock.hold → t.clock.elapsed ≡ 0
  pub untimed : st.timeout ≡ 0 → t.clock.elapsed ≡ 0

-- no time has run
calm : {st : Settings} {t : Standing} → (t.state ≡ 2 → Lows t.line) → t.clock.retries ≤ st.retry → t.clock.rnrs ≤ st.rnr → t.clock.hold ≤ longest_hold
    → t.clock.elapsed ≡ 0 → Timely st t
calm {st} l r n h e =
    record { lows = l; retries = r; rnrs = n; hold = h; elapsed = omega (arith, pow_pos st.timeout); still = λ _. e; on-hold = λ _. e; untimed = λ _. e }

-- a release leaves counts within their settings, the hold and N
record Counts (s : Side) (t : Standing) : Type 0 where
  state : t.state ≡ s.standing.state
  retries : t.clock.retries ≤ s.standing.settings.retry
  rnrs : t.clock.rnrs ≤ s.standing.settings.rnr
  hold : t.clock.hold ≡ s.standing.clock.hold
  n : t.line.n ≡ N s

module _ (card : Card) (s : Side) (ready : s.standing.state ≡ 1) (f : Bounded card s) (o : InOrder s) (w : Timed s) where
  abbrev pub st : Settings
  st = s.standing.settings

  alive : {l : Line} (x : ℕ) → x ≡ s.standing.state → x ≡ 2 → Lows l
  alive x e g = absurd (omega arith)

  counts-at : (a : ℕ) → Counts s (advanced a s.standing)
  counts-at a =
      by-test (eqb a (U s))
      (λ e. rw e (record { state = refl; retries = f.retries; rnrs = f.rnrs; hold = refl; n = refl }))
      (λ e. rw e (record { state = refl; retries = omega arith; rnrs = omega arith; hold = refl; n = refl }))

  counts : (b : ℕ) → Counts s (release b s).standing
  unfolding release
  counts b =
      if-case (λ (g : Release). Counts s g.standing) (ltb (ahead (passed_by b s.standing) s.packets) (length s.packets)) (λ _. counts-at _) (λ _. counts-at b)

  same : Timely st s.standing
  same =
      record {
        lows = alive _ refl;
        retries = f.retries;
        rnrs = f.rnrs;
        hold = w.hold;
        elapsed = w.elapsed;
        still = w.still;
        on-hold = w.on-hold;
        untimed = w.untimed;
      }

  -- X back at U, elapsed 0
  back : (b rnrs hold : ℕ) → rnrs ≤ st.rnr → hold ≤ longest_hold → Timely st (back_to_u (release b s).standing.clock.retries rnrs hold (release b s).standing)
  back b n h l m = let c = counts b in calm (alive _ c.state) c.retries l m refl

  as-was : (b : ℕ) → Timely st (back_to_u (release b s).standing.clock.retries (release b s).standing.clock.rnrs (release b s).standing.clock.hold (release b s).standing)
  as-was b = let c = counts b in back b _ _ c.rnrs (omega (arith, c.hold, w.hold))

  finished : (b : ℕ) → Timely st (ended_standing (release b s).standing)
  finished b =
      let c = counts b in
      let low = f.n-low in
      calm (λ _. record { u-low = omega (arith, c.n); x-low = omega (arith, c.n); h-low = omega (arith, c.n); n-low = omega (arith, c.n) })
      c.retries c.rnrs (omega arith) refl

  module _ (r : ℕ) (low : r < psns) (h : inside r s ≡ true) where
    moved : eqb (plus r 1) (U s) ≡ false
    moved =
        ne_eqb (plus r 1) (U s) (λ e.
        let c = ltb-true (distance (U s) r) (distance (U s) (H s)) h in
        omega (arith, c, o.u-h-n, o.near, distance-step (U s) r 1 (omega (arith, c, o.u-h-n, o.near)), ap (distance (U s)) e, distance-same (U s)))

    timely-ack : Timely st (ack (release (plus r 1) s)).standing
    timely-ack =
        if-case (λ (x : Outcome). Timely st x.standing) (release (plus r 1) s).stopped
        (λ _. as-was (plus r 1))
        (λ e. rw (clear (plus r 1) s e).standing (rw moved (calm (alive _ refl) (omega arith) (omega arith) w.hold refl)))

    timely-rnr : (wait : ℕ) → wait ≤ longest_hold → Timely st (rnr st wait (length s.packets) (release r s)).standing
    timely-rnr wait l =
        if-case (λ (x : Outcome). Timely st x.standing) (ltb st.rnr 7 && eqb (release r s).standing.clock.rnrs 0)
        (λ _. finished r)
        (λ _. back r _ wait (if-case (λ (n : ℕ). n ≤ st.rnr) (ltb st.rnr 7) (λ _. omega (arith, (counts r).rnrs)) (λ _. (counts r).rnrs)) l)

  wait-most : (low : ℕ) → 10000 * get_or waits low 0 ≤ longest_hold
  wait-most low = omega (arith, most waits low (omega arith))
    where
      Most : List ℕ → Type 0
      Most [] = Unit {0}
      Most (x ∷ l) = (x ≤ 65536) × Most l

      most : (l : List ℕ) (i : ℕ) → Most l → get_or l i 0 ≤ 65536
      most [] i h = omega arith
      most (x ∷ l) zero h = h.0
      most (x ∷ l) (suc i) h = most l i h.1

  pub timely-acknowledge : (r y : ℕ) → r < psns → Timely st (acknowledge r y s).standing
  unfolding acknowledge
  timely-acknowledge r y low =
      if-case (λ (x : Outcome). Timely st x.standing) (not (inside r s)) (λ _. same) (λ e.
      let h = not-false (inside r s) e in
      if-case (λ (x : Outcome). Timely st x.standing) (eqb (y / 32) 0) (λ _. timely-ack r low h) (λ _.
      if-case (λ (x : Outcome). Timely st x.standing) (eqb (y / 32) 1) (λ _. timely-rnr r low h _ (wait-most (y % 32))) (λ _.
      if-case (λ (x : Outcome). Timely st x.standing) (leb (y % 32) 2) (λ _. as-was r) (λ _. finished r))))

  pub timely-response : (r : ℕ) → r < psns → Timely st (response r s).standing
  unfolding response
  timely-response r low =
      if-case (λ (x : Outcome). Timely st x.standing) (not (inside r s)) (λ _. same) (λ e.
      if-case (λ (x : Outcome). Timely st x.standing) (release r s).stopped
      (λ _. as-was r)
      (λ q.
      rw (clear r s q).standing
      (calm (alive _ refl) (omega arith) (omega arith) (omega (arith, (counts-at r).hold, w.hold)) refl)))

  pub timely-timer : (e : ℕ) → Timely st (timer e s).standing
  unfolding timer
  timely-timer e =
      if-case (λ (x : Outcome). Timely st x.standing) (ltb 0 s.standing.clock.hold)
      (λ h.
      let z = w.on-hold (ltb-true 0 s.standing.clock.hold h) in
      if-case (λ (x : Outcome). Timely st x.standing) (leb s.standing.clock.hold e)
      (λ _. calm (alive _ refl) f.retries f.rnrs (omega arith) z)
      (λ _. calm (alive _ refl) f.retries f.rnrs (omega (arith, w.hold)) z)) (λ h.
      if-case (λ (x : Outcome). Timely st x.standing) (eqb (U s) (H s) || eqb st.timeout 0) (λ _. same) (λ q.
      if-case (λ (x : Outcome). Timely st x.standing) (ltb (s.standing.clock.elapsed + e) (timeout_of st))
      (λ l. record {
        lows = alive _ refl;
        retries = f.retries;
        rnrs = f.rnrs;
        hold = w.hold;
        elapsed = ltb-true (s.standing.clock.elapsed + e) (timeout_of st) l;
        still = λ g. absurd (eqb-false (U s) (H s) (or_left (eqb (U s) (H s)) _ q) g);
        on-hold = λ g. absurd (omega (arith, ltb-false 0 s.standing.clock.hold h));
        untimed = λ g. absurd (eqb-false st.timeout 0 (or_right (eqb (U s) (H s)) _ q) g);
      }) (λ _.
      if-case (λ (x : Outcome). Timely st x.standing) (eqb s.standing.clock.retries 0)
      (λ _. calm (λ _. record { u-low = f.n-low; x-low = f.n-low; h-low = f.n-low; n-low = f.n-low }) f.retries f.rnrs (omega arith) refl)
      (λ _. calm (alive _ refl) (omega (arith, f.retries)) f.rnrs w.hold refl))))
