-- The second error of the trade, shut out: every rule does the same to a side all of whose PSNs are turned k places.
use Rattle.std.specs.Prelude.{if◌then◌else◌}
use mathlib.Core.Path.{◌≡◌, refl, sym, ap, ap₂, ◌∙◌}
use mathlib.Core.Bool.{Bool, true, false, not, ◌&&◌, ◌||◌}
use mathlib.Core.List.{List, map, map-append}
use Prim.Native.Nat.{ℕ, ◌+◌, ◌/◌, ◌%◌, ◌<◌, min}
use native.Mathlib.Omega.{arith}
use lib.Dec.{ltb, leb, eqb}
use lib.ListN.{length, get_or, take, drop, length-map}
use borrow.Author.Tests.{ltb-true, eqb-false, not-false}
use Rattle.psn.specs.Psn.{psns, distance, plus, next, before}
use Rattle.psn.proofs.Laws.{plus-below}
use Rattle.refusal.specs.Choice.{Each}
use Rattle.refusal.proofs.Cases.{by-test, if-case, or_left}
use Rattle.refusal.proofs.Each.{each_at}
use Rattle.rules.specs.declared.Packet.{Packet}
use Rattle.rules.specs.declared.Settings.{Settings}
use Rattle.rules.specs.declared.Clock.{Clock}
use Rattle.rules.specs.declared.Post.{Post}
use Rattle.rules.specs.declared.Answer.TheVariants.{Done}
use Rattle.rules.specs.Card.{Card}
use Rattle.rules.specs.Account.{Side, U, X, H, N, updated, no_packet, ahead, further}
use Rattle.rules.specs.Message.{span, psns_for, packets_of, unanswered}
use Rattle.rules.specs.Posting.{posted}
use Rattle.rules.specs.Emission.{ends, waiting, going, outgoing, ends_at, emitted}
use Rattle.rules.specs.declared.Release.{Release}
use Rattle.rules.specs.Release.{advanced, passed_by, release}
use Rattle.rules.specs.Acknowledge.{inside, resending, ack, ended_after, rnr, wait_of, acknowledge}
use Rattle.rules.specs.Response.{covers, read_at, at_last, unfit, taken, response}
use Rattle.rules.specs.Timer.{timeout_of, timer}
use Rattle.rules.specs.Slots.{side}
use Rattle.rules.specs.Audit.{Bounded}
use Rattle.rules.specs.Errors.{turned_packet, turned_standing, turned, turned_outcome, TurnsRound, AnyTurn}
use Rattle.rules.proofs.Slots.Lists.{map-drop, map-take}
use Rattle.rules.proofs.Sides.Order.{ahead-most}
use Rattle.rules.proofs.Errors.Turning.{
  if-turned,
  ahead-map,
  get_d_map,
  distance-turned,
  plus-swap,
  eqb-turned,
  before-turned,
  further-turned,
  ends_turned,
  ends-at-turned,
  unanswered-turned,
  passed-turned,
  covers-turned,
  advanced-turned,
  taken-turned,
  packets-turned,
}

-- all PSNs of a side are below 2^24
pub record Low (s : Side) : Type 0 where
  pub u-low : U s < psns
  pub x-low : X s < psns
  pub h-low : H s < psns
  pub n-low : N s < psns
  pub packets-low : Each (λ (p : Packet). p.psn < psns) s.packets

abbrev turned_release : ℕ → Release → Release
turned_release k g = record { stopped = g.stopped; released = g.released; standing = turned_standing k g.standing }

module _ (k : ℕ) (s : Side) where
  -- ---- posting and emitting

  posted-turned : (m : Post) → posted m (turned k s) ≡ turned k (posted m s)
  unfolding posted
  posted-turned m =
      rw (
        plus-swap k (N s) (psns_for s.standing.settings m),
        packets-turned k s.standing.settings m (N s),
        map-append (turned_packet k) s.packets (packets_of s.standing.settings m (N s)),
      )

  waiting_turned : waiting (turned k s) ≡ map (turned_packet k) (waiting s)
  waiting_turned =
      ap (λ (n : ℕ). drop n (turned k s).packets)
      (ahead-map (turned_packet k) _ after turns s.packets)
      ∙ sym (map-drop (turned_packet k) (ahead after s.packets) s.packets)
    where
      st : Settings
      st = s.standing.settings

      after : Packet → Bool
      after p = before (U s) (X s) (ends st p)

      turns : (p : Packet) → before (plus (U s) k) (plus (X s) k) (ends st (turned_packet k p)) ≡ after p
      turns p = ap (before (plus (U s) k) (plus (X s) k)) (ends_turned k st p) ∙ before-turned k (U s) (X s) (ends st p)

  -- the same packets go out
  pub outgoing-turned : (budget : ℕ) → outgoing budget (turned k s) ≡ map (turned_packet k) (outgoing budget s)
  outgoing-turned budget =
      ap (λ (ps : List Packet). take (if ltb 0 s.standing.clock.hold then 0 else min budget (length ps)) ps) waiting_turned
      ∙ ap (λ (n : ℕ). take (if ltb 0 s.standing.clock.hold then 0 else min budget n) (map (turned_packet k) (waiting s)))
      (length-map (waiting s) (turned_packet k))
      ∙ map-take (turned_packet k) (going budget s) (waiting s)

  emitted-turned : (budget : ℕ) → emitted budget (turned k s) ≡ turned k (emitted budget s)
  unfolding emitted
  emitted-turned budget =
      ap (λ (y : ℕ). at y (further (plus (U s) k) (plus (H s) k) y)) x
      ∙ ap (at (plus (ends_at s.standing.settings (X s) (outgoing budget s)) k)) (further-turned k (U s) (H s) _)
    where
      at : ℕ → ℕ → Side
      at y h =
          record {
            standing = updated (record { u = plus (U s) k; x = y; h = h; n = plus (N s) k }) s.standing.clock s.standing;
            packets = map (turned_packet k) s.packets;
          }

      x : ends_at s.standing.settings (plus (X s) k) (outgoing budget (turned k s)) ≡ plus (ends_at s.standing.settings (X s) (outgoing budget s)) k
      x = ap (ends_at s.standing.settings (plus (X s) k)) (outgoing-turned budget) ∙ ends-at-turned k s.standing.settings (X s) (outgoing budget s)

  inside-turned : (r : ℕ) → inside (plus r k) (turned k s) ≡ inside r s
  inside-turned r = ap₂ ltb (distance-turned k (U s) r) (distance-turned k (U s) (H s))

  count-turned : length (turned k s).packets ≡ length s.packets
  count-turned = length-map s.packets (turned_packet k)

  module _ (low : Low s) where
    -- ---- release

    unanswered-low : (p : Packet) → p.psn < psns → unanswered s.standing p < psns
    unanswered-low p l = if-case (λ (a : ℕ). a < psns) (ltb (distance p.psn (U s)) (span s.standing.settings p)) (λ _. low.u-low) (λ _. l)

    stop-turned : (i : ℕ) → i < length s.packets
        → advanced (unanswered (turned k s).standing (get_or (turned k s).packets i no_packet)) (turned k s).standing
        ≡ turned_standing k (advanced (unanswered s.standing (get_or s.packets i no_packet)) s.standing)
    stop-turned i h =
        rw (get_d_map (turned_packet k) no_packet no_packet s.packets i h, unanswered-turned k s.standing p)
        (advanced-turned k (unanswered s.standing p) s.standing (unanswered-low p (each_at Below s.packets i no_packet low.packets-low h)) low.u-low)
      where
        p : Packet
        p = get_or s.packets i no_packet

        Below : Packet → Type 0
        Below q = q.psn < psns

    release-turned : (b : ℕ) → b < psns → release (plus b k) (turned k s) ≡ turned_release k (release b s)
    unfolding release
    release-turned b l =
        rw (
          ahead-map (turned_packet k) (passed_by (plus b k) (turned k s).standing) (passed_by b s.standing) (passed-turned k b s.standing) s.packets,
          ahead-map (turned_packet k) (λ p. not (before (plus (U s) k) p.psn (plus b k))) at_or_after (λ p. ap not (before-turned k (U s) p.psn b)) s.packets,
          count-turned,
        )
        (if-turned (turned_release k) (ltb reads (length s.packets)) refl
        (λ e i. record { stopped = true; released = reads; standing = stop-turned reads (ltb-true reads (length s.packets) e) i })
        (λ e i. record { stopped = false; released = ahead at_or_after s.packets; standing = advanced-turned k b s.standing l low.u-low i }))
      where
        reads : ℕ
        reads = ahead (passed_by b s.standing) s.packets

        at_or_after : Packet → Bool
        at_or_after p = not (before (U s) p.psn b)

    next-turned : (r : ℕ) → release (next (plus r k)) (turned k s) ≡ turned_release k (release (next r) s)
    next-turned r = ap (λ (b : ℕ). release b (turned k s)) (plus-swap k r 1) ∙ release-turned (next r) (plus-below r 1)

    -- ---- answers and timers

    ack-turned : (r : ℕ) → ack (release (next (plus r k)) (turned k s)) ≡ turned_outcome k (ack (release (next r) s))
    ack-turned r = rw (next-turned r) (if-turned (turned_outcome k) (release (next r) s).stopped refl (λ _. refl) (λ _. refl))

    -- a place where some read covers r is inside the list
    found_at : (r : ℕ) → eqb (ahead (covers s.standing.settings r) s.packets) (length s.packets) ≡ false
        → ahead (covers s.standing.settings r) s.packets < length s.packets
    found_at r e =
        omega (
          arith,
          eqb-false (ahead (covers s.standing.settings r) s.packets) (length s.packets) e,
          ahead-most (covers s.standing.settings r) s.packets,
        )

    module _ (r : ℕ) (l : r < psns) where
      nak-turned : resending (release (plus r k) (turned k s)) ≡ turned_outcome k (resending (release r s))
      nak-turned = ap resending (release-turned r l)

      final-turned : ended_after (length (turned k s).packets) (release (plus r k) (turned k s)) ≡ turned_outcome k (ended_after (length s.packets) (release r s))
      final-turned = rw (release-turned r l, count-turned)

      rnr-turned : (wait : ℕ) → rnr s.standing.settings wait (length (turned k s).packets) (release (plus r k) (turned k s)) ≡ turned_outcome k (rnr s.standing.settings wait (length s.packets) (release r s))
      rnr-turned wait =
          rw (release-turned r l, count-turned)
          (if-turned (turned_outcome k) (ltb s.standing.settings.rnr 7 && eqb (release r s).standing.clock.rnrs 0) refl (λ _. refl) (λ _. refl))

      acknowledge-turned : (syndrome : ℕ) → acknowledge (plus r k) syndrome (turned k s) ≡ turned_outcome k (acknowledge r syndrome s)
      unfolding acknowledge
      acknowledge-turned y =
          if-turned (turned_outcome k) (not (inside r s)) (ap not (inside-turned r)) (λ _. refl) (λ _.
          if-turned (turned_outcome k) (eqb (y / 32) 0) refl (λ _. ack-turned r) (λ _.
          if-turned (turned_outcome k) (eqb (y / 32) 1) refl (λ _. rnr-turned (wait_of (y % 32))) (λ _.
          if-turned (turned_outcome k) (leb (y % 32) 2) refl (λ _. nak-turned) (λ _. final-turned))))

      module _ (found : ahead (covers s.standing.settings r) s.packets < length s.packets) where
        read-turned : read_at (plus r k) (turned k s) ≡ turned_packet k (read_at r s)
        read-turned =
            ap (λ (i : ℕ). get_or (turned k s).packets i no_packet)
            (ahead-map (turned_packet k) _ (covers s.standing.settings r) (covers-turned k s.standing.settings r) s.packets)
            ∙ get_d_map (turned_packet k) no_packet no_packet s.packets _ found

        last-turned : at_last s.standing.settings (plus r k) (read_at (plus r k) (turned k s)) ≡ at_last s.standing.settings r (read_at r s)
        last-turned = rw (read-turned, distance-turned k (read_at r s).psn r)

      same_place : ahead (covers s.standing.settings (plus r k)) (turned k s).packets ≡ ahead (covers s.standing.settings r) s.packets
      same_place = ahead-map (turned_packet k) _ (covers s.standing.settings r) (covers-turned k s.standing.settings r) s.packets

      unfit-turned : (opcode len : ℕ) → unfit (plus r k) opcode len (turned k s) ≡ unfit r opcode len s
      unfit-turned opcode len =
          by-test (eqb (ahead (covers s.standing.settings r) s.packets) (length s.packets))
          (λ e. rw (same_place, count-turned, e))
          (λ e.
          let h = found_at r e in
          rw (read-turned h, distance-turned k (read_at r s).psn r, same_place, count-turned))

      response-turned : (inside r s ≡ true → ahead (covers s.standing.settings r) s.packets < length s.packets)
          → response (plus r k) (turned k s) ≡ turned_outcome k (response r s)
      unfolding response
      response-turned h =
          if-turned (turned_outcome k) (not (inside r s)) (ap not (inside-turned r)) (λ _. refl) (λ e.
          if-turned (turned_outcome k) (release r s).stopped (ap (λ (g : Release). g.stopped) (release-turned r l)) (λ _. nak-turned) (λ _.
          λ i. record {
            answer = Done;
            released = (release-turned r l i).released + (if last-turned (h (not-false (inside r s) e)) i then 1 else 0);
            flushed = 0;
            standing = done i;
          }))
        where
          done : taken (plus (U s) k) (next (plus r k)) (release (plus r k) (turned k s)).standing
              ≡ turned_standing k (taken (U s) (next r) (release r s).standing)
          done =
              ap₂ (λ (a : ℕ) (g : Release). taken (plus (U s) k) a g.standing) (plus-swap k r 1) (release-turned r l)
              ∙ taken-turned k (U s) (next r) (release r s).standing

    timer-turned : (e : ℕ) → timer e (turned k s) ≡ turned_outcome k (timer e s)
    unfolding timer
    timer-turned e =
        if-turned (turned_outcome k) (ltb 0 c.hold) refl
        (λ _. if-turned (turned_outcome k) (leb c.hold e) refl (λ _. refl) (λ _. refl)) (λ _.
        if-turned (turned_outcome k) (eqb (U s) (H s) || untimed) (ap (λ (b : Bool). b || untimed) (eqb-turned k (U s) (H s) low.u-low low.h-low)) (λ _. refl) (λ _.
        if-turned (turned_outcome k) (ltb (c.elapsed + e) (timeout_of s.standing.settings)) refl (λ _. refl) (λ _.
        if-turned (turned_outcome k) (eqb c.retries 0) refl (λ _. rw count-turned) (λ _. refl))))
      where
        c : Clock
        c = s.standing.clock

        untimed : Bool
        untimed = eqb s.standing.settings.timeout 0

-- no rule compares PSNs as plain numbers
pub turns-round : (k : ℕ) (s : Side) → Low s → TurnsRound k s
turns-round k s low =
    record {
      post = posted-turned k s;
      emission = emitted-turned k s;
      acknowledgement = λ r syndrome l. acknowledge-turned k s low r l syndrome;
      read-response =
          λ r opcode len l fits. response-turned k s low r l (λ h. found_at k s low r (or_left _ _ (rw h at fits)));
      timer-step = timer-turned k s low;
      reach = distance-turned k (U s) (N s);
      unfitting = λ r opcode len l. ap₂ (λ (a b : Bool). a && b) (inside-turned k s r) (unfit-turned k s low r l opcode len);
    }

pub audited-turns : (card : Card) → AnyTurn card
audited-turns card t a p h o k = turns-round k (side t p) (low (a.bounded p h o))
  where
    low : Bounded card (side t p) → Low (side t p)
    low b = record { u-low = b.u-low; x-low = b.x-low; h-low = b.h-low; n-low = b.n-low; packets-low = b.packets-low }
