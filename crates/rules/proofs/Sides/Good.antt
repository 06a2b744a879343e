-- What the audit asks of one pair's side, and that every request keeps it.
use mathlib.Core.Path.{◌≡◌, refl, sym, ap, ◌∙◌}
use mathlib.Core.Bool.{true, false, ◌&&◌, true≢false}
use mathlib.Core.List.{List, [], ◌∷◌}
use Prim.Native.Nat.{ℕ, zero, suc, ◌+◌, ◌-◌, ◌/◌, ◌≤◌, ◌<◌, max}
use native.Mathlib.Omega.{arith}
use native.Mathlib.Nat.{div-lt_iff_lt-mul}
use lib.Pow.{pow_pos, pow_mono}
use lib.Dec.{eqb}
use borrow.Author.Tests.{ltb-true, eqb-false, ne_eqb}
use lib.ListN.{length, drop, length-drop, length-append, length-map}
use Rattle.refusal.specs.Choice.{Each}
use Rattle.refusal.proofs.Each.{each_append, each-drop, each_at, each_map}
use Rattle.refusal.proofs.Cases.{by-test, if-case, or_left}
use Rattle.rules.specs.declared.Packet.{Packet}
use Rattle.rules.specs.declared.Settings.{Settings}
use Rattle.rules.specs.declared.Post.{Post}
use Rattle.psn.specs.Psn.{psns, half, distance, before}
use Rattle.rules.specs.Card.{Card}
use Rattle.rules.specs.Account.{Side, no_side, U, H, N, ahead, no_packet, further}
use Rattle.rules.specs.Message.{is_read, span, pmtu, packets_for, from, packet_at, packets_of, slots_for}
use Rattle.rules.specs.Ranges.{bad_settings}
use Rattle.rules.specs.Posting.{posted}
use Rattle.rules.specs.Emission.{emitted}
use Rattle.rules.specs.declared.Outcome.{Outcome}
use Rattle.rules.specs.Outcome.{opened}
use Rattle.rules.specs.Acknowledge.{inside, acknowledge}
use Rattle.rules.specs.Response.{covers, read_at, unfit, response}
use Rattle.rules.specs.Timer.{timer}
use Rattle.rules.specs.Pool.{claim_of}
use Rattle.rules.specs.Order.{◌or◌, left, right}
use Rattle.rules.specs.WholeMessages.{Allowed, Remaining, none_left}
use Rattle.rules.specs.Audit.{Bounded, Timed}
use Rattle.rules.proofs.Sides.After.{after}
use Rattle.rules.proofs.Sides.InOrder.{InOrder}
use Rattle.psn.proofs.Laws.{distance-same}
use Rattle.rules.proofs.Ranges.{in-range, permitted}
use Rattle.rules.proofs.Sides.Order.{ahead-most, packets-pos}
use Rattle.rules.proofs.Sides.Posted.{no_read, ordered-posted}
use Rattle.rules.proofs.Sides.Messages.{held-drop, held_post, remaining-each}
use Rattle.rules.proofs.Sides.Acknowledge.{Fine, fine-acknowledge}
use Rattle.rules.proofs.Sides.Response.{fine-response}
use Rattle.rules.proofs.Sides.Timer.{fine-timer}
use Rattle.rules.proofs.Sides.Emitted.{ordered-emitted}
use Rattle.rules.proofs.Sides.Times.{Lows, Timely, timely-acknowledge, timely-response, timely-timer}

abbrev Low : Packet → Type 0
Low p = p.psn < psns

-- a read's length is its post's
abbrev Short : Packet → Type 0
Short p = is_read p ≡ true → p.length < 2147483648

-- ---- the packets of a post

pub length_from : (a n : ℕ) → length (from a n) ≡ n
length_from a zero = refl
length_from a (suc n) = ap suc (length_from (suc a) n)

module _ (s : Settings) (m : Post) (a : ℕ) where
  pub length-packets : length (packets_of s m a) ≡ slots_for s m
  unfolding packets_of
  length-packets =
      by-test (eqb m.kind 2)
      (λ e. rw e)
      (λ e. rw e (length-map (from 0 (packets_for (pmtu s) m.length)) (packet_at s m a) ∙ length_from 0 (packets_for (pmtu s) m.length)))

  pub slots-pos : 1 ≤ slots_for s m
  slots-pos = if-case (λ (n : ℕ). 1 ≤ n) (eqb m.kind 2) (λ _. omega arith) (λ _. packets-pos s m.length)

  packets-low : a < psns → Each Low (packets_of s m a)
  unfolding packets_of
  packets-low h =
      if-case (Each Low) (eqb m.kind 2) (λ _. (h, tt)) (λ _. each_map Low (packet_at s m a) (from 0 (packets_for (pmtu s) m.length)) (λ i. omega arith))

  packets-short : m.kind ≤ 2 → m.length < 2147483648 → Each Short (packets_of s m a)
  unfolding packets_of
  packets-short k l =
      if-case (Each Short) (eqb m.kind 2)
      (λ _. ((λ _. l), tt))
      (λ e. each_map Short (packet_at s m a) (from 0 (packets_for (pmtu s) m.length))
      (λ i q. absurd (true≢false (sym q ∙ no_read m (packets_for (pmtu s) m.length) i (omega (arith, eqb-false m.kind 2 e))))))

held-short : (s : Settings) {ps : List Packet} → Remaining s ps → Each Short ps
held-short s = remaining-each s Short (λ m a f. packets-short s m a (permitted f).kind (permitted f).short)

-- a read's PSNs are at most 8,388,608
span_small : (s : Settings) → 1 ≤ s.pmtu → (p : Packet) → Short p → span s p ≤ suc half
span_small s one p short =
    if-case (λ (n : ℕ). n ≤ suc half) (is_read p)
    (λ e. if-case (λ (n : ℕ). n ≤ suc half) (eqb p.length 0) (λ _. omega arith)
    (λ _.
    let big : 256 ≤ pmtu s = pow_mono {i = 8} {j = 7 + s.pmtu} (omega arith) in
    let l = short e in
    let q : (p.length + (pmtu s - 1)) / pmtu s < 8388609 = (div-lt_iff_lt-mul (pow_pos (7 + s.pmtu))).1 (omega arith) in
    omega arith))
    (λ _. omega arith)

pub spans-small : (s : Settings) → 1 ≤ s.pmtu → {ps : List Packet} → Remaining s ps → Each (λ p. span s p ≤ suc half) ps
spans-small s one {ps} h = all ps (held-short s h)
  where
    all : (ps : List Packet) → Each Short ps → Each (λ p. span s p ≤ suc half) ps
    all [] e = tt
    all (p ∷ ps) e = (span_small s one p e.0, all ps e.1)

-- ---- a side in order

pub record Good (card : Card) (s : Side) : Type 0 where
  pub state : s.standing.state ≤ 2
  pub idle : (s.standing.state ≡ 1 → ⊥) → length s.packets ≡ 0
  pub bounded : 0 < s.standing.state → Bounded card s
  pub ordered : s.standing.state ≡ 1 → InOrder s
  pub messages : Remaining s.standing.settings s.packets
  pub timed : s.standing.state ≡ 1 → Timed s

-- what a pair claims of the pool
abbrev pub weight : Side → ℕ
weight s = max (claim_of s).share (claim_of s).held

pub claim-open : (s : Side) → 0 < s.standing.state → claim_of s ≡ record { share = s.standing.settings.share; held = length s.packets }
claim-open s h = rw (ne_eqb s.standing.state 0 (λ e. omega arith))

-- a side that follows another: in order, and claiming no more
pub record Follows (card : Card) (s t : Side) : Type 0 where
  pub good : Good card t
  pub less : weight t ≤ weight s

module _ (card : Card) where
  -- a closed pair
  pub good-closed : Good card no_side
  good-closed =
      record {
        state = omega arith;
        idle = λ _. refl;
        bounded = λ h. absurd (omega arith);
        ordered = λ e. absurd (omega arith);
        messages = none_left;
        timed = λ e. absurd (omega arith);
      }

  -- a pair just opened
  pub good-opened : (st : Settings) (a : ℕ) → bad_settings card st ≡ false → a < psns → Good card (record { standing = opened st a; packets = [] })
  good-opened st a r low =
      record {
        state = omega arith;
        idle = λ _. refl;
        bounded = λ _. record {
          settings = r;
          u-low = low;
          x-low = low;
          h-low = low;
          n-low = low;
          packets-low = tt;
          retries = omega arith;
          rnrs = omega arith;
          held = omega arith;
        };
        ordered = λ _. record {
          u-low = low;
          x-low = low;
          h-low = low;
          n-low = low;
          starts = sym (distance-same a);
          u-x-h = omega arith;
          u-h-n = omega arith;
          near = omega (arith, distance-same a);
          x-stands = left refl;
          h-stands = left refl;
          h-past = tt;
        };
        messages = none_left;
        timed = λ _. record { hold = omega arith; elapsed = omega (arith, pow_pos st.timeout); still = λ _. refl; on-hold = λ _. refl; untimed = λ _. refl };
      }

  module _ (s : Side) (g : Good card s) (ready : s.standing.state ≡ 1) where
    f : Bounded card s
    f = g.bounded (omega arith)

    -- an event's outcome
    good-after : (o : Outcome) → Fine s o → Timely s.standing.settings o.standing → Follows card s (after o s)
    good-after o h w =
        record {
          good = by h.fate;
          less =
              rw (claim-open s (omega arith), claim-open (after o s) (some h.fate), h.settings)
              (omega (arith, length-drop (o.released + o.flushed) s.packets));
        }
      where
        some : ((o.standing.state ≡ 1) × InOrder (after o s)) or ((o.standing.state ≡ 2) × (length s.packets ≤ o.released + o.flushed)) → 0 < o.standing.state
        some (left x) = omega (arith, x.0)
        some (right x) = omega (arith, x.0)

        k : ℕ
        k = o.released + o.flushed

        held : Remaining o.standing.settings (drop k s.packets)
        held = rw h.settings (held-drop s.standing.settings g.messages k)

        fair : Lows o.standing.line → Bounded card (after o s)
        fair l =
            record {
              settings = rw h.settings f.settings;
              u-low = l.u-low;
              x-low = l.x-low;
              h-low = l.h-low;
              n-low = l.n-low;
              packets-low = each-drop Low k s.packets f.packets-low;
              retries = rw h.settings w.retries;
              rnrs = rw h.settings w.rnrs;
              held = rw h.settings (omega (arith, length-drop k s.packets, f.held));
            }

        timed : Timed (after o s)
        timed =
            record {
              hold = w.hold;
              elapsed = rw h.settings w.elapsed;
              still = w.still;
              on-hold = w.on-hold;
              untimed = rw h.settings w.untimed;
            }

        by : ((o.standing.state ≡ 1) × InOrder (after o s)) or ((o.standing.state ≡ 2) × (length s.packets ≤ k)) → Good card (after o s)
        by (left x) =
            record {
              state = omega (arith, x.0);
              idle = λ n. absurd (n x.0);
              bounded = λ _. fair (record { u-low = x.1.u-low; x-low = x.1.x-low; h-low = x.1.h-low; n-low = x.1.n-low });
              ordered = λ _. x.1;
              messages = held;
              timed = λ _. timed;
            }
        by (right x) =
            record {
              state = omega (arith, x.0);
              idle = λ _. omega (arith, length-drop k s.packets, x.1);
              bounded = λ _. fair (w.lows x.0);
              ordered = λ e. absurd (omega (arith, x.0, e));
              messages = held;
              timed = λ e. absurd (omega (arith, x.0, e));
            }

    pub good-acknowledge : (r y : ℕ) → r < psns → Follows card s (after (acknowledge r y s) s)
    good-acknowledge r y low =
        good-after (acknowledge r y s) (fine-acknowledge s ready (g.ordered ready) r y low) (timely-acknowledge card s ready f (g.ordered ready) (g.timed ready) r y low)

    pub good-timer : (e : ℕ) → Follows card s (after (timer e s) s)
    good-timer e = good-after (timer e s) (fine-timer s ready (g.ordered ready) e) (timely-timer card s ready f (g.ordered ready) (g.timed ready) e)

    -- a response that fits
    pub good-response : (r opcode len : ℕ) → r < psns → inside r s && unfit r opcode len s ≡ false → Follows card s (after (response r s) s)
    good-response r opcode len low fits =
        good-after (response r s)
        (fine-response s ready (g.ordered ready) r low (λ h.
        let u : unfit r opcode len s ≡ false = rw h at fits in
        let one = covered (or_left _ _ u) in
        (one, span_small s.standing.settings (in-range f.settings).pmtu-low (read_at r s) (each_at Short s.packets _ no_packet (held-short s.standing.settings g.messages) one))))
        (timely-response card s ready f (g.ordered ready) (g.timed ready) r low)
      where
        covered : eqb (ahead (covers s.standing.settings r) s.packets) (length s.packets) ≡ false
            → ahead (covers s.standing.settings r) s.packets < length s.packets
        covered e =
            omega (arith, eqb-false (ahead (covers s.standing.settings r) s.packets) (length s.packets) e, ahead-most (covers s.standing.settings r) s.packets)

    -- an emission moves X and H alone
    still_after : (y : ℕ) → U s ≡ further (U s) (H s) y → s.standing.clock.elapsed ≡ 0
    still_after y e =
        by-test (before (U s) (H s) y)
        (λ q. absurd (omega (arith, ltb-true (distance (U s) (H s)) (distance (U s) y) q, distance-same (U s), ap (distance (U s)) (rw q at e))))
        (λ q. (g.timed ready).still (rw q at e))

    pub good-emitted : (budget : ℕ) → Follows card s (emitted budget s)
    unfolding emitted
    good-emitted budget =
        let o = ordered-emitted s (g.ordered ready) budget in
        let w = g.timed ready in
        record {
          less = omega arith;
          good = record {
            state = omega (arith, ready);
            idle = λ n. absurd (n ready);
            bounded = λ _. record {
              settings = f.settings;
              u-low = f.u-low;
              x-low = o.x-low;
              h-low = o.h-low;
              n-low = f.n-low;
              packets-low = f.packets-low;
              retries = f.retries;
              rnrs = f.rnrs;
              held = f.held;
            };
            ordered = λ _. o;
            messages = g.messages;
            timed = λ _. record { hold = w.hold; elapsed = w.elapsed; still = still_after _; on-hold = w.on-hold; untimed = w.untimed };
          };
        }

    -- a post that is not refused
    pub good-posted : (m : Post) → Allowed s.standing.settings m
        → distance (U s) (N s) + packets_for (pmtu s.standing.settings) m.length ≤ half
        → length s.packets + slots_for s.standing.settings m ≤ s.standing.settings.ceiling
        → Good card (posted m s)
    unfolding posted
    good-posted m ok near room =
        let o = ordered-posted s (g.ordered ready) m (permitted ok).kind near in
        let w = g.timed ready in
        let st = s.standing.settings in
        let n = N s in
        record {
          state = omega (arith, ready);
          idle = λ k. absurd (k ready);
          bounded = λ _. record {
            settings = f.settings;
            u-low = f.u-low;
            x-low = f.x-low;
            h-low = f.h-low;
            n-low = o.n-low;
            packets-low = each_append Low s.packets (packets_of st m n) f.packets-low (packets-low st m n f.n-low);
            retries = f.retries;
            rnrs = f.rnrs;
            held = omega (arith, length-append s.packets (packets_of st m n), length-packets st m n);
          };
          ordered = λ _. o;
          messages = held_post st m n ok (omega (arith, length-packets st m n, slots-pos st m n)) g.messages;
          timed = λ _. record { hold = w.hold; elapsed = w.elapsed; still = w.still; on-hold = w.on-hold; untimed = w.untimed };
        }
