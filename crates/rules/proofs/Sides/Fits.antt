-- For code: what the sides say, read off the records; and that the sums of posting, emission and responses fit their fields.
use Rattle.std.specs.Prelude.{if◌then◌else◌}
use mathlib.Core.Path.{◌≡◌, refl, sym, ap, ◌∙◌}
use mathlib.Core.Bool.{true, true≢false}
use mathlib.Core.List.{List, [], ◌∷◌, map}
use Prim.Native.Nat.{ℕ, zero, suc, ◌+◌, ◌-◌, ◌*◌, ◌^◌, ◌≤◌, ◌<◌}
use native.Mathlib.Omega.{arith}
use native.Mathlib.Nat.{div-mul-le_self, mul-le-mul_right}
use lib.Pow.{pow_pos}
use lib.Dec.{eqb, ltb}
use borrow.Author.Tests.{ltb-true, eqb-true, eqb-false}
use lib.ListN.{length, length-map}
use Rattle.refusal.proofs.Cases.{by-test, if-case}
use Rattle.refusal.specs.Choice.{Each}
use Rattle.rules.specs.declared.Packet.{Packet}
use Rattle.rules.specs.declared.Settings.{Settings}
use Rattle.rules.specs.declared.Standing.{Standing}
use Rattle.rules.specs.declared.Pair.{Pair}
use Rattle.rules.specs.declared.Slot.{Slot}
use Rattle.rules.specs.declared.Post.{Post}
use Rattle.psn.specs.Psn.{distance}
use Rattle.wire.specs.Opcodes.{has_reth}
use Rattle.rules.specs.Message.{is_read, span, pmtu, packets_for, from, opcode_at, length_at, packet_at, packets_of, unanswered}
use Rattle.rules.specs.Slots.{Tables, slot_at, pair_at, spelled, side_of, side}
use Rattle.rules.specs.Pool.{Claim, claim_of, claims}
use Rattle.rules.specs.Order.{◌or◌, left, right}
use Rattle.rules.specs.WholeMessages.{Allowed, Remaining}
use Rattle.psn.proofs.Laws.{distance-same}
use Rattle.rules.proofs.Slots.Queues.{length-follow}
use Rattle.rules.proofs.Ranges.{Permitted, permitted}
use Rattle.rules.proofs.Sides.Messages.{remaining-each}
use Rattle.rules.proofs.Sides.Order.{span_pos}
use Rattle.rules.proofs.Sides.Posted.{no_read}

-- ---- the claims, off the pair records alone

abbrev pub claim_of_pair : Pair → Claim
claim_of_pair p =
    if eqb p.standing.state 0 then record { share = 0; held = 0 } else record { share = p.standing.settings.share; held = p.queue.held }

claim-of : (s : List Slot) (p : Pair) → claim_of (side_of s p) ≡ claim_of_pair p
unfolding side_of
claim-of s p =
    ap (λ (n : ℕ). if eqb p.standing.state 0 then record { share = 0; held = 0 } else record { share = p.standing.settings.share; held = n })
    (length-map (spelled s p.queue) (λ (i : ℕ). (slot_at s i).packet) ∙ length-follow s p.queue.first p.queue.held)

pub claims-of : (s : List Slot) (ps : List Pair) → claims (map (side_of s) ps) ≡ map claim_of_pair ps
claims-of s [] = refl
claims-of s (p ∷ ps) = λ i. claim-of s p i ∷ claims-of s ps i

pub held-is : (t : Tables) (p : ℕ) → length (side t p).packets ≡ (pair_at t.pairs p).queue.held
unfolding side side_of
held-is t p =
    length-map (spelled t.slots (pair_at t.pairs p).queue) (λ (i : ℕ). (slot_at t.slots i).packet)
    ∙ length-follow t.slots (pair_at t.pairs p).queue.first (pair_at t.pairs p).queue.held

-- ---- places in a message

-- the bytes ahead of place i are fewer than the message's, unless it has none
pub ahead_of : (mtu len i : ℕ) → 1 ≤ mtu → i < packets_for mtu len → (i * mtu < len) or ((i ≡ 0) × (len ≡ 0))
ahead_of mtu len i pos =
    if-case (λ (n : ℕ). i < n → (i * mtu < len) or ((i ≡ 0) × (len ≡ 0))) (eqb len 0)
    (λ e h. right (omega arith, eqb-true len 0 e))
    (λ e h. left (omega (arith, div-mul-le_self (len + (mtu - 1)) mtu, mul-le-mul_right mtu h, eqb-false len 0 e)))

-- ---- the packets of a post that is allowed

pub record Fits (p : Packet) : Type 0 where
  pub offset : p.offset < 2 ^ 32
  pub length : p.length < 2 ^ 31
  pub total : p.total < 2 ^ 31
  pub reach : is_read p ≡ true → p.offset + p.length ≤ 2 ^ 32
  pub far : is_read p ≡ true → 0 < p.length → p.address + p.length ≤ 2 ^ 64
  pub all : is_read p ≡ true → p.total ≡ p.length

each_from : (P : Packet → Type 0) (f : ℕ → Packet) (a n : ℕ) → ((i : ℕ) → i < a + n → P (f i)) → Each P (map f (from a n))
each_from P f a zero h = tt
each_from P f a (suc n) h = (h a (omega arith), each_from P f (suc a) n (λ i l. h i (omega arith)))

module _ (s : Settings) (m : Post) (first : ℕ) (ok : Allowed s m) where
  ok' : Permitted s m
  ok' = permitted ok

  mtu-pos : 1 ≤ pmtu s
  mtu-pos = pow_pos (7 + s.pmtu)

  packet-fits : m.kind ≤ 1 → (i : ℕ) → i < packets_for (pmtu s) m.length → Fits (packet_at s m first i)
  packet-fits k i h =
      record {
        offset = offset (ahead_of (pmtu s) m.length i mtu-pos h);
        length = size;
        total = if-case (λ (x : ℕ). x < 2 ^ 31) (has_reth (opcode_at m (packets_for (pmtu s) m.length) i)) (λ _. ok'.short) (λ _. omega arith);
        reach = λ e. absurd (true≢false (sym e ∙ no_read m (packets_for (pmtu s) m.length) i k));
        far = λ e. absurd (true≢false (sym e ∙ no_read m (packets_for (pmtu s) m.length) i k));
        all = λ e. absurd (true≢false (sym e ∙ no_read m (packets_for (pmtu s) m.length) i k));
      }
    where
      offset : (i * pmtu s < m.length) or ((i ≡ 0) × (m.length ≡ 0)) → m.offset + i * pmtu s < 2 ^ 32
      offset (left x) = omega (arith, ok'.fits)
      offset (right x) = rw x.0 (omega (arith, ok'.offset))

      size : length_at (pmtu s) m.length (packets_for (pmtu s) m.length) i < 2 ^ 31
      size =
          if-case (λ (x : ℕ). x < 2 ^ 31) (eqb (suc i) (packets_for (pmtu s) m.length))
          (λ _. omega (arith, ok'.short))
          (λ e. more (ahead_of (pmtu s) m.length (suc i) mtu-pos (omega (arith, eqb-false (suc i) (packets_for (pmtu s) m.length) e))))
        where
          more : (suc i * pmtu s < m.length) or ((suc i ≡ 0) × (m.length ≡ 0)) → pmtu s < 2 ^ 31
          more (left x) = omega (arith, ok'.short)
          more (right x) = absurd (omega (arith, x.0))

  pub packets-fit : Each Fits (packets_of s m first)
  unfolding packets_of
  packets-fit =
      if-case (Each Fits) (eqb m.kind 2)
      (λ e. (
        record {
          offset = ok'.offset;
          length = ok'.short;
          total = ok'.short;
          reach = λ _. ok'.fits;
          far = λ _. ok'.reach (omega (arith, eqb-true m.kind 2 e));
          all = λ _. refl;
        },
        tt,
      ))
      (λ e. each_from Fits (packet_at s m first) 0 (packets_for (pmtu s) m.length) (λ i h. packet-fits (omega (arith, ok'.kind, eqb-false m.kind 2 e)) i (omega arith)))

-- whatever an audited pair holds
pub held-fit : (s : Settings) {ps : List Packet} → Remaining s ps → Each Fits ps
held-fit s = remaining-each s Fits (packets-fit s)

-- ---- a place inside a read: its offset and address fit

pub place-fits : (s : Settings) (p : Packet) → Fits p → is_read p ≡ true → (k : ℕ) → k < span s p
    → (p.offset + k * pmtu s < 2 ^ 32) × (0 < k → p.address + k * pmtu s < 2 ^ 64) × (k * pmtu s ≤ p.total)
place-fits s p f e k h = by (ahead_of (pmtu s) p.length k (pow_pos (7 + s.pmtu)) (rw e at h))
  where
    by : (k * pmtu s < p.length) or ((k ≡ 0) × (p.length ≡ 0)) → (p.offset + k * pmtu s < 2 ^ 32) × (0 < k → p.address + k * pmtu s < 2 ^ 64) × (k * pmtu s ≤ p.total)
    by (left x) = (omega (arith, f.reach e), (λ _. omega (arith, f.far e (omega arith))), omega (arith, f.all e))
    by (right x) = (rw x.0 (omega (arith, f.offset)), (λ more. absurd (omega (arith, x.0))), rw x.0 (omega arith))

-- the place that an emission starts from is inside the read
pub sent-inside : (t : Standing) (p : Packet) → distance p.psn (unanswered t p) < span t.settings p
sent-inside t p =
    by-test (ltb (distance p.psn t.line.u) (span t.settings p))
    (λ e. rw e (ltb-true (distance p.psn t.line.u) (span t.settings p) e))
    (λ e. rw (e, distance-same p.psn) (span_pos t.settings p))
