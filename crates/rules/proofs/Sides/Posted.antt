-- A post keeps the order.
use Rattle.std.specs.Prelude.{if◌then◌else◌}
use mathlib.Core.Path.{◌≡◌, refl, sym, subst}
use mathlib.Core.Bool.{false}
use mathlib.Core.List.{List, [], ◌∷◌, ◌++◌, map}
use Prim.Native.Nat.{ℕ, zero, suc, ◌+◌, ◌*◌, ◌≤◌, ◌<◌}
use native.Mathlib.Omega.{arith}
use lib.Dec.{eqb}
use borrow.Author.Tests.{eqb-false, ne_eqb}
use Rattle.refusal.proofs.Cases.{if-case}
use Rattle.rules.specs.declared.Packet.{Packet}
use Rattle.rules.specs.declared.Settings.{Settings}
use Rattle.rules.specs.declared.Post.{Post}
use Rattle.psn.specs.Psn.{psns, half, distance, plus}
use Rattle.rules.specs.Account.{Side, U, X, H, N}
use Rattle.rules.specs.Message.{span, pmtu, packets_for, from, opcode_at, packet_at, packets_of}
use Rattle.rules.specs.Posting.{posted}
use Rattle.rules.specs.Order.{◌or◌, left, right, Past, Start}
use Rattle.rules.proofs.Sides.InOrder.{RunsLow, StartsLow, InOrder}
use Rattle.psn.proofs.Laws.{distance-step}
use Rattle.rules.proofs.Sides.Order.{starts-of, packets-pos, past_of}

-- ---- joined runs

module _ (size : Packet → ℕ) where
  pub runs_append : (u o : ℕ) (ps qs : List Packet) (n n' : ℕ) → RunsLow size u o ps n → RunsLow size u (distance u n) qs n' → RunsLow size u o (ps ++ qs) n'
  runs_append u o [] qs n n' r r' = subst (λ (d : ℕ). RunsLow size u d qs n') (sym r) r'
  runs_append u o (p ∷ ps) qs n n' r r' = (r.0, r.1, runs_append u (o + size p) ps qs n n' r.2 r')

start-front : (a : ℕ) (ps qs : List Packet) → Start a ps → Start a (ps ++ qs)
start-front a [] qs s = elim s [ ]
start-front a (p ∷ ps) qs (left e) = left e
start-front a (p ∷ ps) qs (right s) = right (start-front a ps qs s)

start-rear : (a : ℕ) (ps qs : List Packet) → Start a qs → Start a (ps ++ qs)
start-rear a [] qs s = s
start-rear a (p ∷ ps) qs s = right (start-rear a ps qs s)

-- ---- the packets of a post run from its first PSN

pub no_read : (m : Post) (n i : ℕ) → m.kind ≤ 1 → eqb (opcode_at m n i) 12 ≡ false
no_read m n i h =
    if-case (λ (late : ℕ). late ≤ 1 → eqb (6 * m.kind + (if eqb n 1 then 4 + late else if eqb (suc i) n then 2 + late else if eqb i 0 then 0 else 1)) 12 ≡ false)
    m.immediate (λ _. place 1) (λ _. place 0) (if-case (λ (late : ℕ). late ≤ 1) m.immediate (λ _. omega arith) (λ _. omega arith))
  where
    place : (late : ℕ) → late ≤ 1 → eqb (6 * m.kind + (if eqb n 1 then 4 + late else if eqb (suc i) n then 2 + late else if eqb i 0 then 0 else 1)) 12 ≡ false
    place late l =
        if-case (λ (x : ℕ). eqb (6 * m.kind + x) 12 ≡ false) (eqb n 1) (λ _. low (4 + late) (omega arith)) (λ _.
        if-case (λ (x : ℕ). eqb (6 * m.kind + x) 12 ≡ false) (eqb (suc i) n) (λ _. low (2 + late) (omega arith)) (λ _.
        if-case (λ (x : ℕ). eqb (6 * m.kind + x) 12 ≡ false) (eqb i 0) (λ _. low 0 (omega arith)) (λ _. low 1 (omega arith))))
      where
        low : (x : ℕ) → x ≤ 5 → eqb (6 * m.kind + x) 12 ≡ false
        low x k = ne_eqb (6 * m.kind + x) 12 (λ e. omega arith)

module _ (s : Settings) (m : Post) (u first : ℕ) (u-low : u < psns) where
  packets-run : m.kind ≤ 1 → (i k o j : ℕ) → o ≡ distance u first + i → j ≡ i + k → distance u first + j ≤ half
      → RunsLow (span s) u o (map (packet_at s m first) (from i k)) (plus first j)
  packets-run kd i zero o j e f h = omega (arith, distance-step u first j (omega arith))
  packets-run kd i (suc k) o j e f h = (
    omega arith,
    omega (arith, distance-step u first i (omega arith)),
    packets-run kd (suc i) k (o + span s (packet_at s m first i)) j (rw (no_read m (packets_for (pmtu s) m.length) i kd) (omega arith)) (omega arith) h,
  )

  pub post-runs : first < psns → distance u first + packets_for (pmtu s) m.length ≤ half → m.kind ≤ 2
      → RunsLow (span s) u (distance u first) (packets_of s m first) (plus first (packets_for (pmtu s) m.length))
  unfolding packets_of
  post-runs low h kd =
      if-case (λ (ps : List Packet). RunsLow (span s) u (distance u first) ps (plus first (packets_for (pmtu s) m.length))) (eqb m.kind 2)
      (λ e. (low, refl, omega (arith, distance-step u first (packets_for (pmtu s) m.length) (omega arith))))
      (λ e. packets-run (omega (arith, eqb-false m.kind 2 e)) 0 (packets_for (pmtu s) m.length) (distance u first) _ (omega arith) (omega arith) h)

  pub post-starts : first < psns → Start first (packets_of s m first)
  unfolding packets_of
  post-starts low =
      if-case (Start first) (eqb m.kind 2) (λ e. left refl) (λ e. front (packets_for (pmtu s) m.length) (packets-pos s m.length))
    where
      front : (n : ℕ) → 1 ≤ n → Start first (map (packet_at s m first) (from 0 n))
      front zero h = absurd (omega arith)
      front (suc n) h = left (omega arith)

pub ordered-posted : (s : Side) → InOrder s → (m : Post) → m.kind ≤ 2
    → distance (U s) (N s) + packets_for (pmtu s.standing.settings) m.length ≤ half → InOrder (posted m s)
unfolding posted
ordered-posted s o m kd h =
    record {
      u-low = o.u-low;
      x-low = o.x-low;
      h-low = o.h-low;
      n-low = omega arith;
      starts = starts s.packets o.starts;
      u-x-h = o.u-x-h;
      u-h-n = omega (arith, o.u-h-n, end);
      near = omega (arith, end);
      x-stands = stand (X s) o.x-stands;
      h-stands = stand (H s) o.h-stands;
      h-past = past s.packets o.starts o.h-past;
    }
  where
    st : Settings
    st = s.standing.settings

    n' : ℕ
    n' = plus (N s) (packets_for (pmtu st) m.length)

    qs : List Packet
    qs = packets_of st m (N s)

    end : distance (U s) n' ≡ distance (U s) (N s) + packets_for (pmtu st) m.length
    end = distance-step (U s) (N s) (packets_for (pmtu st) m.length) (omega arith)

    new : RunsLow (span st) (U s) (distance (U s) (N s)) qs n'
    new = post-runs st m (U s) (N s) o.u-low o.n-low h kd

    starts : (ps : List Packet) → StartsLow (span st) (U s) ps (N s) → StartsLow (span st) (U s) (ps ++ qs) n'
    starts [] e = starts-of st (U s) o.u-low qs n' (rw (← e) at new)
    starts (p ∷ ps) e = (e.0, e.1, runs_append (span st) (U s) _ ps qs (N s) n' e.2 new)

    past : (ps : List Packet) → StartsLow (span st) (U s) ps (N s) → Past (span st) (U s) (H s) ps → Past (span st) (U s) (H s) (ps ++ qs)
    past [] e x = past_of st (U s) (H s) o.u-low qs n' (rw (← e) at new)
    past (p ∷ ps) e x = x

    stand : (a : ℕ) → (a ≡ U s) or (a ≡ N s) or Start a s.packets → (a ≡ U s) or (a ≡ n') or Start a (s.packets ++ qs)
    stand a (left e) = left e
    stand a (right (left e)) = right (right (start-rear a s.packets qs (rw e (post-starts st m (U s) (N s) o.u-low o.n-low))))
    stand a (right (right x)) = right (right (start-front a s.packets qs x))
