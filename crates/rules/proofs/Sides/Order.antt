-- A release keeps the order of the PSNs.
use mathlib.Core.Path.{◌≡◌, refl, sym, ap, ◌∙◌, subst}
use mathlib.Core.Bool.{Bool, true, false, not, ◌&&◌, false≢true}
use mathlib.Core.List.{List, [], ◌∷◌}
use Prim.Native.Nat.{ℕ, zero, suc, ◌+◌, ◌-◌, ◌≤◌, ◌<◌, suc-le-suc}
use native.Mathlib.Omega.{arith}
use native.Mathlib.Nat.{le_of_suc-le-suc, not-suc-le-zero, le-div_iff_mul-le}
use lib.Pow.{pow_pos}
use lib.Dec.{eqb, ltb}
use borrow.Author.Tests.{ltb-true, ltb-false, eqb-true, eqb-false, lt-ltb, le-ltb}
use lib.ListN.{length, get_or, drop}
use Rattle.refusal.proofs.Cases.{by-test, if-case, and_none}
use Rattle.rules.specs.declared.Packet.{Packet}
use Rattle.rules.specs.declared.Settings.{Settings}
use Rattle.rules.specs.declared.Standing.{Standing}
use Rattle.psn.specs.Psn.{psns, half, distance, before}
use Rattle.rules.specs.Account.{Side, U, X, H, N, ahead, no_packet}
use Rattle.rules.specs.Message.{is_read, span, pmtu, packets_for, unanswered}
use Rattle.rules.specs.Release.{passed_by, release, advanced}
use Rattle.rules.specs.Order.{◌or◌, left, right, Past, Start}
use Rattle.rules.proofs.Sides.InOrder.{RunsLow, StartsLow, InOrder}
use Rattle.psn.proofs.Laws.{distance_is, distance-same, distance-from, distance-zero}

-- at most all stand ahead
pub ahead-most : (t : Packet → Bool) (ps : List Packet) → ahead t ps ≤ length ps
ahead-most t [] = omega arith
ahead-most t (p ∷ ps) = if-case (λ (n : ℕ). n ≤ suc (length ps)) (t p) (λ _. omega arith) (λ _. omega (arith, ahead-most t ps))

module _ (size : Packet → ℕ) (u : ℕ) (u-low : u < psns) where
  pub runs-end : (o : ℕ) (ps : List Packet) (n : ℕ) → RunsLow size u o ps n → o ≤ distance u n
  runs-end o [] n r = omega arith
  runs-end o (p ∷ ps) n r = omega (arith, runs-end (o + size p) ps n r.2)

  -- seen from a later U, all places are less by as much
  pub runs-from : (b : ℕ) → b < psns → (o o' : ℕ) → o ≡ distance u b + o' → (ps : List Packet) (n : ℕ) → RunsLow size u o ps n → RunsLow size b o' ps n
  runs-from b h o o' e [] n r = omega (arith, distance-from u b n (omega arith))
  runs-from b h o o' e (p ∷ ps) n r = (
    r.0,
    omega (arith, distance-from u b p.psn (omega (arith, r.1)), r.1),
    runs-from b h (o + size p) (o' + size p) (omega arith) ps n r.2,
  )

  pub runs-front : (k o d : ℕ) (ps : List Packet) (n : ℕ) → RunsLow size u o ps n → RunsLow size u d (drop k ps) n → o ≤ d
  runs-front zero o d [] n r r' = omega arith
  runs-front zero o d (p ∷ ps) n r r' = omega arith
  runs-front (suc k) o d [] n r r' = omega arith
  runs-front (suc k) o d (p ∷ ps) n r r' = omega (arith, runs-front k (o + size p) d ps n r.2 r')

  -- a record that starts no nearer than the first that is left is left
  pub start_left : ((p : Packet) → 1 ≤ size p) → (a k o d : ℕ) (ps : List Packet) (n : ℕ)
      → RunsLow size u o ps n → RunsLow size u d (drop k ps) n → d ≤ distance u a → Start a ps → Start a (drop k ps)
  start_left pos a zero o d ps n r r' h s = s
  start_left pos a (suc k) o d [] n r r' h s = s
  start_left pos a (suc k) o d (p ∷ ps) n r r' h (right s) = start_left pos a k (o + size p) d ps n r.2 r' h s
  start_left pos a (suc k) o d (p ∷ ps) n r r' h (left e) =
      absurd (omega (arith, runs-front k (o + size p) d ps n r.2 r', pos p, ap (distance u) e, r.1))

pub packets-pos : (s : Settings) (n : ℕ) → 1 ≤ packets_for (pmtu s) n
packets-pos s n =
    if-case (λ (x : ℕ). 1 ≤ x) (eqb n 0)
    (λ e. omega arith)
    (λ e. (le-div_iff_mul-le (pow_pos (7 + s.pmtu))).1 (omega (arith, eqb-false n 0 e, pow_pos (7 + s.pmtu))))

pub span_pos : (s : Settings) (p : Packet) → 1 ≤ span s p
span_pos s p = if-case (λ (x : ℕ). 1 ≤ x) (is_read p) (λ e. packets-pos s p.length) (λ e. omega arith)

and_right : (a b : Bool) → a && b ≡ true → b ≡ true
and_right true b e = e
and_right false b e = absurd (false≢true e)

module _ (t : Standing) (u-low : t.line.u < psns) (b : ℕ) where
  pub unanswered-is : (p : Packet) → p.psn < psns → distance t.line.u p.psn + span t.settings p ≤ half → unanswered t p ≡ p.psn
  unanswered-is p low h =
      by-test (ltb (distance p.psn t.line.u) (span t.settings p))
      (λ e. rw e (omega (arith, ltb-true, distance_is p.psn t.line.u, distance_is t.line.u p.psn)))
      (λ e. rw e)

  -- no read is passed: what is left starts at b
  pub all-before : (o : ℕ) (ps : List Packet) (n : ℕ) → RunsLow (span t.settings) t.line.u o ps n
      → o ≤ distance t.line.u b → distance t.line.u b ≤ distance t.line.u n → distance t.line.u n ≤ half
      → length ps ≤ ahead (passed_by b t) ps
      → RunsLow (span t.settings) t.line.u (distance t.line.u b) (drop (ahead (λ p. not (before t.line.u p.psn b)) ps) ps) n
  all-before o [] n r h k near a = omega arith
  all-before o (p ∷ ps) n r h k near a =
      by-test (before t.line.u p.psn b)
      (λ e. rw e (by-test (is_read p)
      (λ q. absurd (not-suc-le-zero (rw (unanswered-is p r.0 room, e, q) at a)))
      (λ q. all-before (o + span t.settings p) ps n r.2 (rw q (omega (arith, ltb-true, r.1))) k near (le_of_suc-le-suc (rw q at a)))))
      (λ e. rw e (subst (λ (d : ℕ). RunsLow (span t.settings) t.line.u d (p ∷ ps) n) (omega (arith, ltb-false, r.1)) r))
    where
      room : distance t.line.u p.psn + span t.settings p ≤ half
      room = omega (arith, runs-end (span t.settings) t.line.u u-low (o + span t.settings p) ps n r.2, r.1)

  -- a read is passed: what is left starts at its PSN, which is before b
  pub record Halt (o : ℕ) (ps : List Packet) (n : ℕ) (q : Packet) : Type 0 where
    pub low : q.psn < psns
    pub past : o ≤ distance t.line.u q.psn
    pub short : distance t.line.u q.psn < distance t.line.u b
    pub first : unanswered t q ≡ q.psn
    pub runs : RunsLow (span t.settings) t.line.u (distance t.line.u q.psn) (drop (ahead (passed_by b t) ps) ps) n

  pub halted : (o : ℕ) (ps : List Packet) (n : ℕ) → RunsLow (span t.settings) t.line.u o ps n → distance t.line.u n ≤ half
      → ahead (passed_by b t) ps < length ps
      → Halt o ps n (get_or ps (ahead (passed_by b t) ps) no_packet)
  halted o [] n r near a = absurd (not-suc-le-zero a)
  halted o (p ∷ ps) n r near a =
      by-test (passed_by b t p)
      (λ e. rw e (record {
        low = r.0;
        past = omega (arith, r.1);
        short = ltb-true _ _ (rw (unanswered-is p r.0 room) at (and_right (is_read p) _ e));
        first = unanswered-is p r.0 room;
        runs = rw e (subst (λ (d : ℕ). RunsLow (span t.settings) t.line.u d (p ∷ ps) n) (sym r.1) r);
      }))
      (λ e.
      let rest = halted (o + span t.settings p) ps n r.2 near (le_of_suc-le-suc (rw e at a)) in
      rw e (record { low = rest.low; past = omega (arith, rest.past); short = rest.short; first = rest.first; runs = rw e rest.runs }))
    where
      room : distance t.line.u p.psn + span t.settings p ≤ half
      room = omega (arith, runs-end (span t.settings) t.line.u u-low (o + span t.settings p) ps n r.2, r.1)

-- ---- the release

-- a run from 0 starts at U
pub starts-of : (s : Settings) (u : ℕ) → u < psns → (ps : List Packet) (n : ℕ) → RunsLow (span s) u 0 ps n → StartsLow (span s) u ps n
starts-of s u low [] n r = r
starts-of s u low (p ∷ ps) n r = (
  r.0,
  rw zero (span_pos s p),
  subst (λ (d : ℕ). RunsLow (span s) u d ps n) (omega (arith, zero)) r.2,
)
  where
    zero : distance p.psn u ≡ 0
    zero = rw (distance-zero u p.psn low r.0 r.1) (distance-same u)

pub past_of : (s : Settings) (u h : ℕ) → u < psns → (ps : List Packet) (n : ℕ) → RunsLow (span s) u 0 ps n → Past (span s) u h ps
past_of s u h low [] n r = tt
past_of s u h low (p ∷ ps) n r = λ e. absurd (omega (arith, rw (distance-zero u p.psn low r.0 r.1, distance-same u) at e))

-- k packets leave, and U becomes u'
pub record Kept (s : Side) (u' k : ℕ) : Type 0 where
  pub low : u' < psns
  pub near : distance (U s) u' ≤ distance (U s) (H s)
  pub starts : StartsLow (span s.standing.settings) u' (drop k s.packets) (N s)
  pub stands : (a : ℕ) → distance (U s) u' ≤ distance (U s) a → distance (U s) a ≤ distance (U s) (N s) → Start a s.packets → Start a (drop k s.packets)
  pub past : Past (span s.standing.settings) u' (H s) (drop k s.packets)

-- what is left runs from u'
pub kept_of : (s : Side) (o : InOrder s) (u' k : ℕ) → u' < psns
    → distance (U s) u' ≤ distance (U s) (H s)
    → RunsLow (span s.standing.settings) (U s) 0 s.packets (N s)
    → RunsLow (span s.standing.settings) (U s) (distance (U s) u') (drop k s.packets) (N s)
    → Kept s u' k
kept_of s o u' k low near r r' =
    record {
      low = low;
      near = near;
      starts = starts-of s.standing.settings u' low (drop k s.packets) (N s) there;
      stands = λ a h _. start_left (span s.standing.settings) (U s) o.u-low (span_pos s.standing.settings) a k 0 _ s.packets (N s) r r' h;
      past = past_of s.standing.settings u' (H s) low (drop k s.packets) (N s) there;
    }
  where
    there : RunsLow (span s.standing.settings) u' 0 (drop k s.packets) (N s)
    there = runs-from (span s.standing.settings) (U s) o.u-low u' low _ 0 (omega arith) (drop k s.packets) (N s) r'

-- the order is kept
pub ordered-after : (s : Side) → InOrder s → (u' k : ℕ) → Kept s u' k → InOrder (record { standing = advanced u' s.standing; packets = drop k s.packets })
ordered-after s o u' k c =
    record {
      u-low = c.low;
      x-low = by-test (before u x u') (λ e. rw e c.low) (λ e. rw e o.x-low);
      h-low = o.h-low;
      n-low = o.n-low;
      starts = c.starts;
      u-x-h =
          by-test (before u x u')
          (λ e. rw (e, distance-same u') (omega arith))
          (λ e. rw e (omega (arith, ltb-false, from x (ltb-false _ _ e), from h c.near, o.u-x-h)));
      u-h-n = omega (arith, from h c.near, from n to-n, o.u-h-n);
      near = omega (arith, from n to-n, o.near);
      x-stands =
          by-test (before u x u')
          (λ e. rw e (left refl))
          (λ e. rw e (stand x (ltb-false _ _ e) (omega (arith, o.u-x-h, o.u-h-n)) o.x-stands));
      h-stands = stand h c.near o.u-h-n o.h-stands;
      h-past = c.past;
    }
  where
    u : ℕ
    u = U s

    x : ℕ
    x = X s

    h : ℕ
    h = H s

    n : ℕ
    n = N s

    to-n : distance u u' ≤ distance u n
    to-n = omega (arith, c.near, o.u-h-n)

    from : (a : ℕ) → distance u u' ≤ distance u a → distance u' a ≡ distance u a - distance u u'
    from a e = distance-from u u' a e

    stand : (a : ℕ) → distance u u' ≤ distance u a → distance u a ≤ distance u n → (a ≡ u) or (a ≡ n) or Start a s.packets → (a ≡ u') or (a ≡ n) or Start a (drop k s.packets)
    stand a e f (left q) = left (q ∙ sym (distance-zero u u' o.u-low c.low (omega (arith, distance-same u, ap (distance u) q))))
    stand a e f (right (left q)) = right (left q)
    stand a e f (right (right q)) = right (right (c.stands a e f q))

-- ---- which packets a release lets go, and where U comes to stand

-- nothing is before U itself
module _ (t : Standing) (b : ℕ) (z : distance t.line.u b ≡ 0) where
  not-before : (a : ℕ) → before t.line.u a b ≡ false
  not-before a = le-ltb (distance t.line.u a) (distance t.line.u b) (omega arith)

  pub none_passed : (ps : List Packet) → length ps ≤ ahead (passed_by b t) ps
  none_passed [] = omega arith
  none_passed (p ∷ ps) = rw (not-before (unanswered t p), and_none (is_read p)) (suc-le-suc (none_passed ps))

  pub none_before : (ps : List Packet) → ahead (λ p. not (before t.line.u p.psn b)) ps ≡ 0
  none_before [] = refl
  none_before (p ∷ ps) = rw (not-before p.psn)

-- a queue starts at its first record's start, or inside a read
pub record Part (s : Settings) (u : ℕ) (ps : List Packet) : Type 0 where
  pub head : Packet
  pub tail : List Packet
  pub is : ps ≡ head ∷ tail
  pub read : is_read head ≡ true
  pub inside : distance head.psn u < span s head

-- of a queue that starts inside a read: that read's first unanswered PSN is U, so a release before anything past U stops at it at once
module _ (s : Side) (c : Part s.standing.settings (U s) s.packets) where
  pub part-at-u : unanswered s.standing c.head ≡ U s
  part-at-u = rw (lt-ltb _ _ c.inside)

  pub part-stops : (b : ℕ) → ltb 0 (distance (U s) b) ≡ true → ahead (passed_by b s.standing) s.packets ≡ 0
  part-stops b e = rw c.is (rw (part-at-u, distance-same, c.read, e))

  pub part-some : ltb 0 (length s.packets) ≡ true
  part-some = rw c.is (lt-ltb 0 (suc (length c.tail)) (omega arith))

pub whole-or-part : (s : Settings) (u n : ℕ) → u < psns → (ps : List Packet) → StartsLow (span s) u ps n → RunsLow (span s) u 0 ps n or Part s u ps
whole-or-part s u n low [] h = left h
whole-or-part s u n low (p ∷ ps) h =
    by-test (eqb (distance p.psn u) 0)
    (λ e.
    let z = eqb-true (distance p.psn u) 0 e in
    left (
      h.0,
      rw (distance-zero p.psn u h.0 low z) (distance-same p.psn),
      subst (λ (d : ℕ). RunsLow (span s) u d ps n) (omega (arith, z)) h.2,
    ))
    (λ e. right (record {
      head = p;
      tail = ps;
      is = refl;
      read = by-test (is_read p) (λ q. q) (λ q. absurd (omega (arith, eqb-false (distance p.psn u) 0 e, rw q at h.1)));
      inside = h.1;
    }))

module _ (s : Side) (o : InOrder s) where
  kept_same : Kept s (U s) 0
  kept_same = record { low = o.u-low; near = rw distance-same (omega arith); starts = o.starts; stands = λ a h _ q. q; past = o.h-past }

  module _ (b : ℕ) (low : b < psns) (near : distance (U s) b ≤ distance (U s) (H s)) where
    kept_whole : RunsLow (span s.standing.settings) (U s) 0 s.packets (N s)
        → (u' : ℕ) × ((release b s).standing ≡ advanced u' s.standing) × Kept s u' (release b s).released
    unfolding release
    kept_whole r =
        by-test (ltb (ahead (passed_by b s.standing) s.packets) (length s.packets))
        (λ e.
        let c = halted s.standing o.u-low b 0 s.packets (N s) r o.near (ltb-true _ _ e) in
        rw (e, c.first) (_, refl, kept_of s o _ _ c.low (omega (arith, near, c.short)) r c.runs))
        (λ e.
        rw e (
          b,
          refl,
          kept_of s o b _ low near r
              (all-before s.standing o.u-low b 0 s.packets (N s) r (omega arith) (omega (arith, near, o.u-h-n)) o.near (ltb-false _ _ e)),
        ))

    kept-part : Part s.standing.settings (U s) s.packets
        → (u' : ℕ) × ((release b s).standing ≡ advanced u' s.standing) × Kept s u' (release b s).released
    unfolding release
    kept-part c =
        by-test (ltb 0 (distance (U s) b))
        (λ e. rw (part-stops s c b e, part-some s c, head, part-at-u s c) (_, refl, kept_same))
        (λ e.
        let z = zero e in
        rw (le-ltb _ _ (none_passed s.standing b z s.packets), none_before s.standing b z s.packets)
        (b, refl, rw (distance-zero (U s) b o.u-low low z) kept_same))
      where
        head : get_or s.packets 0 no_packet ≡ c.head
        head = rw c.is

        zero : ltb 0 (distance (U s) b) ≡ false → distance (U s) b ≡ 0
        zero e = omega (arith, ltb-false)

    -- a release keeps the order
    pub ordered-release : InOrder (record { standing = (release b s).standing; packets = drop (release b s).released s.packets })
    ordered-release = go (whole-or-part s.standing.settings (U s) (N s) o.u-low s.packets o.starts)
      where
        by : (u' : ℕ) × ((release b s).standing ≡ advanced u' s.standing) × Kept s u' (release b s).released
            → InOrder (record { standing = (release b s).standing; packets = drop (release b s).released s.packets })
        by k = rw k.1 (ordered-after s o k.0 (release b s).released k.2)

        go : RunsLow (span s.standing.settings) (U s) 0 s.packets (N s)
            or Part s.standing.settings (U s) s.packets
            → InOrder (record { standing = (release b s).standing; packets = drop (release b s).released s.packets })
        go (left r) = by (kept_whole r)
        go (right c) = by (kept-part c)
