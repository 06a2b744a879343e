-- What a program does to release before b: it looks from the front until a record stops it. On an ordered pair that is document 01's rule.
use mathlib.Core.Path.{◌≡◌, refl, sym, ap}
use mathlib.Core.Bool.{true, false, not, true≢false}
use mathlib.Core.List.{List, [], ◌∷◌}
use Prim.Native.Nat.{ℕ, suc, ◌+◌, ◌≤◌, ◌<◌}
use native.Mathlib.Omega.{arith}
use native.Mathlib.Nat.{le_of_suc-le-suc, not-suc-le-zero}
use lib.Dec.{ltb}
use borrow.Author.Tests.{ltb-true, ltb-false, lt-ltb, le-ltb}
use lib.ListN.{length}
use Rattle.refusal.proofs.Cases.{by-test, or-any, and_left}
use Rattle.rules.specs.declared.Packet.{Packet}
use Rattle.rules.specs.declared.Standing.{Standing}
use Rattle.psn.specs.Psn.{psns, half, distance, before}
use Rattle.rules.specs.Account.{Side, U, N, ahead}
use Rattle.rules.specs.Message.{is_read, span}
use Rattle.rules.specs.Release.{passed_by, stays, release}
use Rattle.rules.specs.Order.{◌or◌, left, right}
use Rattle.rules.proofs.Sides.InOrder.{RunsLow, InOrder}
use Rattle.rules.proofs.Sides.Order.{runs-end, unanswered-is, halted, span_pos, Part, whole-or-part, none_passed, none_before, part-stops, part-some}

module _ (t : Standing) (u-low : t.line.u < psns) (b n : ℕ) (near : distance t.line.u n ≤ half) where
  -- a read that is before b is passed
  pub no_read : (o : ℕ) (p : Packet) (ps : List Packet) → RunsLow (span t.settings) t.line.u o (p ∷ ps) n
      → passed_by b t p ≡ false → before t.line.u p.psn b ≡ true → is_read p ≡ false
  no_read o p ps r e sure = by-test (is_read p) (λ q. absurd (true≢false (rw (unanswered-is t u-low b p r.0 room, sure, q) at e))) (λ q. q)
    where
      room : distance t.line.u p.psn + span t.settings p ≤ half
      room = omega (arith, runs-end (span t.settings) t.line.u u-low (o + span t.settings p) ps n r.2, r.1)

  scan-stopped : (o : ℕ) (ps : List Packet) → RunsLow (span t.settings) t.line.u o ps n → ahead (passed_by b t) ps < length ps
      → ahead (stays b t) ps ≡ ahead (passed_by b t) ps
  scan-stopped o [] r a = refl
  scan-stopped o (p ∷ ps) r a =
      by-test (passed_by b t p)
      (λ e. rw (e, and_left (is_read p) _ e))
      (λ e.
      let a' = le_of_suc-le-suc (rw e at a) in
      let c = halted t u-low b (o + span t.settings p) ps n r.2 near a' in
      let early : distance t.line.u p.psn < distance t.line.u b = omega (arith, r.1, c.past, c.short, span_pos t.settings p) in
      let sure : before t.line.u p.psn b ≡ true = lt-ltb (distance t.line.u p.psn) (distance t.line.u b) early in
      rw (e, no_read o p ps r e sure, sure) (ap suc (scan-stopped (o + span t.settings p) ps r.2 a')))

  scan-clear : (ps : List Packet) (o : ℕ) → RunsLow (span t.settings) t.line.u o ps n → length ps ≤ ahead (passed_by b t) ps
      → ahead (stays b t) ps ≡ ahead (λ p. not (before t.line.u p.psn b)) ps
  scan-clear [] o r a = refl
  scan-clear (p ∷ ps) o r a =
      by-test (passed_by b t p)
      (λ e. absurd (not-suc-le-zero (rw e at a)))
      (λ e. by-test (before t.line.u p.psn b)
      (λ sure. rw (no_read o p ps r e sure, sure) (ap suc (scan-clear ps (o + span t.settings p) r.2 (le_of_suc-le-suc (rw e at a)))))
      (λ sure. rw (sure, or-any (is_read p))))

-- how many leave is how many the scan passes over
pub released-is : (s : Side) → InOrder s → (b : ℕ) → (release b s).released ≡ ahead (stays b s.standing) s.packets
unfolding release
released-is s o b = go (whole-or-part s.standing.settings (U s) (N s) o.u-low s.packets o.starts)
  where
    go : RunsLow (span s.standing.settings) (U s) 0 s.packets (N s) or Part s.standing.settings (U s) s.packets
        → (release b s).released ≡ ahead (stays b s.standing) s.packets
    go (left r) =
        by-test (ltb (ahead (passed_by b s.standing) s.packets) (length s.packets))
        (λ e. rw e (sym (scan-stopped s.standing o.u-low b (N s) o.near 0 s.packets r (ltb-true _ (length s.packets) e))))
        (λ e. rw e (sym (scan-clear s.standing o.u-low b (N s) o.near s.packets 0 r (ltb-false _ (length s.packets) e))))
    go (right c) =
        rw (stands)
        (by-test (ltb 0 (distance (U s) b))
        (λ e. rw (part-stops s c b e, part-some s c))
        (λ e.
        let z : distance (U s) b ≡ 0 = omega (arith, ltb-false) in
        rw (le-ltb _ _ (none_passed s.standing b z s.packets), none_before s.standing b z s.packets)))
      where
        stands : ahead (stays b s.standing) s.packets ≡ 0
        stands = rw c.is (rw c.read)
