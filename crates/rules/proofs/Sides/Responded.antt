-- A response taken at U: one PSN further, inside the first read or past it.
use mathlib.Core.Path.{◌≡◌, refl, sym, ap, subst}
use mathlib.Core.Bool.{false, not}
use mathlib.Core.List.{List, [], ◌∷◌}
use Prim.Native.Nat.{ℕ, suc, ◌+◌, ◌-◌, ◌≤◌, ◌<◌, suc-le-suc}
use native.Mathlib.Omega.{arith}
use native.Mathlib.Nat.{le_of_suc-le-suc, not-suc-le-zero}
use borrow.Author.Tests.{ltb-true, ltb-false, le-ltb}
use lib.ListN.{length, drop}
use Rattle.refusal.proofs.Cases.{by-test, if-case, and_none}
use Rattle.rules.specs.declared.Packet.{Packet}
use Rattle.rules.specs.declared.Standing.{Standing}
use Rattle.psn.specs.Psn.{psns, half, distance, plus, before}
use Rattle.rules.specs.Account.{Side, U, H, N, ahead}
use Rattle.rules.specs.Message.{span, is_read}
use Rattle.rules.specs.Release.{advanced, passed_by}
use Rattle.rules.specs.Response.{covers}
use Rattle.rules.specs.Order.{◌or◌, left, right, Past, Start}
use Rattle.rules.proofs.Sides.InOrder.{RunsLow, StartsLow, InOrder}
use Rattle.psn.proofs.Laws.{distance-same, distance-plus, distance-round, distance-step, distance-from}
use Rattle.rules.proofs.Sides.Scan.{no_read}
use Rattle.rules.proofs.Sides.Order.{runs-end, runs-from, starts-of, past_of, span_pos, Kept, ordered-after}

-- a record of a run starts no nearer than the run
pub start-past : (size : Packet → ℕ) (u o n a : ℕ) (ps : List Packet) → RunsLow size u o ps n → Start a ps → o ≤ distance u a
start-past size u o n a [] r s = elim s [ ]
start-past size u o n a (p ∷ ps) r (left e) = omega (arith, r.1, ap (distance u) e)
start-past size u o n a (p ∷ ps) r (right q) = omega (arith, start-past size u (o + size p) n a ps r.2 q)

-- the first record's start is U or far behind it
pub first-behind : (size : Packet → ℕ) (u n : ℕ) (p : Packet) (ps : List Packet) → u < psns → StartsLow size u (p ∷ ps) n → size p ≤ suc half → (a : ℕ) → a ≡ p.psn
    → 1 ≤ distance u a → distance u a ≤ half → ⊥
first-behind size u n p ps low h sz a e l m =
    let q = ap (distance u) e in
    omega (arith, distance-round u p.psn (omega (arith, q)), h.1, q)

module _ (s : Side) (o : InOrder s) (p : Packet) (ps : List Packet) (is : s.packets ≡ p ∷ ps)
    (small : span s.standing.settings p ≤ suc half) (sent : 1 ≤ distance (U s) (H s)) where
  one : distance (U s) (plus (U s) 1) ≡ 1
  one = distance-plus (U s) 1 (omega arith)

  starts : StartsLow (span s.standing.settings) (U s) (p ∷ ps) (N s)
  starts = subst (λ (l : List Packet). StartsLow (span s.standing.settings) (U s) l (N s)) is o.starts

  behind : (a : ℕ) → a ≡ p.psn → 1 ≤ distance (U s) a → distance (U s) a ≤ half → ⊥
  behind = first-behind (span s.standing.settings) (U s) (N s) p ps o.u-low starts small

  -- at the last place the slot is released
  kept-last : suc (distance p.psn (U s)) ≡ span s.standing.settings p → Kept s (plus (U s) 1) 1
  kept-last e =
      record {
        low = omega arith;
        near = omega (arith, one);
        starts =
            subst (λ (l : List Packet). StartsLow (span s.standing.settings) (plus (U s) 1) (drop 1 l) (N s)) (sym is)
            (starts-of s.standing.settings (plus (U s) 1) (omega arith) ps (N s) there);
        stands = λ a l m.
            subst (λ (k : List Packet). Start a k → Start a (drop 1 k)) (sym is) (pick a (omega (arith, one, l)) (omega (arith, m, o.near)));
        past =
            subst (λ (l : List Packet). Past (span s.standing.settings) (plus (U s) 1) (H s) (drop 1 l)) (sym is)
            (past_of s.standing.settings (plus (U s) 1) (H s) (omega arith) ps (N s) there);
      }
    where
      there : RunsLow (span s.standing.settings) (plus (U s) 1) 0 ps (N s)
      there =
          runs-from (span s.standing.settings) (U s) o.u-low (plus (U s) 1) (omega arith)
          (span s.standing.settings p - distance p.psn (U s)) 0 (omega (arith, one)) ps (N s) starts.2

      pick : (a : ℕ) → 1 ≤ distance (U s) a → distance (U s) a ≤ half → Start a (p ∷ ps) → Start a ps
      pick a l m (left q) = absurd (behind a q l m)
      pick a l m (right q) = q

  -- H is past the read that is being answered
  h-far : span s.standing.settings p - distance p.psn (U s) ≤ distance (U s) (H s)
  h-far = far (subst (λ (l : List Packet). (H s ≡ U s) or (H s ≡ N s) or Start (H s) l) is o.h-stands)
    where
      far : (H s ≡ U s) or (H s ≡ N s) or Start (H s) (p ∷ ps) → span s.standing.settings p - distance p.psn (U s) ≤ distance (U s) (H s)
      far (left e) = absurd (omega (arith, ap (distance (U s)) e, distance-same (U s)))
      far (right (left e)) = omega (arith, ap (distance (U s)) e, runs-end (span s.standing.settings) (U s) o.u-low _ ps (N s) starts.2)
      far (right (right (left e))) = absurd (behind (H s) e sent (omega (arith, o.u-h-n, o.near)))
      far (right (right (right q))) = start-past (span s.standing.settings) (U s) _ (N s) (H s) ps starts.2 q

  -- before it, U moves on inside the read
  kept-inside : suc (distance p.psn (U s)) < span s.standing.settings p → Kept s (plus (U s) 1) 0
  kept-inside e =
      record {
        low = omega arith;
        near = omega (arith, one);
        starts =
            subst (λ (l : List Packet). StartsLow (span s.standing.settings) (plus (U s) 1) l (N s)) (sym is)
            (starts.0, omega (arith, on, e), there);
        stands = λ a l m q. q;
        past =
            subst (λ (l : List Packet). Past (span s.standing.settings) (plus (U s) 1) (H s) l) (sym is)
            (λ _. omega (arith, on, one, h-far, distance-from (U s) (plus (U s) 1) (H s) (omega (arith, one))));
      }
    where
      on : distance p.psn (plus (U s) 1) ≡ suc (distance p.psn (U s))
      on = omega (arith, distance-step p.psn (U s) 1 (omega (arith, starts.1)))

      there : RunsLow (span s.standing.settings) (plus (U s) 1) (span s.standing.settings p - distance p.psn (plus (U s) 1)) ps (N s)
      there =
          runs-from (span s.standing.settings) (U s) o.u-low (plus (U s) 1) (omega arith)
          (span s.standing.settings p - distance p.psn (U s)) _ (omega (arith, one, on)) ps (N s) starts.2

  -- so the order is kept
  pub ordered-last : suc (distance p.psn (U s)) ≡ span s.standing.settings p
      → InOrder (record { standing = advanced (plus (U s) 1) s.standing; packets = drop 1 s.packets })
  ordered-last e = ordered-after s o (plus (U s) 1) 1 (kept-last e)

  pub ordered-inside : suc (distance p.psn (U s)) < span s.standing.settings p
      → InOrder (record { standing = advanced (plus (U s) 1) s.standing; packets = drop 0 s.packets })
  ordered-inside e = ordered-after s o (plus (U s) 1) 0 (kept-inside e)

-- ---- the read that R belongs to is the first record that is left

module _ (t : Standing) (u-low : t.line.u < psns) (r : ℕ) (r-low : r < psns) (n : ℕ) (near : distance t.line.u n ≤ half) where
  -- behind r, no read has r
  none-covers : (o : ℕ) (ps : List Packet) → RunsLow (span t.settings) t.line.u o ps n → distance t.line.u r < o → length ps ≤ ahead (covers t.settings r) ps
  none-covers o [] q l = omega arith
  none-covers o (p ∷ ps) q l =
      rw (le-ltb (distance p.psn r) (span t.settings p) far, and_none (is_read p)) (suc-le-suc (none-covers (o + span t.settings p) ps q.2 (omega arith)))
    where
      far : span t.settings p ≤ distance p.psn r
      far =
          omega (
            arith,
            q.1,
            near,
            runs-end (span t.settings) t.line.u u-low (o + span t.settings p) ps n q.2,
            distance-from t.line.u r p.psn (omega (arith, q.1)),
            distance-round r p.psn (omega (arith, q.1, distance-from t.line.u r p.psn (omega (arith, q.1)))),
          )

  -- no read is before r, and one has it: as many stand ahead of it as are before r
  pub covers-first : (o : ℕ) (ps : List Packet) → RunsLow (span t.settings) t.line.u o ps n → o ≤ distance t.line.u r
      → length ps ≤ ahead (passed_by r t) ps → ahead (covers t.settings r) ps < length ps
      → ahead (covers t.settings r) ps ≡ ahead (λ p. not (before t.line.u p.psn r)) ps
  covers-first o [] q l a c = refl
  covers-first o (p ∷ ps) q l a c =
      by-test (before t.line.u p.psn r)
      (λ e.
      let plain : is_read p ≡ false = no_read t u-low r n near o p ps q (not-passed a) e in
      rw (e, plain) (ap suc (covers-first (o + span t.settings p) ps q.2 (rw plain (omega (arith, ltb-true, q.1))) (less (not-passed a) a) (le_of_suc-le-suc (rw plain at c)))))
      (λ e.
      rw e (if-case (λ (k : ℕ). k ≡ 0) (covers t.settings r p) (λ _. refl)
      (λ f. absurd (omega (
        arith,
        none-covers (o + span t.settings p) ps q.2 (omega (arith, ltb-false, q.1, span_pos t.settings p)),
        rw f at c,
      )))))
    where
      not-passed : length (p ∷ ps) ≤ ahead (passed_by r t) (p ∷ ps) → passed_by r t p ≡ false
      not-passed a = by-test (passed_by r t p) (λ f. absurd (not-suc-le-zero (rw f at a))) (λ f. f)

      less : passed_by r t p ≡ false → length (p ∷ ps) ≤ ahead (passed_by r t) (p ∷ ps) → length ps ≤ ahead (passed_by r t) ps
      less f a = le_of_suc-le-suc (rw f at a)
