-- Packets go from X upward in PSN order: the first that goes out carries PSN X, and each next one starts where the one before ends.
use mathlib.Core.Path.{◌≡◌, refl, sym, ap, ◌∙◌}
use mathlib.Core.Bool.{false}
use mathlib.Core.List.{List, [], ◌∷◌}
use Prim.Native.Nat.{ℕ, suc, ◌+◌, ◌-◌, ◌≤◌, ◌<◌}
use native.Mathlib.Omega.{arith}
use lib.Dec.{eqb}
use borrow.Author.Tests.{ltb-true, ltb-false, lt-ltb, eqb-true, eqb-false}
use lib.ListN.{drop}
use Rattle.refusal.specs.Choice.{Each}
use Rattle.refusal.proofs.Cases.{by-test, if-case}
use Rattle.rules.specs.declared.Packet.{Packet}
use Rattle.rules.specs.declared.Standing.{Standing}
use Rattle.psn.specs.Psn.{psns, half, distance, before}
use Rattle.rules.specs.Card.{Card}
use Rattle.rules.specs.Account.{Side, U, X, N, ahead}
use Rattle.rules.specs.Message.{is_read, span}
use Rattle.rules.specs.Emission.{ends, waiting, sent}
use Rattle.rules.specs.Slots.{Tables, side}
use Rattle.rules.specs.Order.{◌or◌, left, right, Start}
use Rattle.rules.specs.Audit.{Audit}
use Rattle.rules.proofs.Sides.InOrder.{RunsLow, StartsLow, InOrder, audited-order}
use Rattle.psn.proofs.Laws.{distance-same, distance-step, distance-inj, distance-zero}
use Rattle.rules.proofs.Ranges.{in-range}
use Rattle.rules.proofs.Sides.Order.{runs-end, span_pos, unanswered-is}
use Rattle.rules.proofs.Sides.Good.{spans-small}
use Rattle.rules.proofs.Sides.Responded.{start-past, first-behind}
use Rattle.rules.proofs.Sides.Emitted.{first_ends}

-- each carries the PSN where the one before ends
abbrev pub Upward : Standing → ℕ → List Packet → Type 0
Upward t x [] = Unit {0}
Upward t x (p ∷ ps) = ((sent t p).psn ≡ x) × Upward t (ends t.settings p) ps

module _ (t : Standing) (u-low : t.line.u < psns) (n : ℕ) (n-low : n < psns) (near : distance t.line.u n ≤ half) where
  -- a record that is not partly answered carries its own PSN
  own : (o : ℕ) (p : Packet) (ps : List Packet) → RunsLow (span t.settings) t.line.u o (p ∷ ps) n → (sent t p).psn ≡ p.psn
  own o p ps r =
      if-case (λ (q : Packet). q.psn ≡ p.psn) (is_read p)
      (λ _. unanswered-is t u-low 0 p r.0 (omega (arith, r.1, near, runs-end (span t.settings) t.line.u u-low (o + span t.settings p) ps n r.2)))
      (λ _. refl)

  runs-upward : (o x : ℕ) (ps : List Packet) → x < psns → distance t.line.u x ≡ o → RunsLow (span t.settings) t.line.u o ps n → Upward t x ps
  runs-upward o x [] low e r = tt
  runs-upward o x (p ∷ ps) low e r = (
    own o p ps r ∙ distance-inj t.line.u p.psn x r.0 low (r.1 ∙ sym e),
    runs-upward (o + span t.settings p) (ends t.settings p) ps (omega arith)
        (omega (
          arith,
          r.1,
          distance-step t.line.u p.psn (span t.settings p)
              (omega (arith, r.1, near, runs-end (span t.settings) t.line.u u-low (o + span t.settings p) ps n r.2)),
        ))
        r.2,
  )

  -- the records that end after x, where x is a start or N
  runs-waiting : (x o : ℕ) (ps : List Packet) → x < psns → RunsLow (span t.settings) t.line.u o ps n → (x ≡ n) or Start x ps
      → Upward t x (drop (ahead (λ q. before t.line.u x (ends t.settings q)) ps) ps)
  runs-waiting x o [] low r s = tt
  runs-waiting x o (p ∷ ps) low r s =
      let u = t.line.u in
      let end = runs-end (span t.settings) u u-low (o + span t.settings p) ps n r.2 in
      let step = distance-step u p.psn (span t.settings p) (omega (arith, r.1, near, end)) in
      by-test (before u x (ends t.settings p))
      (λ e.
      let early : distance u x < o + span t.settings p = omega (arith, ltb-true (distance u x) (distance u (ends t.settings p)) e, step, r.1) in
      rw e (runs-upward o x (p ∷ ps) low (first early s) r))
      (λ e.
      let late : o + span t.settings p ≤ distance u x = omega (arith, ltb-false (distance u x) (distance u (ends t.settings p)) e, step, r.1) in
      rw e (runs-waiting x (o + span t.settings p) ps low r.2 (next late s)))
    where
      first : distance t.line.u x < o + span t.settings p → (x ≡ n) or Start x (p ∷ ps) → distance t.line.u x ≡ o
      first early (left q) =
          absurd (omega (arith, ap (distance t.line.u) q, runs-end (span t.settings) t.line.u u-low (o + span t.settings p) ps n r.2))
      first early (right (left q)) = ap (distance t.line.u) q ∙ r.1
      first early (right (right q)) = absurd (omega (arith, start-past (span t.settings) t.line.u (o + span t.settings p) n x ps r.2 q))

      next : o + span t.settings p ≤ distance t.line.u x → (x ≡ n) or Start x (p ∷ ps) → (x ≡ n) or Start x ps
      next late (left q) = left q
      next late (right (left q)) = absurd (omega (arith, ap (distance t.line.u) q, r.1, span_pos t.settings p))
      next late (right (right q)) = right q

-- ---- what waits, in order

-- the record at U carries PSN U
at-u : (t : Standing) (p : Packet) → t.line.u < psns → p.psn < psns → distance p.psn t.line.u < span t.settings p → (sent t p).psn ≡ t.line.u
at-u t p u-low low h =
    if-case (λ (q : Packet). q.psn ≡ t.line.u) (is_read p)
    (λ _. rw (lt-ltb (distance p.psn t.line.u) (span t.settings p) h))
    (λ e. sym (distance-zero p.psn t.line.u low u-low (omega (arith, one e))))
  where
    one : is_read p ≡ false → span t.settings p ≡ 1
    one e = rw e

module _ (s : Side) (o : InOrder s) (p : Packet) (ps : List Packet) (h : StartsLow (span s.standing.settings) (U s) (p ∷ ps) (N s))
    (z : span s.standing.settings p ≤ suc half) where
  abbrev rest : ℕ
  rest = span s.standing.settings p - distance p.psn (U s)

  end : distance (U s) (ends s.standing.settings p) ≡ rest
  end = first_ends s.standing.settings (U s) o.u-low (N s) o.n-low o.near p ps h

  behind : X s ≡ p.psn → 1 ≤ distance (U s) (X s) → ⊥
  behind q l =
      first-behind (span s.standing.settings) (U s) (N s) p ps o.u-low h z (X s) q l (omega (arith, o.u-x-h, o.u-h-n, o.near))

  here : distance (U s) (X s) < rest → (X s ≡ U s) or (X s ≡ N s) or Start (X s) (p ∷ ps) → X s ≡ U s
  here early (left q) = q
  here early (right (left q)) = absurd (omega (arith, ap (distance (U s)) q, runs-end (span s.standing.settings) (U s) o.u-low rest ps (N s) h.2))
  here early (right (right (left q))) =
      by-test (eqb (distance (U s) (X s)) 0)
      (λ e. distance-zero (U s) (X s) o.u-low o.x-low (eqb-true (distance (U s) (X s)) 0 e))
      (λ e. absurd (behind q (omega (arith, eqb-false (distance (U s) (X s)) 0 e))))
  here early (right (right (right q))) = absurd (omega (arith, start-past (span s.standing.settings) (U s) rest (N s) (X s) ps h.2 q))

  there : rest ≤ distance (U s) (X s) → (X s ≡ U s) or (X s ≡ N s) or Start (X s) (p ∷ ps) → (X s ≡ N s) or Start (X s) ps
  there late (left q) = absurd (omega (arith, ap (distance (U s)) q, distance-same (U s), h.1))
  there late (right (left q)) = left q
  there late (right (right (left q))) = absurd (behind q (omega (arith, h.1)))
  there late (right (right (right q))) = right q

  from_first : (X s ≡ U s) or (X s ≡ N s) or Start (X s) (p ∷ ps)
      → Upward s.standing (X s) (drop (ahead (λ q. before (U s) (X s) (ends s.standing.settings q)) (p ∷ ps)) (p ∷ ps))
  from_first x =
      by-test (before (U s) (X s) (ends s.standing.settings p))
      (λ e.
      let early : distance (U s) (X s) < rest = omega (arith, ltb-true (distance (U s) (X s)) (distance (U s) (ends s.standing.settings p)) e, end) in
      rw e (
        at-u s.standing p o.u-low h.0 h.1 ∙ sym (here early x),
        runs-upward s.standing o.u-low (N s) o.n-low o.near rest (ends s.standing.settings p) ps (omega arith) end h.2,
      ))
      (λ e.
      let late : rest ≤ distance (U s) (X s) = omega (arith, ltb-false (distance (U s) (X s)) (distance (U s) (ends s.standing.settings p)) e, end) in
      rw e (runs-waiting s.standing o.u-low (N s) o.n-low o.near (X s) rest ps o.x-low h.2 (there late x)))

pub upward : (s : Side) → InOrder s → Each (λ p. span s.standing.settings p ≤ suc half) s.packets → Upward s.standing (X s) (waiting s)
upward s o small = go s.packets o.starts small o.x-stands
  where
    go : (ps : List Packet) → StartsLow (span s.standing.settings) (U s) ps (N s) → Each (λ p. span s.standing.settings p ≤ suc half) ps
        → (X s ≡ U s) or (X s ≡ N s) or Start (X s) ps
        → Upward s.standing (X s) (drop (ahead (λ q. before (U s) (X s) (ends s.standing.settings q)) ps) ps)
    go [] h z x = tt
    go (p ∷ ps) h z x = from_first s o p ps h z.0 x

-- from audited tables
pub audited-upward : (card : Card) (t : Tables) → Audit card t → (p : ℕ) → p < card.pairs → (side t p).standing.state ≡ 1
    → Upward (side t p).standing (X (side t p)) (waiting (side t p))
audited-upward card t a p h ready =
    upward (side t p) (audited-order a p h ready) (spans-small (side t p).standing.settings (in-range (a.bounded p h (omega arith)).settings).pmtu-low (a.messages p h))
