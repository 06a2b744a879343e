-- A response that fits leaves the pair ready and in order.
use Rattle.std.specs.Prelude.{if◌then◌else◌}
use mathlib.Core.Path.{◌≡◌, refl, sym, ◌∙◌, subst}
use mathlib.Core.Bool.{true, false, not, true≢false}
use mathlib.Core.List.{List, ◌∷◌}
use Prim.Native.Nat.{ℕ, suc, ◌+◌, ◌-◌, ◌≤◌, ◌<◌}
use native.Mathlib.Omega.{arith}
use native.Mathlib.Nat.{add-zero, not-suc-le-zero}
use lib.Dec.{ltb, eqb}
use borrow.Author.Tests.{ltb-true, ltb-false, le-ltb, lt-ltb, eqb-true, eqb-false, ne_eqb, not-false}
use lib.ListN.{length, drop}
use lib.Seq.{drop-cons, drop-drop}
use Rattle.refusal.proofs.Cases.{by-test, if-case}
use Rattle.rules.specs.declared.Packet.{Packet}
use Rattle.rules.specs.declared.Answer.TheVariants.{Resending}
use Rattle.rules.specs.declared.Outcome.{Outcome}
use Rattle.psn.specs.Psn.{psns, half, distance, plus, before}
use Rattle.rules.specs.Account.{Side, U, X, H, N, ahead, no_packet, further}
use Rattle.rules.specs.Message.{span}
use Rattle.rules.specs.Release.{advanced, release, passed_by}
use Rattle.rules.specs.Acknowledge.{inside}
use Rattle.rules.specs.Response.{covers, read_at, at_last, taken, response}
use Rattle.rules.specs.Order.{◌or◌, left, right}
use Rattle.rules.proofs.Sides.InOrder.{RunsLow, StartsLow, InOrder}
use Rattle.psn.proofs.Laws.{distance-zero, distance-from, distance-step, distance-plus}
use Rattle.rules.proofs.Sides.After.{leaving}
use Rattle.rules.proofs.Sides.Order.{ahead-most, whole-or-part, Part, none_before, ordered-release, part-stops}
use Rattle.rules.specs.Release.{stays}
use Rattle.rules.proofs.Sides.Scan.{released-is}
use Rattle.rules.proofs.Sides.Responded.{covers-first, ordered-last, ordered-inside}
use Rattle.rules.proofs.Sides.Acknowledge.{Fine, release-keeps, again}

-- a release that is not stopped
pub record Clear (b : ℕ) (s : Side) : Type 0 where
  pub none : length s.packets ≤ ahead (passed_by b s.standing) s.packets
  pub standing : (release b s).standing ≡ advanced b s.standing
  pub released : (release b s).released ≡ ahead (λ p. not (before (U s) p.psn b)) s.packets

pub clear : (b : ℕ) (s : Side) → (release b s).stopped ≡ false → Clear b s
unfolding release
clear b s e =
    by-test (ltb (ahead (passed_by b s.standing) s.packets) (length s.packets))
    (λ q. absurd (true≢false (rw q at e)))
    (λ q. record { none = ltb-false _ (length s.packets) q; standing = rw q; released = rw q })

module _ (s : Side) (ready : s.standing.state ≡ 1) (o : InOrder s) (r : ℕ) (low : r < psns) (h : inside r s ≡ true)
    (one : ahead (covers s.standing.settings r) s.packets < length s.packets) where
  in-range : distance (U s) r < distance (U s) (H s)
  in-range = ltb-true (distance (U s) r) (distance (U s) (H s)) h

  -- as many are released as stand ahead of the read
  released-is-ahead : (release r s).stopped ≡ false → (release r s).released ≡ ahead (covers s.standing.settings r) s.packets
  released-is-ahead e = c.released ∙ sym (go (whole-or-part s.standing.settings (U s) (N s) o.u-low s.packets o.starts))
    where
      c : Clear r s
      c = clear r s e

      go : RunsLow (span s.standing.settings) (U s) 0 s.packets (N s) or Part s.standing.settings (U s) s.packets
          → ahead (covers s.standing.settings r) s.packets ≡ ahead (λ p. not (before (U s) p.psn r)) s.packets
      go (left q) = covers-first s.standing o.u-low r low (N s) o.near 0 s.packets q (omega arith) c.none one
      go (right q) =
          by-test (ltb 0 (distance (U s) r))
          (λ f. absurd (not-suc-le-zero (rw q.is at (rw (part-stops s q r f) at c.none))))
          (λ f.
          let z : distance (U s) r ≡ 0 = omega (arith, ltb-false) in
          covered (distance-zero (U s) r o.u-low low z) ∙ sym (none_before s.standing r z s.packets))
        where
          covered : r ≡ U s → ahead (covers s.standing.settings r) s.packets ≡ 0
          covered f = rw q.is (rw (f, lt-ltb (distance q.head.psn (U s)) (span s.standing.settings q.head) q.inside, q.read))

  -- so what is left starts with it
  left_is : (release r s).stopped ≡ false → drop (release r s).released s.packets ≡ read_at r s ∷ drop (suc (release r s).released) s.packets
  left_is e = rw (released-is-ahead e) (drop-cons s.packets (ahead (covers s.standing.settings r) s.packets) no_packet one)

  module _ (small : span s.standing.settings (read_at r s) ≤ suc half) (e : (release r s).stopped ≡ false) where
    -- the pair once all before r are released
    mid : Side
    mid = record { standing = advanced r s.standing; packets = drop (release r s).released s.packets }

    mid-ordered : InOrder mid
    unfolding mid
    mid-ordered = rw (← (clear r s e).standing) (ordered-release s o r low (omega (arith, in-range)))

    mid-sent : 1 ≤ distance r (H s)
    mid-sent = omega (arith, in-range, distance-from (U s) r (H s) (omega (arith, in-range)))

    within : distance (read_at r s).psn r < span s.standing.settings (read_at r s)
    unfolding mid
    within = (subst (λ (l : List Packet). StartsLow (span s.standing.settings) r l (N s)) (left_is e) mid-ordered.starts).1

    one_on : InOrder (record {
      standing = advanced (plus r 1) (advanced r s.standing);
      packets = drop ((release r s).released + (if eqb (suc (distance (read_at r s).psn r)) (span s.standing.settings (read_at r s)) then 1 else 0)) s.packets;
    })
    unfolding mid
    one_on =
        if-case (λ (last : ℕ). InOrder (record { standing = advanced (plus r 1) (advanced r s.standing); packets = drop ((release r s).released + last) s.packets }))
        (eqb (suc (distance (read_at r s).psn r)) (span s.standing.settings (read_at r s)))
        (λ q.
        rw (← drop-drop 1 (release r s).released s.packets)
        (ordered-last mid mid-ordered (read_at r s) (drop (suc (release r s).released) s.packets) (left_is e) small mid-sent
        (eqb-true (suc (distance (read_at r s).psn r)) (span s.standing.settings (read_at r s)) q)))
        (λ q.
        rw (← drop-drop 0 (release r s).released s.packets)
        (ordered-inside mid mid-ordered (read_at r s) (drop (suc (release r s).released) s.packets) (left_is e) small mid-sent
        (omega (arith, within, eqb-false (suc (distance (read_at r s).psn r)) (span s.standing.settings (read_at r s)) q))))

-- seen from the U that the call found, or from R: the same
seen : (u r x : ℕ) → u < psns → r < psns → distance u r < half → distance u r ≤ distance u x → before u x (plus r 1) ≡ before r x (plus r 1)
seen u r x h l n m =
    rw (distance-step u r 1 (omega arith), distance-plus r 1 (omega arith), distance-from u r x m)
    (by-test (ltb (distance u x) (distance u r + 1))
    (λ e. e ∙ sym (lt-ltb (distance u x - distance u r) 1 (omega (arith, ltb-true (distance u x) (distance u r + 1) e))))
    (λ e. e ∙ sym (le-ltb (distance u x - distance u r) 1 (omega (arith, ltb-false (distance u x) (distance u r + 1) e)))))

taken_is : (s : Side) → InOrder s → (r : ℕ) → r < psns → inside r s ≡ true
    → taken (U s) (plus r 1) (advanced r s.standing) ≡ advanced (plus r 1) (advanced r s.standing)
taken_is s o r low h =
    rw (
      seen (U s) r (further (U s) (X s) r) o.u-low low (omega (arith, ltb-true, o.u-h-n, o.near))
          (if-case (λ (x : ℕ). distance (U s) r ≤ distance (U s) x) (before (U s) (X s) r) (λ _. omega arith) (λ e. ltb-false (distance (U s) (X s)) (distance (U s) r) e)),
      ne_eqb (plus r 1) r (λ e. omega (arith, e)),
    )

-- a response that fits if it is inside the open range
pub fine-response : (s : Side) → s.standing.state ≡ 1 → InOrder s → (r : ℕ) → r < psns
    → (inside r s ≡ true → (ahead (covers s.standing.settings r) s.packets < length s.packets) × (span s.standing.settings (read_at r s) ≤ suc half))
    → Fine s (response r s)
unfolding response
fine-response s ready o r low fits =
    if-case (Fine s) (not (inside r s)) (λ _. record { settings = refl; fate = left (ready, o) }) (λ e.
    let h = not-false (inside r s) e in
    let one = (fits h).0 in
    if-case (Fine s) (release r s).stopped
    (λ _. again s ready o r low h r low (omega (arith, in-range s ready o r low h one)) Resending _ _)
    (λ f. record {
      settings = (release-keeps s ready o r).1;
      fate = left ((release-keeps s ready o r).0, rw (add-zero, (clear r s f).standing, taken_is s o r low h) (one_on s ready o r low h one (fits h).1 f));
    }))

-- at most what is held leaves
pub response-most : (s : Side) → s.standing.state ≡ 1 → InOrder s → (r : ℕ) → r < psns
    → (inside r s ≡ true → ahead (covers s.standing.settings r) s.packets < length s.packets) → leaving (response r s) ≤ length s.packets
unfolding response
response-most s ready o r low fits =
    if-case (λ (x : Outcome). leaving x ≤ length s.packets) (not (inside r s)) (λ _. omega arith) (λ e.
    let h = not-false (inside r s) e in
    let one = fits h in
    if-case (λ (x : Outcome). leaving x ≤ length s.packets) (release r s).stopped
    (λ _. omega (arith, released-is s o r, ahead-most (stays r s.standing) s.packets))
    (λ f. omega (arith, released-is-ahead s ready o r low h one f, one, last)))
  where
    last : (if at_last s.standing.settings r (read_at r s) then 1 else 0) ≤ 1
    last = if-case (λ (n : ℕ). n ≤ 1) (at_last s.standing.settings r (read_at r s)) (λ _. omega arith) (λ _. omega arith)
