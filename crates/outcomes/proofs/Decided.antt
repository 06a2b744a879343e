-- With what a scan has found, the decisions are the rules': a release, an acknowledgement, a read response.
use Rattle.std.specs.Prelude.{Option, if◌then◌else◌}
use mathlib.Core.Path.{◌≡◌, sym, ap, ◌∙◌}
use mathlib.Core.Bool.{Bool, true, false, not}
use mathlib.Core.List.{List, [], ◌∷◌}
use Prim.Native.Nat.{ℕ, zero, suc, ◌-◌, ◌≤◌, ◌<◌}
use native.Mathlib.Omega.{arith}
use native.Mathlib.Nat.{not-suc-le-zero, le_of_suc-le-suc}
use lib.Dec.{ltb, leb, eqb}
use borrow.Author.Tests.{ltb-true, ltb-false}
use lib.ListN.{length, get_or}
use Rattle.psn.specs.Psn.{before, next}
use Rattle.refusal.proofs.Cases.{by-test}
use Rattle.rules.specs.declared.Packet.{Packet}
use Rattle.rules.specs.declared.Release.{Release}
use Rattle.rules.specs.declared.Outcome.{Outcome}
use Rattle.rules.specs.declared.Settings.{Settings}
use Rattle.rules.specs.Account.{Side, U, ahead, no_packet}
use Rattle.rules.specs.Ranges.{top_bits, low_bits}
use Rattle.rules.specs.Message.{unanswered}
use Rattle.rules.specs.Release.{advanced, passed_by, release}
use Rattle.rules.specs.Acknowledge.{inside, answered, ack, rnr, ended_after, resending, wait_of, acknowledge}
use Rattle.rules.specs.Response.{read_at, at_last, responded, response}
use Rattle.rules.proofs.Sides.InOrder.{InOrder}
use Rattle.rules.proofs.Sides.Order.{ahead-most}
use Rattle.rules.specs.Release.{stays}
use Rattle.rules.proofs.Sides.Scan.{released-is}
use Rattle.outcomes.specs.declared.Found.{Found}
use Rattle.outcomes.specs.Finding.{found_in, bound_of}
use Rattle.outcomes.specs.Deciding.{release_by, acknowledged, responded_to}

-- an acknowledgement looks at one release alone
pub bound-is : (s : Settings) (r y held : ℕ) (before : ℕ → Release) → answered s 0 y held (λ _. before (bound_of r y)) ≡ answered s r y held before
bound-is s r y held before = by-test (eqb (top_bits y) 0) (λ e. rw e) (λ e. rw e)

-- the first that passes a test passes it
pub holds : (test : Packet → Bool) (ps : List Packet) → ahead test ps < length ps → test (get_or ps (ahead test ps) no_packet) ≡ true
holds test [] h = absurd (not-suc-le-zero h)
holds test (p ∷ ps) h =
    by-test (test p) (λ e. rw e e) (λ e. rw e (holds test ps (le_of_suc-le-suc (rw e at h))))

-- where none passes it, none at any place does
fails : (test : Packet → Bool) (ps : List Packet) (i : ℕ) → length ps ≤ ahead test ps → i < length ps → test (get_or ps i no_packet) ≡ false
fails test [] i h b = absurd (not-suc-le-zero b)
fails test (p ∷ ps) zero h b = by-test (test p) (λ e. absurd (not-suc-le-zero (rw e at h))) (λ e. e)
fails test (p ∷ ps) (suc i) h b =
    by-test (test p) (λ e. absurd (not-suc-le-zero (rw e at h))) (λ e. fails test ps i (le_of_suc-le-suc (rw e at h)) (le_of_suc-le-suc b))

module _ (s : Side) (o : InOrder s) (b : ℕ) (l : List ℕ) where
  all : ℕ
  all = length s.packets

  staying : ℕ
  staying = ahead (stays b s.standing) s.packets

  halt : Packet
  halt = get_or s.packets staying no_packet

  to_read : ℕ
  to_read = ahead (passed_by b s.standing) s.packets

  out : Option Found
  out = found_in (stays b s.standing) l s.packets

  -- one stays, or none does
  some : (stops : Bool) → ltb staying all ≡ true → passed_by b s.standing halt ≡ stops
      → release_by all out s.standing b
      ≡ record { stopped = stops; released = staying; standing = advanced (if stops then unanswered s.standing halt else b) s.standing }
  unfolding all staying halt out
  some stops h e = rw h (λ i. record { stopped = e i; released = back i; standing = advanced (if e i then unanswered s.standing halt else b) s.standing })
    where
      back : all - (all - staying) ≡ staying
      back = omega (arith, ahead-most (stays b s.standing) s.packets)

  none : ltb staying all ≡ false → release_by all out s.standing b ≡ record { stopped = false; released = staying; standing = advanced b s.standing }
  unfolding all staying out
  none h = rw h (λ i. record { stopped = false; released = same i; standing = advanced b s.standing })
    where
      same : all ≡ staying
      same = omega (arith, ltb-false staying all h, ahead-most (stays b s.standing) s.packets)

  stopped-is : ltb to_read all ≡ true
      → release b s ≡ record { stopped = true; released = to_read; standing = advanced (unanswered s.standing (get_or s.packets to_read no_packet)) s.standing }
  unfolding all to_read release
  stopped-is e = rw e

  clear-is : ltb to_read all ≡ false
      → release b s
      ≡ record { stopped = false; released = ahead (λ p. not (before (U s) p.psn b)) s.packets; standing = advanced b s.standing }
  unfolding all to_read release
  clear-is e = rw e

  at_read : ltb to_read all ≡ true → to_read ≡ staying
  unfolding staying
  at_read e = ap (λ (g : Release). g.released) (sym (stopped-is e)) ∙ released-is s o b

  -- the first record that stays tells the whole release
  pub release-is : release_by (length s.packets) (found_in (stays b s.standing) l s.packets) s.standing b ≡ release b s
  unfolding all staying halt to_read out
  release-is =
      by-test (ltb to_read all)
      (λ e.
      some true (rw (← at_read e) e) (rw (← at_read e) (holds (passed_by b s.standing) s.packets (ltb-true to_read all e)))
      ∙ ap (λ (k : ℕ). record { stopped = true; released = k; standing = advanced (unanswered s.standing (get_or s.packets k no_packet)) s.standing }) (sym (at_read e))
      ∙ sym (stopped-is e))
      (λ e.
      clear e
      ∙ ap (λ (k : ℕ). record { stopped = false; released = k; standing = advanced b s.standing }) (sym (released-is s o b) ∙ ap (λ (g : Release). g.released) (clear-is e))
      ∙ sym (clear-is e))
    where
      clear : ltb to_read all ≡ false → release_by all out s.standing b ≡ record { stopped = false; released = staying; standing = advanced b s.standing }
      clear e =
          by-test (ltb staying all)
          (λ h. some false h (fails (passed_by b s.standing) s.packets staying (ltb-false to_read all e) (ltb-true staying all h)))
          none

module _ (s : Side) (o : InOrder s) (l : List ℕ) where
  pub acknowledge-is : (r y : ℕ)
      → acknowledged r y (length s.packets) (found_in (stays (bound_of r y) s.standing) l s.packets) s.standing ≡ acknowledge r y s
  unfolding acknowledge
  acknowledge-is r y =
      by-test (inside r s)
      (λ i. rw i
      (by-test (eqb (top_bits y) 0)
      (λ e. rw e (ap ack (release-is s o (next r) l)))
      (λ e. rw e (ap other (release-is s o r l)))))
      (λ i. rw i)
    where
      other : Release → Outcome
      other g =
          if eqb (top_bits y) 1 then rnr s.standing.settings (wait_of (low_bits y)) (length s.packets) g
          else if leb (low_bits y) 2 then resending g
          else ended_after (length s.packets) g

  pub response-is : (r : ℕ)
      → responded_to r (length s.packets) (found_in (stays r s.standing) l s.packets) (read_at r s) s.standing ≡ response r s
  unfolding response
  response-is r =
      by-test (inside r s)
      (λ i. rw i (ap (responded (U s) r (at_last s.standing.settings r (read_at r s))) (release-is s o r l)))
      (λ i. rw i)
