-- What an ACK (B = R + 1) and a NAK or RNR (B = R) share: a release before B that no read stops lets go of the packets before B and of no other; the call that does it.
use mathlib.Core.Path.{◌≡◌, refl, ap}
use mathlib.Core.Bool.{Bool, true, false, not, ◌&&◌}
use mathlib.Core.List.{List, [], ◌∷◌, append-nil}
use Prim.Native.Nat.{ℕ, ◌+◌, ◌≤◌, suc-le-suc}
use native.Mathlib.Omega.{arith}
use native.Mathlib.Nat.{add-zero, not-suc-le-zero}
use lib.Dec.{ltb}
use borrow.Author.Tests.{ltb-true, ltb-false, lt-ltb, le-ltb, lt-leb, eq-eqb, not-false}
use lib.ListN.{length, take, drop}
use Rattle.refusal.specs.Choice.{Each}
use Rattle.std.specs.Prelude.{None, Ok}
use Rattle.refusal.specs.Refusals.{first_given}
use Rattle.refusal.proofs.Cases.{by-test, if-case}
use Rattle.refusal.proofs.Each.{each-so}
use Rattle.psn.specs.Psn.{psns, distance, before}
use Rattle.rules.specs.declared.Packet.{Packet}
use Rattle.rules.specs.declared.Standing.{Standing}
use Rattle.rules.specs.declared.Answer.{Answer}
use Rattle.rules.specs.declared.Reply.TheVariants.{Answered}
use Rattle.rules.specs.Card.{Card}
use Rattle.rules.specs.Account.{Side, U, H, N, ahead}
use Rattle.rules.specs.Message.{is_read, span, unanswered}
use Rattle.rules.specs.Ranges.{bad_syndrome}
use Rattle.rules.specs.Outcome.{Departure, left_with, completions, messages_of}
use Rattle.rules.specs.Release.{release, passed_by}
use Rattle.rules.specs.Acknowledge.{inside, acknowledge}
use Rattle.rules.specs.Slots.{Tables, side, sides, freed}
use Rattle.rules.specs.Order.{◌or◌, left, right}
use Rattle.rules.specs.Audit.{Audit}
use Rattle.rules.specs.Refusals.{side_at, refusals}
use Rattle.rules.specs.Requests.{acknowledging, on}
use Rattle.rules.specs.Calls.{overlaid, call}
use Rattle.rules.specs.Errors.{Proper, ReadsFrom, BeforeR, FromR}
use Rattle.rules.proofs.Passes.Decided.{complete}
use Rattle.rules.proofs.Sides.InOrder.{RunsLow, InOrder}
use Rattle.rules.proofs.Sides.Order.{all-before, whole-or-part, Part, part-stops}
use Rattle.rules.proofs.Sides.Response.{Clear, clear}
use Rattle.rules.proofs.Calls.Moves.{side-at}

-- ---- on the account

-- those ahead of the first that passes a test do not pass it
pub ahead-fails : (test : Packet → Bool) (ps : List Packet) → Each (λ q. test q ≡ false) (take (ahead test ps) ps)
ahead-fails test [] = tt
ahead-fails test (p ∷ ps) =
    if-case (λ (k : ℕ). Each (λ q. test q ≡ false) (take k (p ∷ ps))) (test p) (λ _. tt) (λ e. (e, ahead-fails test ps))

and-if : (a b : Bool) → (a ≡ true → b ≡ false) → a && b ≡ false
and-if true b f = f refl
and-if false b f = refl

-- where every read's first unanswered PSN is at B or after it, none is passed
unpassed : (t : Standing) (b : ℕ) (ps : List Packet)
    → Each (λ (q : Packet). is_read q ≡ true → distance t.line.u b ≤ distance t.line.u (unanswered t q)) ps
    → length ps ≤ ahead (passed_by b t) ps
unpassed t b [] h = omega arith
unpassed t b (p ∷ ps) h =
    rw (and-if (is_read p) (before t.line.u (unanswered t p) b) (λ e. le-ltb _ _ (h.0 e))) (suc-le-suc (unpassed t b ps h.1))

pub unstopped : (b : ℕ) (s : Side) → ReadsFrom b s → (release b s).stopped ≡ false
unfolding release
unstopped b s h = rw (le-ltb _ (length s.packets) (unpassed s.standing b s.packets h))

-- a run from the place of B on
runs-from-b : (size : Packet → ℕ) (u b o : ℕ) (ps : List Packet) (n : ℕ) → RunsLow size u o ps n → distance u b ≤ o → Each (FromR u b) ps
runs-from-b size u b o [] n h l = tt
runs-from-b size u b o (p ∷ ps) n h l = (omega (arith, h.1), runs-from-b size u b (o + size p) ps n h.2 (omega arith))

-- where B is U, everything is from B on
all-from-u : (u b : ℕ) → distance u b ≡ 0 → (ps : List Packet) → Each (FromR u b) ps
all-from-u u b z [] = tt
all-from-u u b z (p ∷ ps) = (omega arith, all-from-u u b z ps)

module _ (b : ℕ) (s : Side) (e : (release b s).stopped ≡ false) where
  -- U is B
  pub u-is : (release b s).standing.line.u ≡ b
  u-is = ap (λ (t : Standing). t.line.u) (clear b s e).standing

  -- nothing goes but what is before B
  pub gone-before : Each (BeforeR (U s) b) (take (release b s).released s.packets)
  gone-before =
      rw (clear b s e).released
      (each-so (λ q. not (before (U s) q.psn b) ≡ false) (BeforeR (U s) b)
      (λ q z. ltb-true (distance (U s) q.psn) (distance (U s) b) (not-false (before (U s) q.psn b) z))
      (take (ahead (λ q. not (before (U s) q.psn b)) s.packets) s.packets)
      (ahead-fails (λ q. not (before (U s) q.psn b)) s.packets))

  -- and nothing before B is left
  pub left-from : InOrder s → distance (U s) b ≤ distance (U s) (H s) → Each (FromR (U s) b) (drop (release b s).released s.packets)
  left-from o near = go (whole-or-part s.standing.settings (U s) (N s) o.u-low s.packets o.starts)
    where
      c : Clear b s
      c = clear b s e

      go : RunsLow (span s.standing.settings) (U s) 0 s.packets (N s) or Part s.standing.settings (U s) s.packets
          → Each (FromR (U s) b) (drop (release b s).released s.packets)
      go (left run) =
          rw c.released
          (runs-from-b (span s.standing.settings) (U s) b (distance (U s) b)
          (drop (ahead (λ p. not (before (U s) p.psn b)) s.packets) s.packets) (N s)
          (all-before s.standing o.u-low b 0 s.packets (N s) run (omega arith) (omega (arith, near, o.u-h-n)) o.near c.none)
          (omega arith))
      go (right q) =
          by-test (ltb 0 (distance (U s) b))
          (λ f. absurd (not-suc-le-zero (rw q.is at (rw (part-stops s q b f) at c.none))))
          (λ f. all-from-u (U s) b (omega (arith, ltb-false)) (drop (release b s).released s.packets))

-- ---- the call

module _ (card : Card) (t : Tables) (p r y : ℕ) (b : List ℕ) where
  -- none of 1 to 9 is met
  pub given-none : Proper card t p r b → bad_syndrome y ≡ false → first_given (refusals card (acknowledging r y b) p (sides t)) ≡ None
  given-none f low =
      let is : side_at (sides t) p ≡ side t p = side-at t p in
      rw (lt-leb card.pairs p f.pair, is, eq-eqb (side t p).standing.state 1 f.is-ready, lt-leb psns r f.psn, low, le-ltb _ _ f.buffer)

  pub within : Proper card t p r b → inside r (side t p) ≡ true
  within f = lt-ltb _ _ f.open-range

  -- where it comes to this outcome, which flushes nothing
  module _ (a : Audit card t) (given : first_given (refusals card (acknowledging r y b) p (sides t)) ≡ None) (answer : Answer) (k : ℕ) (st : Standing)
      (is : acknowledge r y (side t p) ≡ record { answer = answer; released = k; flushed = 0; standing = st }) where
    pub replied : (call card (on p (acknowledging r y b)) t).said.reply ≡ Ok (Answered answer (messages_of (left_with 0 (take k (side t p).packets))) 0)
    unfolding call
    replied =
        rw (complete card t a, given, side-at t p, is)
        (ap (λ (ds : List Departure). Ok (Answered answer (messages_of ds) 0)) (append-nil (left_with 0 (take k (side t p).packets))))

    pub told : (call card (on p (acknowledging r y b)) t).said.buffer ≡ overlaid (completions (left_with 0 (take k (side t p).packets))) b
    unfolding call
    told =
        rw (complete card t a, given, side-at t p, is)
        (ap (λ (ds : List Departure). overlaid (completions ds) b) (append-nil (left_with 0 (take k (side t p).packets))))

    pub next-tables : (call card (on p (acknowledging r y b)) t).next ≡ freed card.none p st k t
    unfolding call
    next-tables = rw (complete card t a, given, side-at t p, is, add-zero k)
