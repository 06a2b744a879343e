-- A pair passes exactly if its links spell its queue and its side is all that the audit asks of one side (`Good`).
use mathlib.Core.Path.{◌≡◌, sym, ap, ◌∙◌}
use mathlib.Core.Logic.{◌↔◌}
use mathlib.Core.Bool.{true}
use mathlib.Core.List.{List, [], ◌∷◌}
use Prim.Native.Nat.{ℕ, ◌+◌, ◌<◌}
use native.Mathlib.Omega.{arith}
use lib.Dec.{eqb}
use borrow.Author.Tests.{eqb-true, eqb-false}
use lib.ListN.{length, length-map}
use Rattle.refusal.specs.Choice.{Each}
use Rattle.refusal.proofs.Cases.{by-test}
use Rattle.psn.specs.Psn.{psns}
use Rattle.rules.specs.declared.Packet.{Packet}
use Rattle.rules.specs.declared.Standing.{Standing}
use Rattle.rules.specs.declared.Queue.{Queue}
use Rattle.rules.specs.declared.Pair.{Pair}
use Rattle.rules.specs.declared.Slot.{Slot}
use Rattle.rules.specs.Card.{Card}
use Rattle.rules.specs.Message.{span}
use Rattle.rules.specs.Slots.{slot_at, spelled, side_of, Spells}
use Rattle.rules.specs.WholeMessages.{Remaining, none_left}
use Rattle.rules.specs.Passes.Record.{record_passes}
use Rattle.rules.specs.Passes.Tables.{pair_passes}
use Rattle.rules.proofs.Sides.InOrder.{RunsLow, StartsLow}
use Rattle.rules.proofs.Slots.Queues.{length-follow}
use Rattle.rules.proofs.Sides.Good.{Good}
use Rattle.rules.proofs.Passes.Tests.{both, joined}
use Rattle.rules.proofs.Passes.Record.{sits, record-passes}
use Rattle.rules.proofs.Passes.Queue.{packets_in, queue-passes}

-- ---- the order says that each PSN is below 2^24

module _ (size : Packet → ℕ) (u n : ℕ) where
  runs-low : (o : ℕ) (ps : List Packet) → RunsLow size u o ps n → Each (λ p. p.psn < psns) ps
  runs-low o [] r = tt
  runs-low o (p ∷ ps) r = (r.0, runs-low (o + size p) ps r.2)

  starts-low : (ps : List Packet) → StartsLow size u ps n → Each (λ p. p.psn < psns) ps
  starts-low [] r = tt
  starts-low (p ∷ ps) r = (r.0, runs-low _ ps r.2)

nothing-low : (ps : List Packet) → length ps ≡ 0 → Each (λ p. p.psn < psns) ps
nothing-low [] e = tt
nothing-low (p ∷ ps) e = absurd (omega (arith, e))

nothing-held : (t : Standing) (ps : List Packet) → length ps ≡ 0 → Remaining t.settings ps
nothing-held t [] e = none_left
nothing-held t (p ∷ ps) e = absurd (omega (arith, e))

pub length-in : (s : List Slot) (q : Queue) → length (packets_in s q) ≡ q.held
length-in s q = length-map (spelled s q) (λ (i : ℕ). (slot_at s i).packet) ∙ length-follow s q.first q.held

-- ---- a pair

pub record Right (card : Card) (s : List Slot) (p : Pair) : Type 0 where
  pub spells : Spells card.none s p.queue (spelled s p.queue)
  pub good : Good card (side_of s p)

module _ (card : Card) (s : List Slot) (p : Pair) where
  to : pair_passes card s p ≡ true → Right card s p
  unfolding pair_passes side_of
  to e =
      let k : record_passes card p.standing (length (packets_in s p.queue)) ≡ true =
      ap (record_passes card p.standing) (length-in s p.queue) ∙ (both e).0 in
      let r = sits card p.standing (packets_in s p.queue) k in
      let h = (queue-passes card.none s p.standing p.queue).0 (both e).1 in
      let low : Each (λ p. p.psn < psns) (packets_in s p.queue) =
      by-test (eqb p.standing.state 1)
      (λ q. starts-low (span p.standing.settings) p.standing.line.u p.standing.line.n (packets_in s p.queue) (h.ordered (eqb-true p.standing.state 1 q)).starts)
      (λ q. nothing-low (packets_in s p.queue) (r.idle (eqb-false p.standing.state 1 q))) in
      record {
        spells = h.spells;
        good =
            record {
              state = r.state;
              idle = r.idle;
              bounded = r.bounded low;
              ordered = h.ordered;
              messages =
                  by-test (eqb p.standing.state 1)
                  (λ q. h.messages (eqb-true p.standing.state 1 q))
                  (λ q. nothing-held p.standing (packets_in s p.queue) (r.idle (eqb-false p.standing.state 1 q)));
              timed = r.timed;
            };
      }

  back : Right card s p → pair_passes card s p ≡ true
  unfolding pair_passes side_of
  back r =
      let g = r.good in
      joined
      (ap (record_passes card p.standing) (sym (length-in s p.queue))
      ∙ record-passes card p.standing (packets_in s p.queue) g.state g.idle g.bounded g.timed)
      ((queue-passes card.none s p.standing p.queue).1 (record { spells = r.spells; ordered = g.ordered; messages = λ _. g.messages }))

  pub pair-passes : pair_passes card s p ≡ true ↔ Right card s p
  pair-passes = (to, back)
