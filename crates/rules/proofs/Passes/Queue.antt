-- One pair's queue passes exactly if its links spell it and, where the pair is ready, bullets 3 and 4 of the audit hold of it.
use Rattle.std.specs.Prelude.{Some}
use mathlib.Core.Path.{◌≡◌, refl, sym, ap, ◌∙◌}
use mathlib.Core.Logic.{◌↔◌}
use mathlib.Core.Bool.{true}
use mathlib.Core.List.{List, map}
use Prim.Native.Nat.{ℕ, zero, suc}
use lib.Dec.{eqb}
use borrow.Author.Tests.{eqb-true, eq-eqb}
use lib.ListN.{length}
use Rattle.rules.specs.declared.Packet.{Packet}
use Rattle.rules.specs.declared.Standing.{Standing}
use Rattle.rules.specs.declared.Queue.{Queue}
use Rattle.rules.specs.declared.Slot.{Slot}
use Rattle.rules.specs.declared.carried.Stage.TheVariants.{Start}
use Rattle.rules.specs.declared.carried.Walk.{Walk}
use Rattle.rules.specs.Slots.{slot_at, follow, spelled, Spells}
use Rattle.rules.specs.WholeMessages.{Remaining}
use Rattle.rules.specs.Passes.Course.{course_from, course_ends}
use Rattle.rules.specs.Passes.Links.{trail_ends, trailed, links_pass}
use Rattle.rules.specs.Passes.Queue.{walk_from, step, walked, queue_passes}
use Rattle.rules.specs.Passes.Stage.{stage_ends}
use Rattle.rules.proofs.Sides.InOrder.{InOrder}
use Rattle.refusal.proofs.Cases.{by-test}
use Rattle.rules.proofs.Passes.Tests.{both, joined}
use Rattle.rules.proofs.Passes.Links.{spells-passes}
use Rattle.rules.proofs.Passes.Course.{coursed, ordered-passes}
use Rattle.rules.proofs.Passes.StageSound.{run, held_of}
use Rattle.rules.proofs.Passes.StageComplete.{held-pass}

-- the packets of a queue
abbrev pub packets_in : List Slot → Queue → List Packet
packets_in s q = map (λ i. (slot_at s i).packet) (spelled s q)

-- what a queue that passes is
pub record Holds (none : ℕ) (s : List Slot) (t : Standing) (q : Queue) : Type 0 where
  pub spells : Spells none s q (spelled s q)
  pub ordered : t.state ≡ 1 → InOrder (record { standing = t; packets = packets_in s q })
  pub messages : t.state ≡ 1 → Remaining t.settings (packets_in s q)

module _ (t : Standing) (s : List Slot) where
  seen : ℕ → ℕ → List Packet
  seen at k = map (λ i. (slot_at s i).packet) (follow s at k)

  -- a walk of three is three walks
  walk-trail : (w : Walk) (k : ℕ) → (walked t s w k).trail ≡ trailed s w.trail k
  walk-trail w zero = refl
  walk-trail w (suc k) = walk-trail (step (length s) t w (slot_at s w.trail.at)) k

  walk-course : (w : Walk) (k : ℕ) → (walked t s w k).course ≡ coursed t.settings t.line w.course (seen w.trail.at k)
  unfolding seen
  walk-course w zero = refl
  walk-course w (suc k) = walk-course (step (length s) t w (slot_at s w.trail.at)) k

  walk-stage : (w : Walk) (k : ℕ) → (walked t s w k).stage ≡ run t.settings w.stage (seen w.trail.at k)
  unfolding seen
  walk-stage w zero = refl
  walk-stage w (suc k) = walk-stage (step (length s) t w (slot_at s w.trail.at)) k

module _ (none : ℕ) (s : List Slot) (t : Standing) (q : Queue) where
  w : Walk
  w = walked t s (walk_from none q) q.held

  trail_is : trail_ends none q w.trail ≡ links_pass none s q
  unfolding w links_pass
  trail_is = ap (trail_ends none q) (walk-trail t s (walk_from none q) q.held)

  course-is : course_ends t.line w.course ≡ course_ends t.line (coursed t.settings t.line course_from (packets_in s q))
  unfolding w seen
  course-is = ap (course_ends t.line) (walk-course t s (walk_from none q) q.held)

  stage_is : stage_ends w.stage ≡ stage_ends (run t.settings (Some Start) (packets_in s q))
  unfolding w seen
  stage_is = ap stage_ends (walk-stage t s (walk_from none q) q.held)

  to : queue_passes none s t q ≡ true → Holds none s t q
  unfolding queue_passes w
  to e =
      record {
        spells = (spells-passes none s q).0 (sym trail_is ∙ (both e).0);
        ordered = λ r. let a = both (rw (eq-eqb t.state 1 r) at (both e).1) in (ordered-passes t (packets_in s q)).0 (joined a.0 (sym course-is ∙ (both a.1).0));
        messages = λ r. let a = both (rw (eq-eqb t.state 1 r) at (both e).1) in held_of t.settings (packets_in s q) (sym stage_is ∙ (both a.1).1);
      }

  back : Holds none s t q → queue_passes none s t q ≡ true
  unfolding queue_passes w
  back h =
      joined (trail_is ∙ (spells-passes none s q).1 h.spells)
      (by-test (eqb t.state 1)
      (λ r.
      let k = eqb-true t.state 1 r in
      let o = both ((ordered-passes t (packets_in s q)).1 (h.ordered k)) in
      rw r (joined o.0 (joined (course-is ∙ o.1) (stage_is ∙ held-pass t.settings (h.messages k)))))
      (λ r. rw r))

  pub queue-passes : queue_passes none s t q ≡ true ↔ Holds none s t q
  queue-passes = (to, back)
