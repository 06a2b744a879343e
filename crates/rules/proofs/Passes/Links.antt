-- The walk over the links passes exactly if the queue's record and the links spell the list.
use mathlib.Core.Path.{◌≡◌, refl, sym, ◌∙◌}
use mathlib.Core.Logic.{◌↔◌}
use mathlib.Core.Bool.{true}
use mathlib.Core.List.{List}
use Prim.Native.Nat.{ℕ, zero, suc, ◌<◌}
use native.Mathlib.Omega.{arith}
use borrow.Author.Tests.{ltb-true, eqb-true, eq-eqb, lt-ltb}
use lib.ListN.{length}
use Rattle.rules.specs.declared.Queue.{Queue}
use Rattle.rules.specs.declared.Slot.{Slot}
use Rattle.rules.specs.declared.carried.Trail.{Trail}
use Rattle.rules.specs.Slots.{slot_at, follow, spelled, Below, last_of, Linked, Spells}
use Rattle.rules.specs.Passes.Links.{trail_from, trail_step, trail_ends, trailed, links_pass}
use Rattle.rules.proofs.Slots.Queues.{length-follow}
use Rattle.rules.proofs.Passes.Tests.{both, joined}

-- what the walk over k slots must have found
pub record Ran (none : ℕ) (s : List Slot) (z : ℕ) (w : Trail) (k : ℕ) : Type 0 where
  pub ok : w.ok ≡ true
  pub below : Below (length s) (follow s w.at k)
  pub linked : Linked none s (follow s w.at k)
  -- where no slot is left, `at` is none and the last was the queue's
  pub ends : k ≡ 0 → (w.at ≡ none) × (w.last ≡ z)
  pub last : 0 < k → last_of none (follow s w.at k) ≡ z

module _ (none : ℕ) (s : List Slot) (q : Queue) where
  ran : (w : Trail) (k : ℕ) → trail_ends none q (trailed s w k) ≡ true → Ran none s q.last w k
  ran w zero e =
      let a = both e in
      let b = both a.1 in
      record {
        ok = a.0;
        below = tt;
        linked = tt;
        ends = λ _. (eqb-true w.at none b.0, eqb-true w.last q.last b.1);
        last = λ h. absurd (omega arith);
      }
  ran w (suc k) e = on k (ran (trail_step (length s) w (slot_at s w.at)) k e)
    where
      on : (k : ℕ) → Ran none s q.last (trail_step (length s) w (slot_at s w.at)) k → Ran none s q.last w (suc k)
      on zero r =
          record {
            ok = (both r.ok).0;
            below = (ltb-true w.at (length s) (both r.ok).1, tt);
            linked = ((r.ends refl).0, tt);
            ends = λ h. absurd (omega arith);
            last = λ _. (r.ends refl).1;
          }
      on (suc k) r =
          record {
            ok = (both r.ok).0;
            below = (ltb-true w.at (length s) (both r.ok).1, r.below);
            linked = (refl, r.linked);
            ends = λ h. absurd (omega arith);
            last = λ _. r.last (omega arith);
          }

  ran-back : (w : Trail) (k : ℕ) → Ran none s q.last w k → trail_ends none q (trailed s w k) ≡ true
  ran-back w zero r = joined r.ok (joined (eq-eqb w.at none (r.ends refl).0) (eq-eqb w.last q.last (r.ends refl).1))
  ran-back w (suc zero) r =
      joined (joined r.ok (lt-ltb w.at (length s) r.below.0))
      (joined (eq-eqb (slot_at s w.at).link none r.linked.0) (eq-eqb w.at q.last (r.last (omega arith))))
  ran-back w (suc (suc k)) r =
      ran-back (trail_step (length s) w (slot_at s w.at)) (suc k)
      (record {
        ok = joined r.ok (lt-ltb w.at (length s) r.below.0);
        below = r.below.1;
        linked = r.linked.1;
        ends = λ h. absurd (omega arith);
        last = λ _. r.last (omega arith);
      })

  pub spells-passes : links_pass none s q ≡ true ↔ Spells none s q (spelled s q)
  unfolding links_pass
  spells-passes = (λ e. to q.held refl (ran (trail_from none q) q.held e), λ r. ran-back (trail_from none q) q.held (back q.held refl r))
    where
      to : (k : ℕ) → q.held ≡ k → Ran none s q.last (trail_from none q) q.held → Spells none s q (spelled s q)
      to zero e r =
          record {
            first = (r.ends e).0 ∙ rw e;
            last = sym (r.ends e).1 ∙ rw e;
            held = sym (length-follow s q.first q.held);
            linked = r.linked;
            below = r.below;
          }
      to (suc k) e r =
          record {
            first = rw e;
            last = sym (r.last (omega (arith, e)));
            held = sym (length-follow s q.first q.held);
            linked = r.linked;
            below = r.below;
          }

      back : (k : ℕ) → q.held ≡ k → Spells none s q (spelled s q) → Ran none s q.last (trail_from none q) q.held
      back zero e r =
          record {
            ok = refl;
            below = r.below;
            linked = r.linked;
            ends = λ _. (rw e at r.first, sym (rw e at r.last));
            last = λ h. absurd (omega (arith, e));
          }
      back (suc k) e r =
          record {
            ok = refl;
            below = r.below;
            linked = r.linked;
            ends = λ h. absurd (omega (arith, e, h));
            last = λ _. sym r.last;
          }
