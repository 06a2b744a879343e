-- Slots are put one after the other by their links; and what pairs hold. Assumes nothing.
use mathlib.Core.Path.{◌≡◌, ap, ◌∙◌}
use mathlib.Core.Bool.{Bool}
use mathlib.Core.List.{List, [], ◌∷◌, ◌++◌}
use Prim.Native.Nat.{ℕ, suc, ◌+◌, ◌-◌, ◌<◌, ◌≤◌}
use native.Mathlib.Omega.{arith}
use Rattle.text.specs.Out.{Out, put_all}
use Rattle.rules.specs.declared.Pair.{Pair}
use Rattle.rules.specs.declared.Slot.{Slot}
use Rattle.rules.specs.Slots.{slot_at, held_by}
use Rattle.replay.specs.Answer.{item_text, put_listed}

module _ (ss : List Slot) (full : Bool) (at : ℕ) {k i : ℕ} (o : Out) where
  pub listed-more : {s : Slot} {p : Out} → i < k → s ≡ slot_at ss at → p ≡ put_all o (item_text full at s)
      → put_listed ss full (k - (i + 1)) s.link p ≡ put_listed ss full (k - i) at o
  unfolding put_listed
  listed-more {s} {p} l e h =
      let left : suc (k - (i + 1)) ≡ k - i = omega arith in
      ap (put_listed ss full (k - (i + 1)) s.link) h
      ∙ ap (λ (z : Slot). put_listed ss full (k - (i + 1)) z.link (put_all o (item_text full at z))) e
      ∙ ap (λ (n : ℕ). put_listed ss full n at o) left

  pub listed-end : k ≤ i → put_listed ss full (k - i) at o ≡ o
  unfolding put_listed
  listed-end l = let none : k - i ≡ 0 = omega arith in ap (λ (n : ℕ). put_listed ss full n at o) none

-- a pair more holds what it holds
pub held-push : (ps : List Pair) (p : Pair) → held_by (ps ++ (p ∷ [])) ≡ held_by ps + p.queue.held
held-push [] p = omega arith
held-push (q ∷ ps) p = let more = held-push ps p in omega (arith, more)
