-- The loops along a queue: a turn leaves one slot fewer, and the loop walks all slots that are left.
use mathlib.Core.Path.{◌≡◌, refl, sym, ◌∙◌}
use mathlib.Core.List.{List}
use Prim.Native.Nat.{ℕ, zero, suc, ◌<◌}
use native.Mathlib.Omega.{arith}
use lib.ListN.{length}
use Rattle.rules.specs.declared.Slot.{Slot}
use Rattle.rules.specs.Card.{small}
use Rattle.rules.specs.Slots.{slot_at}
use Rattle.rules.specs.Passes.Links.{trailed}
use Rattle.rules.specs.Passes.Queue.{walked}
use Rattle.rules.proofs.Passes.Loops.{turn, free-turn}
use Rattle.message.specs.Capped.{tidy}
use Rattle.refusal.proofs.Loop.{loop-done, loop-more}
use Rattle.audit.specs.Loops.{follow_turn, follow, trace_turn, trace}
use Rattle.audit.specs.declared.Following.{Following}
use Rattle.audit.specs.declared.Tracing.{Tracing}

module _ (s : List Slot) where
  pub follow-less : (w : Following) → 0 < w.left → (follow_turn s w).left < w.left
  follow-less w l = omega (arith, l)

  pub follow-done : (w : Following) → w.left ≡ 0 → follow s w ≡ w
  follow-done w e = loop-done (λ (x : Following). x.left) (follow_turn s) follow-less w e

  pub follow-more : (w : Following) → 0 < w.left → follow s w ≡ follow s (follow_turn s w)
  follow-more w l = loop-more (λ (x : Following). x.left) (follow_turn s) follow-less w l

  pub trace-less : (w : Tracing) → 0 < w.left → (trace_turn s w).left < w.left
  trace-less w l = omega (arith, l)

  pub trace-done : (w : Tracing) → w.left ≡ 0 → trace s w ≡ w
  trace-done w e = loop-done (λ (x : Tracing). x.left) (trace_turn s) trace-less w e

  pub trace-more : (w : Tracing) → 0 < w.left → trace s w ≡ trace s (trace_turn s w)
  trace-more w l = loop-more (λ (x : Tracing). x.left) (trace_turn s) trace-less w l

module _ (s : List Slot) (size : length s ≡ small.slots) where
  -- a pair's queue, all that is left of it
  abbrev pub followed : Following → Following
  followed w = record { left = 0; standing = w.standing; walk = walked (tidy w.standing) s w.walk w.left }

  pub follow-is : (w : Following) → follow s w ≡ followed w
  follow-is w = go w.left w refl
    where
      go : (n : ℕ) (w : Following) → w.left ≡ n → follow s w ≡ followed w
      go zero w e =
          follow-done s w e
          ∙ (λ j. record { left = e j; standing = w.standing; walk = walked (tidy w.standing) s w.walk (sym e j) })
      go (suc n) w e =
          let some : 0 < w.left = omega (arith, e) in
          let t = tidy w.standing in
          let one = turn small.slots t s size w.walk (follow_turn s w).walk (slot_at s w.walk.trail.at) w.left (walked t s w.walk w.left) some refl refl refl in
          follow-more s w some
          ∙ go n (follow_turn s w) (omega (arith, e))
          ∙ (λ j. record { left = 0; standing = w.standing; walk = one j })

  -- the free queue
  abbrev pub traced : Tracing → Tracing
  traced w = record { left = 0; trail = trailed s w.trail w.left }

  pub trace-is : (w : Tracing) → trace s w ≡ traced w
  trace-is w = go w.left w refl
    where
      go : (n : ℕ) (w : Tracing) → w.left ≡ n → trace s w ≡ traced w
      go zero w e = trace-done s w e ∙ (λ j. record { left = e j; trail = trailed s w.trail (sym e j) })
      go (suc n) w e =
          let some : 0 < w.left = omega (arith, e) in
          let one = free-turn small.slots s size w.trail (trace_turn s w).trail (slot_at s w.trail.at) w.left (trailed s w.trail w.left) some refl refl refl in
          trace-more s w some ∙ go n (trace_turn s w) (omega (arith, e)) ∙ (λ j. record { left = 0; trail = one j })
