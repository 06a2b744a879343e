-- A timer step leaves the pair ready and in order, or ended with nothing left.
use mathlib.Core.Path.{◌≡◌, refl}
use mathlib.Core.Bool.{◌||◌}
use mathlib.Core.List.{List}
use Prim.Native.Nat.{ℕ, ◌+◌, ◌*◌, ◌^◌}
use native.Mathlib.Omega.{arith}
use lib.Dec.{ltb, leb, eqb}
use Rattle.refusal.proofs.Cases.{if-case}
use Rattle.rules.specs.declared.Packet.{Packet}
use Rattle.rules.specs.declared.Clock.{Clock}
use Rattle.rules.specs.declared.Standing.{Standing}
use Rattle.rules.specs.declared.Answer.{Answer}
use Rattle.rules.specs.Account.{Side, U, H}
use Rattle.rules.specs.Timer.{ticked, timer}
use Rattle.rules.specs.Order.{left, right}
use Rattle.rules.proofs.Sides.InOrder.{InOrder}
use Rattle.rules.proofs.Sides.Acknowledge.{Fine, ordered-resent}

-- the times do not matter to the order
pub ordered-clock : (t : Standing) (ps : List Packet) (c : Clock) → InOrder (record { standing = t; packets = ps })
    → InOrder (record { standing = record { state = t.state; settings = t.settings; line = t.line; clock = c }; packets = ps })
ordered-clock t ps c o =
    record {
      u-low = o.u-low;
      x-low = o.x-low;
      h-low = o.h-low;
      n-low = o.n-low;
      starts = o.starts;
      u-x-h = o.u-x-h;
      u-h-n = o.u-h-n;
      near = o.near;
      x-stands = o.x-stands;
      h-stands = o.h-stands;
      h-past = o.h-past;
    }

module _ (s : Side) (ready : s.standing.state ≡ 1) (o : InOrder s) where
  tick : (a : Answer) (elapsed hold : ℕ) → Fine s (ticked a elapsed hold s.standing)
  tick a e h = record { settings = refl; fate = left (ready, ordered-clock s.standing s.packets _ o) }

  pub fine-timer : (e : ℕ) → Fine s (timer e s)
  unfolding timer
  fine-timer e =
      if-case (Fine s) (ltb 0 s.standing.clock.hold)
      (λ _. if-case (Fine s) (leb s.standing.clock.hold e) (λ _. tick _ _ _) (λ _. tick _ _ _)) (λ _.
      if-case (Fine s) (eqb (U s) (H s) || eqb s.standing.settings.timeout 0) (λ _. tick _ _ _) (λ _.
      if-case (Fine s) (ltb (s.standing.clock.elapsed + e) (4096 * 2 ^ s.standing.settings.timeout)) (λ _. tick _ _ _) (λ _.
      if-case (Fine s) (eqb s.standing.clock.retries 0)
      (λ _. record { settings = refl; fate = right (refl, omega arith) })
      (λ _. record {
        settings = refl;
        fate = left (ready, ordered-resent s.standing s.packets _ s.standing.clock.rnrs s.standing.clock.hold o);
      }))))
