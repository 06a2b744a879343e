-- How many slots a plan moves: no more than the pair holds, and one for a response's own. So that code's sums fit.
use Prim.Native.Nat.{ℕ, suc, ◌+◌, ◌≤◌}
use native.Mathlib.Omega.{arith}
use Rattle.std.specs.Prelude.{Option, None, Some}
use mathlib.Core.Bool.{not}
use Rattle.refusal.proofs.Cases.{if-case}
use Rattle.rules.specs.declared.Outcome.{Outcome}
use Rattle.rules.specs.declared.Packet.{Packet}
use Rattle.rules.specs.declared.Standing.{Standing}
use Rattle.rules.specs.Acknowledge.{inside}
use Rattle.rules.specs.Response.{at_last}
use Rattle.rules.proofs.Sides.After.{leaving}
use Rattle.rules.proofs.Sides.Counts.{answered-few}
use Rattle.outcomes.specs.declared.Found.{Found}
use Rattle.outcomes.specs.Deciding.{bare, release_by, acknowledged, responded_to}

-- a release lets no more go than there are
released-few : (held : ℕ) (f : Option Found) (t : Standing) (b : ℕ) → (release_by held f t b).released ≤ held
released-few held None t b = omega arith
released-few held (Some f) t b = omega arith

pub acknowledged_few : (r y held : ℕ) (f : Option Found) (t : Standing) → leaving (acknowledged r y held f t) ≤ held
acknowledged_few r y held f t =
    if-case (λ (o : Outcome). leaving o ≤ held) (not (inside r (bare t)))
    (λ _. omega arith)
    (λ _. answered-few t.settings r y held (release_by held f t) (released-few held f t))

pub responded-few : (r held : ℕ) (f : Option Found) (p : Packet) (t : Standing) → leaving (responded_to r held f p t) ≤ suc held
responded-few r held f p t =
    let few = released-few held f t r in
    if-case (λ (o : Outcome). leaving o ≤ suc held) (not (inside r (bare t)))
    (λ _. omega arith)
    (λ _. if-case (λ (o : Outcome). leaving o ≤ suc held) (release_by held f t r).stopped
    (λ _. omega (arith, few))
    (λ _. if-case (λ (last : ℕ). (release_by held f t r).released + last + 0 ≤ suc held) (at_last t.settings r p) (λ _. omega (arith, few)) (λ _. omega (arith, few))))
