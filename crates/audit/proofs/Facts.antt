-- Facts that the proofs of the code cite: on numbers, and on what a test that passed says of them.
use mathlib.Core.Path.{◌≡◌, sym, ap}
use mathlib.Core.Bool.{true, false}
use Prim.Native.Nat.{◌+◌, ◌*◌, ◌^◌, ◌≤◌, ◌<◌}
use native.Mathlib.Omega.{arith}
use borrow.Author.Tests.{eqb-true}
use Rattle.refusal.proofs.Cases.{by-test}
use Rattle.psn.specs.Psn.{psns, distance}
use Rattle.psn.proofs.Laws.{distance-below}
use Rattle.rules.specs.declared.Line.{Line}
use Rattle.rules.specs.declared.Packet.{Packet}
use Rattle.rules.specs.declared.Settings.{Settings}
use Rattle.rules.specs.declared.carried.Begun.{Begun}
use Rattle.rules.specs.declared.carried.Course.{Course}
use Rattle.rules.specs.Card.{small}
use Rattle.rules.specs.Message.{pmtu}
use Rattle.rules.specs.Ranges.{bad_settings}
use Rattle.rules.specs.Timer.{timeout_of}
use Rattle.rules.specs.Passes.Course.{next_fits}
use Rattle.rules.specs.Passes.Stage.{whole_post, closes}
use Rattle.rules.proofs.Ranges.{permitted}
use Rattle.rules.proofs.Passes.Tests.{both, allowed_of}
use Rattle.message.specs.Capped.{capped}
use Rattle.message.proofs.Cuts.{capped_same}

-- ---- the order

pub next_low : (l : Line) (w : Course) (p : Packet) → next_fits l w p ≡ true → w.place < psns
next_low l w p e = omega (arith, eqb-true (distance l.u p.psn) w.place (both e).1, distance-below l.u p.psn)

-- ---- the times

pub timeout-same : (s : Settings) → bad_settings small s ≡ false → timeout_of (capped s) ≡ timeout_of s
timeout-same s e = ap timeout_of (capped_same s e)

-- ---- the messages

-- a message too long to be allowed
pub too_long : (s : Settings) (w : Begun) (p : Packet) → 2 ^ 31 ≤ w.count * pmtu s + p.length → false ≡ closes s w p
unfolding closes
too_long s w p h =
    by-test (closes s w p)
    (λ t. absurd (omega (arith, (permitted {s = s} {m = whole_post s w p} (allowed_of s (whole_post s w p) (both t).0)).short, h)))
    (λ t. sym t)
