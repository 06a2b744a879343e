-- What lets the code look at an opcode first: the opcode tells which of a message's tests can pass at all.
use Rattle.std.specs.Option.{option_and_then}
use Rattle.std.specs.Prelude.{Some}
use mathlib.Core.Path.{◌≡◌, refl, sym, ap, ◌∙◌}
use mathlib.Core.Bool.{false}
use Prim.Native.Nat.{ℕ, ◌+◌, ◌*◌, ◌%◌, ◌<◌}
use native.Mathlib.Omega.{arith}
use lib.Dec.{leb, eqb}
use borrow.Author.Tests.{eq-eqb, eqb-true}
use Rattle.refusal.proofs.Cases.{by-test}
use Rattle.rules.specs.declared.Packet.{Packet}
use Rattle.rules.specs.declared.Settings.{Settings}
use Rattle.rules.specs.declared.carried.Begun.{Begun}
use Rattle.rules.specs.declared.carried.Stage.{Stage}
use Rattle.rules.specs.declared.carried.Stage.TheVariants.{Start, Between, Inside}
use Rattle.rules.specs.Message.{pmtu, packets_for, read_request, made, opcode_at, packet_at}
use Rattle.rules.specs.Passes.Stage.{same, alone, single, middle, goes_on, is_rear, stage_step}
use Rattle.rules.specs.Passes.Tests.{◌and◌}
use Rattle.rules.proofs.Passes.Tests.{both, same_true}
use Rattle.audit.specs.Stages.{lead, resume}

-- ---- a message of one record

-- a Read Request is as its post makes it but for two fields
pub request-is : (p : Packet) → p.opcode ≡ 12
    → (eqb p.total p.length and eqb p.value 0) ≡ same p (made read_request (alone p) p.psn p.offset p.length)
unfolding same ◌and◌
request-is p e =
    rw (
      eq-eqb p.psn p.psn refl,
      eq-eqb p.ticket p.ticket refl,
      eq-eqb p.opcode 12 e,
      eq-eqb p.offset p.offset refl,
      eq-eqb p.length p.length refl,
      eq-eqb p.address p.address refl,
      eq-eqb p.key p.key refl,
    ) refl

-- a First, Middle or Last is no message by itself
pub no-single : (s : Settings) (p : Packet) → eqb p.opcode 12 ≡ false → p.opcode % 6 < 4 → false ≡ single s p
unfolding single
no-single s p r h =
    by-test (single s p)
    (λ t.
    let only = both (both (rw r at (both t).1)).1 in
    let one = eqb-true (packets_for (pmtu s) p.length) 1 only.0 in
    let named = ap (λ (q : Packet). q.opcode) (same_true p (packet_at s (alone p) p.psn 0) only.1) in
    let op : p.opcode ≡ opcode_at (alone p) 1 0 = named ∙ ap (λ (k : ℕ). opcode_at (alone p) k 0) one in
    absurd (omega (arith, op, h)))
    (λ t. sym t)

-- ---- a message of several

-- a record that is no Middle of the message
pub no_middle : (s : Settings) (w : Begun) (p : Packet) → (p.opcode ≡ 6 * w.kind + 1 → ⊥) → false ≡ goes_on s w p
unfolding goes_on
no_middle s w p h =
    by-test (goes_on s w p)
    (λ t. absurd (h (ap (λ (q : Packet). q.opcode) (same_true p (middle s w) (both t).0))))
    (λ t. sym t)

-- ---- all messages

-- where a record stands, and what it makes of that, are the one step
pub stage_is : (s : Settings) (w : Stage) (p : Packet) → option_and_then (λ x. resume s x p) (lead s w p) ≡ stage_step s (Some w) p
stage_is s Start p =
    by-test (is_rear p)
    (λ t. by-test (leb (pmtu s) p.offset) (λ u. rw (t, u) refl) (λ u. rw (t, u) refl))
    (λ t. rw t refl)
stage_is s Between p = refl
stage_is s (Inside w) p = refl
