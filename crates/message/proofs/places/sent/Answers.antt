-- `sent` meets its contract: the read's rest, or the packet with its opcode cut.
use mathlib.Core.Path.{◌≡◌, refl, sym, ◌∙◌}
use Prim.Native.Nat.{◌%◌, ◌^◌}
use native.Mathlib.Omega.{arith}
use borrow.Author.Tests.{eq-eqb}
use Rattle.message.specs.Capped.{cut}
use Rattle.message.specs.Places.{sent_by}
use Rattle.message.proofs.places.sent.Goals as goal

pub returns-then-not-is_read : goal.returns-then-not-is_read
unfolding sent_by cut
returns-then-not-is_read c =
    let p = c.args.p in
    let offset : p.offset % 2 ^ 32 ≡ p.offset = omega arith in
    simp (sym c.is_read.ensures ∙ c.if-not-is_read.true, eq-eqb p.address p.address refl, offset)

pub returns : goal.returns
unfolding sent_by cut
returns c =
    simp (
      sym c.is_read.ensures ∙ c.if-not-is_read.false,
      c.rest_of.ensures,
      c.address_at.ensures,
      c.offset_at.ensures,
      c.from.ensures,
      c.unanswered.ensures,
      c.answered-by.ensures,
    )
