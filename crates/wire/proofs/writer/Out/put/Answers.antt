-- The bytes go where the header has room.
use Rattle.std.proofs.Common.{◌≡◌, ap, length, arith}
use Rattle.wire.specs.Inner.Out.{filled}
use Rattle.wire.specs.declared.writer.Out.{Out}
use Rattle.wire.proofs.Adding.{adds-put}
use Rattle.wire.proofs.writer.Out.put.Goals as goal
use Rattle.wire.proofs.writer.Out.put.Goals.{else-field-le-HEADER_BYTES-via-then-field-le-HEADER_BYTES+else-at-field, else-field-le-HEADER_BYTES-via-else-field-le-HEADER_BYTES}

pub returns-then-at-field : goal.returns-then-at-field
returns-then-at-field c = adds-put c.args.self c.args.field.now c.copy_from_slice.new.self _ c.copy_from_slice.ensures.after (omega arith)

pub returns-else-field-le-HEADER_BYTES : goal.returns-else-field-le-HEADER_BYTES
unfolding filled
returns-else-field-le-HEADER_BYTES c xs e h =
    let at : c.args.self.at ≡ length xs = ap (λ (o : Out). o.at) e in
    elim c.else-field-le-HEADER_BYTES.branch [
      | else-field-le-HEADER_BYTES-via-then-field-le-HEADER_BYTES+else-at-field w ↦ absurd (omega (arith, w.if-at-field.false))
      | else-field-le-HEADER_BYTES-via-else-field-le-HEADER_BYTES w ↦ absurd (omega (arith, w.if-field-le-HEADER_BYTES.false))
    ]
