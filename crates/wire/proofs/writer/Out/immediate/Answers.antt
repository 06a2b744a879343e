-- The immediate where it is carried, and else nothing.
use Rattle.wire.specs.Layout as fields
use Rattle.wire.specs.Header.{put}
use Rattle.wire.proofs.Adding.{adds-be, adds_carried, adds-not-carried}
use Rattle.wire.proofs.writer.Out.immediate.Goals as goal

pub returns-then-carried : goal.returns-then-carried
returns-then-carried c =
    let a = c.args in
    let v = put a.h in
    adds_carried a.self c.put.result v fields.immediate_data a.carried c.if-carried.true
    (adds-be a.self c.put.result v fields.immediate 4 c.to_be_bytes.ensures c.put.ensures)

pub returns-else-carried : goal.returns-else-carried
returns-else-carried c = adds-not-carried c.args.self (put c.args.h) fields.immediate_data c.args.carried c.if-carried.false
