-- The AETH where it is carried, and else nothing.
use Rattle.std.proofs.Common.{refl, subst, [], ◌∷◌}
use Rattle.wire.specs.Layout as fields
use Rattle.wire.specs.Layout.{◌bits◌}
use Rattle.wire.specs.Header.{put}
use Rattle.wire.specs.Inner.Out.{Adds}
use Rattle.wire.proofs.Adding.{adds-layout, adds-field, adds_carried, adds-not-carried}
use Rattle.wire.proofs.writer.Out.aeth.Goals as goal

pub returns-then-carried : goal.returns-then-carried
returns-then-carried c =
    let a = c.args in
    let v = put a.h in
    let end = c.put.result in
    adds_carried a.self end v fields.aeth a.carried c.if-carried.true
    (adds-layout a.self c.byte.result end v (fields.syndrome bits 8 ∷ []) (fields.msn bits 24 ∷ []) 1 3 refl refl
    (adds-field _ _ v fields.syndrome 1 c.byte.ensures)
    (adds-field _ _ v fields.msn 3 (subst (Adds c.byte.result end) c.three.ensures c.put.ensures)))

pub returns-else-carried : goal.returns-else-carried
returns-else-carried c = adds-not-carried c.args.self (put c.args.h) fields.aeth c.args.carried c.if-carried.false
