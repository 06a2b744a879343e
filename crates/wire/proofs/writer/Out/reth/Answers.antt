-- The RETH where it is carried, and else nothing.
use Rattle.std.proofs.Common.{refl, [], ◌∷◌}
use Rattle.wire.specs.Layout as fields
use Rattle.wire.specs.Layout.{◌bits◌}
use Rattle.wire.specs.Header.{put}
use Rattle.wire.proofs.Adding.{adds-layout, adds-be, adds_carried, adds-not-carried}
use Rattle.wire.proofs.writer.Out.reth.Goals as goal

pub returns : goal.returns
returns c =
    let a = c.args in
    let v = put a.h in
    let at-address = c.put-out.result in
    let at-key = c.put.result in
    let end = c.put-2.result in
    let at2 = adds-be at-key end v fields.dma_length 4 c.to_be_bytes-3.ensures c.put-2.ensures in
    let at1 = adds-layout at-address at-key end v (fields.key bits 32 ∷ []) (fields.dma_length bits 32 ∷ []) 4 4 refl refl (adds-be _ _ v fields.key 4 c.to_be_bytes-2.ensures c.put.ensures) at2 in
    let whole = adds-layout a.self at-address end v (fields.address bits 64 ∷ []) (fields.key bits 32 ∷ fields.dma_length bits 32 ∷ []) 8 8 refl refl (adds-be _ _ v fields.address 8 c.to_be_bytes.ensures c.put-out.ensures) at1 in
    adds_carried a.self end v fields.reth a.carried c.if-not-carried.false whole

pub returns-then-not-carried : goal.returns-then-not-carried
returns-then-not-carried c = adds-not-carried c.args.self (put c.args.h) fields.reth c.args.carried c.if-not-carried.true
