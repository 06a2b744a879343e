-- The record of what is sent, where it fits.
use mathlib.Core.Path.{sym, ap, ◌∙◌}
use Prim.Native.Nat.{◌-◌, ◌*◌, ◌^◌, ◌<◌}
use native.Mathlib.Omega.{arith}
use Rattle.rules.specs.declared.Packet.{Packet}
use Rattle.rules.specs.declared.Standing.{Standing}
use Rattle.rules.specs.Emission.{record_bytes}
use Rattle.message.specs.Capped.{capped, tidy, cut}
use Rattle.message.specs.Places.{sent_by}
use Rattle.walks.specs.Acting.{record_of}
use Rattle.walks.proofs.Placing.{placed-out, copied-placed}
use Rattle.walks.proofs.Recorded.{record-long}
use Rattle.walks.proofs.emission.emit_record.Goals as goal

-- the opcode of what is sent is a header's
opcode-low : (t : Standing) (p : Packet) → (sent_by t p).opcode < 2 ^ 8
unfolding sent_by cut
opcode-low t p = omega arith

pub record_of-requires : goal.record_of-requires
record_of-requires c = rw c.sent.ensures (opcode-low (tidy c.args.w.standing) c.args.i.packet)

pub returns-then-end-out : goal.returns-then-end-out
returns-then-end-out c =
    let w = c.args.w in
    let q = sent_by (tidy w.standing) c.args.i.packet in
    let long = record-long (capped w.standing.settings) q in
    rw (← c.saturating_sub.ensures)
    (copied-placed _ _ (record_of (capped w.standing.settings) q) c.args.out.now _
    (c.copy_from_slice.ensures.after ∙ c.record_of.ensures ∙ ap (record_of (capped w.standing.settings)) c.sent.ensures)
    (omega (arith, long)) (omega (arith, long, c.if-end-out.true)))

pub returns-else-end-out : goal.returns-else-end-out
returns-else-end-out c =
    let w = c.args.w in
    let p = c.args.i.packet in
    let t = w.standing in
    sym (placed-out (record_bytes * (w.total - w.left)) (record_of (capped t.settings) (sent_by (tidy t) p)) c.args.out.now
    (omega (arith, c.if-end-out.false, c.saturating_sub.ensures, record-long (capped t.settings) (sent_by (tidy t) p))))
