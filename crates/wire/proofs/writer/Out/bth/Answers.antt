-- The BTH, group by group of whole bytes.
use Rattle.std.proofs.Common.{◌≡◌, refl, subst, [], ◌∷◌, ℕ, ◌+◌, ◌*◌, ◌%◌, arith}
use Rattle.wire.specs.Bytes.{bytes}
use Rattle.wire.specs.Layout as fields
use Rattle.wire.specs.Layout.{Layout, ◌bits◌, laid}
use Rattle.wire.specs.Header.{put}
use Rattle.wire.specs.Inner.Out.{Adds, spelled}
use Rattle.wire.specs.declared.Header.{Header}
use Rattle.wire.specs.declared.writer.Out.{Out}
use Rattle.wire.proofs.Adding.{adds-layout, adds-be, adds-field}
use Rattle.wire.proofs.writer.Out.bth.Goals as goal

-- the layout from each place on
abbrev flags : Layout
flags = fields.solicited_event bits 1 ∷ fields.migration bits 1 ∷ fields.pad bits 2 ∷ fields.version bits 4 ∷ []

abbrev asked : Layout
asked = fields.ack_req bits 1 ∷ fields.reserved_bits bits 7 ∷ []

abbrev after-asked : Layout
after-asked = fields.psn bits 24 ∷ []

abbrev after-far : Layout
after-far = fields.ack_req bits 1 ∷ fields.reserved_bits bits 7 ∷ after-asked

abbrev after-zeros : Layout
after-zeros = fields.far_pair bits 24 ∷ after-far

abbrev after-key : Layout
after-key = fields.reserved_byte bits 8 ∷ after-zeros

abbrev after-flags : Layout
after-flags = fields.p_key bits 16 ∷ after-key

abbrev after-opcode : Layout
after-opcode = fields.solicited_event bits 1 ∷ fields.migration bits 1 ∷ fields.pad bits 2 ∷ fields.version bits 4 ∷ after-flags

-- the two bytes that hold more than one field
flags-byte : (a b : Out) (h : Header) → Adds a b (bytes 1 (128 + h.pad % 4 * 16)) → Adds a b (spelled (put h) flags)
unfolding laid
flags-byte a b h p =
    let whole : 128 + h.pad % 4 * 16 ≡ laid (put h) flags = omega arith in
    subst (λ (n : ℕ). Adds a b (bytes 1 n)) whole p

asked-byte : (a b : Out) (h : Header) → Adds a b (bytes 1 128) → Adds a b (spelled (put h) asked)
unfolding laid
asked-byte a b h p = p

pub returns : goal.returns
returns c =
    let a = c.args in
    let v = put a.h in
    let o1 = c.byte.result in
    let o2 = c.byte-out.result in
    let o3 = c.put.result in
    let o4 = c.byte-2.result in
    let o5 = c.put-out.result in
    let o6 = c.byte-3.result in
    let end = c.put-2.result in
    let far = adds-field o4 o5 v fields.far_pair 3 (subst (Adds o4 o5) c.three.ensures c.put-out.ensures) in
    let at6 = adds-field o6 end v fields.psn 3 (subst (Adds o6 end) c.three-2.ensures c.put-2.ensures) in
    let at5 = adds-layout o5 o6 end v asked after-asked 1 3 refl refl (asked-byte _ _ a.h c.byte-3.ensures) at6 in
    let at4 = adds-layout o4 o5 end v (fields.far_pair bits 24 ∷ []) after-far 3 4 refl refl far at5 in
    let at3 = adds-layout o3 o4 end v (fields.reserved_byte bits 8 ∷ []) after-zeros 1 7 refl refl (adds-field _ _ v fields.reserved_byte 1 c.byte-2.ensures) at4 in
    let at2 = adds-layout o2 o3 end v (fields.p_key bits 16 ∷ []) after-key 2 8 refl refl (adds-be _ _ v fields.p_key 2 c.to_be_bytes.ensures c.put.ensures) at3 in
    let at1 = adds-layout o1 o2 end v flags after-flags 1 10 refl refl (flags-byte _ _ a.h c.byte-out.ensures) at2 in
    adds-layout a.self o1 end v (fields.opcode bits 8 ∷ []) after-opcode 1 11 refl refl (adds-field _ _ v fields.opcode 1 c.byte.ensures) at1
