-- A record that goes out is the rules'.
use mathlib.Core.Path.{◌≡◌, refl, sym, ap, ap₂, ◌∙◌}
use mathlib.Core.Bool.{false}
use mathlib.Core.List.{List, ◌++◌, append-nil}
use Prim.Native.Nat.{ℕ, ◌+◌, ◌≤◌}
use native.Mathlib.Omega.{arith}
use lib.ListN.{length, replicate, length-append}
use Rattle.refusal.proofs.Cases.{if-case}
use Rattle.wire.specs.Bytes.{bytes}
use Rattle.wire.specs.Opcodes.{header_length}
use Rattle.wire.specs.Header.{header_bytes, write_of, length_of}
use Rattle.wire.specs.declared.Written.{Written}
use Rattle.wire.proofs.Bytes.{bytes-length}
use Rattle.wire.proofs.Writing.{bytes_whole}
use Rattle.rules.specs.declared.Packet.{Packet}
use Rattle.rules.specs.declared.Settings.{Settings}
use Rattle.rules.specs.declared.Standing.{Standing}
use Rattle.rules.specs.Card.{small}
use Rattle.rules.specs.Ranges.{bad_settings}
use Rattle.rules.specs.Message.{is_read, read_request}
use Rattle.rules.specs.Emission.{sent, header_of, record_bytes, emission}
use Rattle.rules.proofs.Sides.Headers.{Headed}
use Rattle.rules.proofs.Sides.Fits.{Fits}
use Rattle.message.specs.Capped.{capped, tidy}
use Rattle.message.specs.Places.{sent_by}
use Rattle.message.proofs.Cuts.{capped_same, tidy-same}
use Rattle.message.proofs.Fitting.{sent-fits}
use Rattle.walks.specs.Acting.{record_of, placed}
use Rattle.walks.proofs.Placing.{placed-behind}

-- "records of 48 bytes", whatever the packet
pub record-long : (s : Settings) (q : Packet) → length (record_of s q) ≡ record_bytes
unfolding record_of
record-long s q = simp (length-append, bytes-length, bytes_whole (header_of s q)) refl

-- what a pair that passes the audit sends is written as the rules say it
pub record_is : (t : Standing) (p : Packet) → bad_settings small t.settings ≡ false → Headed t p → Fits p → p.opcode ≤ read_request
    → record_of (capped t.settings) (sent_by (tidy t) p) ≡ emission t p
unfolding record_of
record_is t p ok h f op =
    let q = sent t p in
    let same : q.opcode ≡ p.opcode = if-case (λ (x : Packet). x.opcode ≡ p.opcode) (is_read p) (λ _. refl) (λ _. refl) in
    let long : length_of (write_of (header_of t.settings q)).size ≡ header_length q.opcode = ap (λ (w : Written). length_of w.size) h.whole ∙ ap header_length (sym same) in
    ap₂ record_of (capped_same t.settings ok) (ap (λ (x : Standing). sent_by x p) (tidy-same t ok) ∙ sent-fits t p f op)
    ∙ ap (λ (n : ℕ). (write_of (header_of t.settings q)).bytes ++ bytes 4 n ++ bytes 4 q.ticket ++ bytes 4 q.offset ++ bytes 4 q.length) long

-- the header, and each number behind what is there, are the record
pub record-built : (s : Settings) (q : Packet) → let w = write_of (header_of s q) in
    placed (header_bytes + 12) (bytes 4 q.length) (placed (header_bytes + 8) (bytes 4 q.offset) (placed (header_bytes + 4) (bytes 4 q.ticket)
    (placed header_bytes (bytes 4 (length_of w.size)) (w.bytes ++ replicate 16 0))))
    ≡ record_of s q
unfolding record_of bytes
record-built s q =
    let w = write_of (header_of s q) in
    let head = w.bytes in
    let a = bytes 4 (length_of w.size) in
    let b = bytes 4 q.ticket in
    let c = bytes 4 q.offset in
    let d = bytes 4 q.length in
    let one : header_bytes ≡ length head = sym (bytes_whole (header_of s q)) in
    let two : header_bytes + 4 ≡ length (head ++ a) = omega (arith, one, length-append head a) in
    let three : header_bytes + 8 ≡ length (head ++ a ++ b) = omega (arith, two, length-append (head ++ a) b) in
    let four : header_bytes + 12 ≡ length (head ++ a ++ b ++ c) = omega (arith, three, length-append (head ++ a ++ b) c) in
    ap (λ (o : List ℕ). placed (header_bytes + 12) d (placed (header_bytes + 8) c (placed (header_bytes + 4) b o)))
    (placed-behind head a (replicate 16 0) header_bytes one (omega arith))
    ∙ ap (λ (o : List ℕ). placed (header_bytes + 12) d (placed (header_bytes + 8) c o))
    (placed-behind (head ++ a) b (replicate 12 0) (header_bytes + 4) two (omega arith))
    ∙ ap (placed (header_bytes + 12) d) (placed-behind (head ++ a ++ b) c (replicate 8 0) (header_bytes + 8) three (omega arith))
    ∙ placed-behind (head ++ a ++ b ++ c) d (replicate 4 0) (header_bytes + 12) four (omega arith)
    ∙ append-nil (head ++ a ++ b ++ c ++ d)
