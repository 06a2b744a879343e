-- Emission: which packets go out, where X and H come to stand, and the records that are written.
use Rattle.std.specs.Prelude.{List, [], ◌∷◌, ◌++◌, ℕ, ◌+◌, ◌-◌, ◌*◌, ◌%◌, min, ltb, length, take, drop, if◌then◌else◌}
use Rattle.psn.specs.Psn.{distance, plus, before}
use Rattle.wire.specs.declared.Header.{Header}
use Rattle.wire.specs.Bytes.{bytes}
use Rattle.wire.specs.Opcodes.{header_length}
use Rattle.wire.specs.Header.{header_bytes, write_of}
use Rattle.rules.specs.declared.Packet.{Packet}
use Rattle.rules.specs.declared.Settings.{Settings}
use Rattle.rules.specs.declared.Standing.{Standing}
use Rattle.rules.specs.Account.{Side, U, X, updated, further, ahead}
use Rattle.rules.specs.Message.{pmtu, is_read, span, unanswered}

-- where a record ends: the PSN after its last
abbrev pub ends : Settings → Packet → ℕ
ends s p = plus p.psn (span s p)

-- "the records ending after X": those from the first that does, which is all of them (`waiting-is`)
abbrev pub waiting : Side → List Packet
waiting s = drop (ahead (λ p. before (U s) (X s) (ends s.standing.settings p)) s.packets) s.packets

-- "the smaller of the budget and the records ending after X; a held pair writes 0"
abbrev pub going : ℕ → Side → ℕ
going budget s = if ltb 0 s.standing.clock.hold then 0 else min budget (length (waiting s))

abbrev pub outgoing : ℕ → Side → List Packet
outgoing budget s = take (going budget s) (waiting s)

-- where the last of these ends: x, if there is none
abbrev pub ends_at : Settings → ℕ → List Packet → ℕ
ends_at s x [] = x
ends_at s x (p ∷ ps) = ends_at s (ends s p) ps

-- "X moves past them, H to the further of H and X."
abbrev pub moved_to : ℕ → Standing → Standing
moved_to x t =
    let l = t.line in
    updated (record { u = l.u; x = x; h = further l.u l.h x; n = l.n }) t.clock t

unfoldable pub emitted : ℕ → Side → Side
emitted budget s = record { standing = moved_to (ends_at s.standing.settings (X s) (outgoing budget s)) s.standing; packets = s.packets }

-- ---- the records

-- "A read emitted at U after k responses carries PSN U, address + k × PMTU, length − k × PMTU. Its payload offset is the post's offset + k × PMTU, its
-- payload length 0."
abbrev pub sent : Standing → Packet → Packet
sent t p =
    let done = distance p.psn (unanswered t p) * pmtu t.settings in
    if is_read p
    then
    record {
      psn = unanswered t p;
      ticket = p.ticket;
      opcode = p.opcode;
      offset = p.offset + done;
      length = 0;
      address = p.address + done;
      key = p.key;
      total = p.total - done;
      value = p.value;
    }
    else p

-- "emission's pad fills the payload to a multiple of 4"
abbrev pub pad_for : ℕ → ℕ
pad_for len = (4 - len % 4) % 4

-- the header of what goes out
abbrev pub header_of : Settings → Packet → Header
header_of s q =
    record {
      opcode = q.opcode;
      pad = pad_for q.length;
      pkey = s.pkey;
      far = s.far;
      psn = q.psn;
      address = q.address;
      key = q.key;
      length = q.total;
      value = q.value;
      syndrome = 0;
      msn = 0;
    }

-- "records of 48 bytes: 32 header bytes (zeros after the header), then four big-endian 32-bit numbers"
abbrev pub record_bytes : ℕ
record_bytes = header_bytes + 4 * 4

-- "header length, ticket, payload offset, payload length"
abbrev pub emission : Standing → Packet → List ℕ
emission t p =
    let q = sent t p in
    (write_of (header_of t.settings q)).bytes ++ bytes 4 (header_length q.opcode) ++ bytes 4 q.ticket ++ bytes 4 q.offset ++ bytes 4 q.length

abbrev pub emissions : Standing → List Packet → List ℕ
emissions t [] = []
emissions t (p ∷ ps) = emission t p ++ emissions t ps
