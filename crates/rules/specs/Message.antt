-- The packets of a message, and a post's split into them.
use Rattle.std.specs.Prelude.{Bool, List, [], ◌∷◌, map, ℕ, zero, suc, ◌+◌, ◌-◌, ◌*◌, ◌/◌, ◌^◌, ltb, eqb, if◌then◌else◌}
use Rattle.psn.specs.Psn.{distance, plus}
use Rattle.wire.specs.Opcodes as opcodes
use Rattle.wire.specs.Opcodes.{has_reth, has_immediate}
use Rattle.rules.specs.declared.Packet.{Packet}
use Rattle.rules.specs.declared.Settings.{Settings}
use Rattle.rules.specs.declared.Standing.{Standing}
use Rattle.rules.specs.declared.Post.{Post}

-- "PMTU code 1 to 5 (256, 512, 1024, 2048, 4096 bytes)"
abbrev pub pmtu : Settings → ℕ
pmtu s = 2 ^ (7 + s.pmtu)

-- "Packets of a message: 1 if the length is 0, else length divided by PMTU rounded up."
abbrev pub packets_for : ℕ → ℕ → ℕ
packets_for mtu len = if eqb len 0 then 1 else (len + (mtu - 1)) / mtu

-- kinds: 0 Send, 1 Write, 2 Read
abbrev pub asks_read : Post → Bool
asks_read m = eqb m.kind 2

-- "A Send or Write takes that many slots and PSNs, a read one slot and that many PSNs."
abbrev pub psns_for : Settings → Post → ℕ
psns_for s m = packets_for (pmtu s) m.length

abbrev pub slots_for : Settings → Post → ℕ
slots_for s m = if asks_read m then 1 else psns_for s m

-- "Send First 0, Middle 1, Last 2, Last with immediate 3, Only 4, Only with immediate 5; Write 6 to 11 alike": at place i of n
abbrev pub opcode_at : Post → ℕ → ℕ → ℕ
opcode_at m n i =
    let late : ℕ = if m.immediate then 1 else 0 in
    6 * m.kind + (if eqb n 1 then 4 + late else if eqb (suc i) n then 2 + late else if eqb i 0 then 0 else 1)

-- "Read Request 12"
abbrev pub read_request : ℕ
read_request = 12

-- "All packets but the last carry PMTU bytes."
abbrev pub length_at : ℕ → ℕ → ℕ → ℕ → ℕ
length_at mtu len n i = if eqb (suc i) n then len - i * mtu else mtu

-- "and what its header needs, other fields 0"
abbrev pub made : ℕ → Post → ℕ → ℕ → ℕ → Packet
made op m psn offset length =
    record {
      psn = psn;
      ticket = m.ticket;
      opcode = op;
      offset = offset;
      length = length;
      address = if has_reth op then m.address else 0;
      key = if has_reth op then m.key else 0;
      total = if has_reth op then m.length else 0;
      value = if has_immediate op then m.value else 0;
    }

-- the packet at place i of a Send or Write whose first PSN is given
abbrev pub packet_at : Settings → Post → ℕ → ℕ → Packet
packet_at s m first i =
    let n = psns_for s m in
    made (opcode_at m n i) m (plus first i) (m.offset + i * pmtu s) (length_at (pmtu s) m.length n i)

-- a, a + 1, and so on: n numbers
abbrev pub from : ℕ → ℕ → List ℕ
from a zero = []
from a (suc n) = a ∷ from (suc a) n

-- the whole split
unfoldable pub packets_of : Settings → Post → ℕ → List Packet
packets_of s m first =
    if asks_read m then made read_request m first m.offset m.length ∷ [] else map (packet_at s m first) (from 0 (psns_for s m))

-- ---- what a packet says

abbrev pub is_read : Packet → Bool
is_read p = eqb p.opcode read_request

-- the PSNs that it takes
abbrev pub span : Settings → Packet → ℕ
span s p = if is_read p then packets_for (pmtu s) p.length else 1

-- it is the last of its message
abbrev pub is_last : Packet → Bool
is_last p = opcodes.is_last p.opcode

-- a read's first unanswered PSN: U, where U is one of its PSNs
abbrev pub unanswered : Standing → Packet → ℕ
unanswered t p = if ltb (distance p.psn t.line.u) (span t.settings p) then t.line.u else p.psn
