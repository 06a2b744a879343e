-- A post's packets by their places, and what is sent of a packet.
use Rattle.std.specs.Prelude.{ℕ, ◌%◌, ◌^◌, eqb, if◌then◌else◌}
use Rattle.rules.specs.declared.Packet.{Packet}
use Rattle.rules.specs.declared.Settings.{Settings}
use Rattle.rules.specs.declared.Post.{Post}
use Rattle.rules.specs.declared.Standing.{Standing}
use Rattle.rules.specs.Message.{asks_read, read_request, made, packet_at}
use Rattle.rules.specs.Emission.{sent}
use Rattle.message.specs.Capped.{cut}

-- place i of the split of a post whose first PSN is given: a read has one place. `packets_of` has these, one after the other (`split-is`)
abbrev pub place_at : Settings → Post → ℕ → ℕ → Packet
place_at s m first i = if asks_read m then made read_request m first m.offset m.length else packet_at s m first i

-- what is sent of a packet, in its fields' widths; an address that stays is as it was lent
unfoldable pub sent_by : Standing → Packet → Packet
sent_by t p =
    let q = cut (sent t p) in
    record {
      psn = q.psn;
      ticket = q.ticket;
      opcode = q.opcode;
      offset = q.offset;
      length = q.length;
      address = if eqb q.address p.address then p.address else q.address % 2 ^ 64;
      key = q.key;
      total = q.total;
      value = q.value;
    }
