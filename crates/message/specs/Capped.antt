-- Numbers that code can hold whatever a host lends. On tables that pass the audit nothing is changed (`capped_same`, `tidy-same`, `place-fits`, `sent-fits`).
use Rattle.std.specs.Prelude.{◌%◌, ◌^◌, min}
use Rattle.rules.specs.declared.Packet.{Packet}
use Rattle.rules.specs.declared.Settings.{Settings}
use Rattle.rules.specs.declared.Standing.{Standing}

-- settings with their codes in range, so that no shift runs over, and a P_Key of 16 bits
unfoldable pub capped : Settings → Settings
capped s =
    record {
      far = s.far;
      pkey = s.pkey % 2 ^ 16;
      pmtu = min s.pmtu 5;
      share = s.share;
      ceiling = s.ceiling;
      retry = s.retry;
      rnr = s.rnr;
      timeout = min s.timeout 31;
    }

abbrev pub tidy : Standing → Standing
tidy t = record { state = t.state; settings = capped t.settings; line = t.line; clock = t.clock }

-- a packet with its opcode cut to a header's eight bits and its offset to 32; the rest cannot be wider
unfoldable pub cut : Packet → Packet
cut p =
    record {
      psn = p.psn;
      ticket = p.ticket;
      opcode = p.opcode % 2 ^ 8;
      offset = p.offset % 2 ^ 32;
      length = p.length;
      address = p.address;
      key = p.key;
      total = p.total;
      value = p.value;
    }
