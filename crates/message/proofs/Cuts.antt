-- Numbers that are cut to their fields: what is cut twice is cut once, and what fits is left as it is.
use mathlib.Core.Path.{◌≡◌, ap}
use mathlib.Core.Bool.{false}
use Prim.Native.Nat.{◌%◌, ◌^◌, ◌<◌}
use native.Mathlib.Nat.{mod-mod, mod-eq_of_lt, min-eq_left}
use Rattle.rules.specs.declared.Packet.{Packet}
use Rattle.rules.specs.declared.Settings.{Settings}
use Rattle.rules.specs.declared.Standing.{Standing}
use Rattle.rules.specs.Card.{small}
use Rattle.rules.specs.Ranges.{bad_settings}
use Rattle.rules.proofs.Ranges.{in-range}
use Rattle.message.specs.Capped.{capped, tidy, cut}

-- its offset cut, all else as it is
abbrev pub shortened : Packet → Packet
shortened p =
    record {
      psn = p.psn;
      ticket = p.ticket;
      opcode = p.opcode;
      offset = p.offset % 2 ^ 32;
      length = p.length;
      address = p.address;
      key = p.key;
      total = p.total;
      value = p.value;
    }

pub cut_again : (p : Packet) → cut (shortened p) ≡ cut p
unfolding cut
cut_again p = rw (mod-mod p.offset (2 ^ 32))

pub cut-same : (p : Packet) → p.opcode < 2 ^ 8 → p.offset < 2 ^ 32 → cut p ≡ p
unfolding cut
cut-same p op offset = rw (mod-eq_of_lt op, mod-eq_of_lt offset)

-- ---- settings that an open takes

pub capped_same : (s : Settings) → bad_settings small s ≡ false → capped s ≡ s
unfolding capped
capped_same s e =
    let r = in-range {card = small} {s = s} e in
    rw (mod-eq_of_lt r.pkey, min-eq_left r.pmtu-high, min-eq_left r.timeout)

pub tidy-same : (t : Standing) → bad_settings small t.settings ≡ false → tidy t ≡ t
tidy-same t e =
    ap (λ (s : Settings). record { state = t.state; settings = s; line = t.line; clock = t.clock }) (capped_same t.settings e)
