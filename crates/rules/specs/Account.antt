-- "That account is its own definition: per pair a list of packets, settings, PSNs, counts and times, with no slot number, link or free queue."
use Rattle.std.specs.Prelude.{Bool, List, [], ◌∷◌, ℕ, suc, if◌then◌else◌}
use Rattle.psn.specs.Psn.{before}
use Rattle.rules.specs.declared.Packet.{Packet}
use Rattle.rules.specs.declared.Line.{Line}
use Rattle.rules.specs.declared.Clock.{Clock}
use Rattle.rules.specs.declared.Standing.{Standing}

-- one pair's side of it; the packets in PSN order
pub record Side : Type 0 where
  pub standing : Standing
  pub packets : List Packet

-- "A pair is closed, ready or ended."
abbrev pub closed : ℕ
closed = 0

abbrev pub ready : ℕ
ready = 1

abbrev pub ended : ℕ
ended = 2

-- "U (oldest unacknowledged PSN), X (next to emit), H (first PSN never emitted) and N (next to be given)"
abbrev pub U : Side → ℕ
U s = s.standing.line.u

abbrev pub X : Side → ℕ
X s = s.standing.line.x

abbrev pub H : Side → ℕ
H s = s.standing.line.h

abbrev pub N : Side → ℕ
N s = s.standing.line.n

-- "a closed record's other fields are 0"
abbrev pub no_standing : Standing
no_standing =
    record {
      state = closed;
      settings = record { far = 0; pkey = 0; pmtu = 0; share = 0; ceiling = 0; retry = 0; rnr = 0; timeout = 0 };
      line = record { u = 0; x = 0; h = 0; n = 0 };
      clock = record { retries = 0; rnrs = 0; elapsed = 0; hold = 0 };
    }

-- a closed pair's side
abbrev pub no_side : Side
no_side = record { standing = no_standing; packets = [] }

-- the same pair with this line and this clock
abbrev pub updated : Line → Clock → Standing → Standing
updated l c t = record { state = t.state; settings = t.settings; line = l; clock = c }

-- the further of x and y, by distance from u
abbrev pub further : ℕ → ℕ → ℕ → ℕ
further u x y = if before u x y then y else x

-- the packet that is not there
abbrev pub no_packet : Packet
no_packet = record { psn = 0; ticket = 0; opcode = 0; offset = 0; length = 0; address = 0; key = 0; total = 0; value = 0 }

-- how many stand ahead of the first that passes the test: all, where none does
abbrev pub ahead : (Packet → Bool) → List Packet → ℕ
ahead test [] = 0
ahead test (p ∷ ps) = if test p then 0 else suc (ahead test ps)
