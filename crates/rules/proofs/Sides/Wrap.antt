-- Why the order bullet counts places as plain numbers. Read modulo 2^24, it passes two reads of 8,388,608 PSNs each that run once around, from U = N to N;
-- and one emission later it does not pass: X and H are then further from U than N.
use mathlib.Core.Path.{◌≡◌, refl}
use mathlib.Core.Bool.{Bool, true, false, ◌&&◌}
use mathlib.Core.List.{List, [], ◌∷◌}
use Prim.Native.Nat.{ℕ}
use lib.Dec.{eqb, leb}
use Rattle.rules.specs.declared.Packet.{Packet}
use Rattle.rules.specs.declared.Settings.{Settings}
use Rattle.psn.specs.Psn.{distance, half}
use Rattle.rules.specs.Account.{Side, U, X, H, N}
use Rattle.rules.specs.Emission.{ends, emitted}

-- each record starts where the one before ends, the last ends at N, modulo 2^24
abbrev runs_mod : Settings → ℕ → List Packet → ℕ → Bool
runs_mod s a [] n = eqb a n
runs_mod s a (p ∷ ps) n = eqb p.psn a && runs_mod s (ends s p) ps n

abbrev order_mod : Side → Bool
order_mod s =
    runs_mod s.standing.settings (U s) s.packets (N s)
    && leb (distance (U s) (X s)) (distance (U s) (H s))
    && leb (distance (U s) (H s)) (distance (U s) (N s))
    && leb (distance (U s) (N s)) half

abbrev read : ℕ → Packet
read psn = record { psn = psn; ticket = 1; opcode = 12; offset = 0; length = 2147483647; address = 0; key = 0; total = 2147483647; value = 0 }

abbrev around : Side
around =
    record {
      standing =
          record {
            state = 1;
            settings = record { far = 7; pkey = 65535; pmtu = 1; share = 8; ceiling = 16; retry = 7; rnr = 7; timeout = 14 };
            line = record { u = 0; x = 0; h = 0; n = 0 };
            clock = record { retries = 7; rnrs = 7; elapsed = 0; hold = 0 };
          };
      packets = read 0 ∷ read 8388608 ∷ [];
    }

pub passes-then-fails : (order_mod around ≡ true) × (order_mod (emitted 1 around) ≡ false)
unfolding distance emitted
passes-then-fails = (refl, refl)
