-- "big-endian": bytes and the number that they spell, the highest first. Assumes nothing.
use Rattle.std.specs.Prelude.{ℕ, zero, suc, ◌+◌, ◌*◌, ◌/◌, ◌%◌, ◌^◌, ◌<◌, List, [], ◌∷◌, length, get_or}

-- a byte's bits
abbrev pub octet : ℕ
octet = 8

-- every element is a byte
abbrev pub AllBytes : List ℕ → Type 0
AllBytes s = (i : ℕ) → get_or s i 0 < 2 ^ octet

-- the number that a list of bytes spells
unfoldable pub number : List ℕ → ℕ
number [] = 0
number (b ∷ bs) = b * 2 ^ (octet * length bs) + number bs

-- the last k bytes of a number
unfoldable pub bytes : ℕ → ℕ → List ℕ
bytes zero n = []
bytes (suc k) n = n / 2 ^ (octet * k) % 2 ^ octet ∷ bytes k n
