-- "PSNs are 24 bits. The distance from a to b is (b − a) mod 16,777,216. Width, half range and the distance rule belong to the packet number itself."
-- Assumes nothing.
use Rattle.std.specs.Prelude.{Bool, ℕ, ◌+◌, ◌-◌, ◌%◌, ltb}

abbrev pub width : ℕ
width = 24

abbrev pub psns : ℕ
psns = 16777216

-- how far N may lie from U
abbrev pub half : ℕ
half = 8388607

-- (b − a) mod 2^24, at any two numbers
unfoldable pub distance : ℕ → ℕ → ℕ
distance a b = (b + (psns - a % psns)) % psns

-- the PSN k places after a
abbrev pub plus : ℕ → ℕ → ℕ
plus a k = (a + k) % psns

abbrev pub next : ℕ → ℕ
next a = plus a 1

-- a is before b, by distance from u
abbrev pub before : ℕ → ℕ → ℕ → Bool
before u a b = ltb (distance u a) (distance u b)
