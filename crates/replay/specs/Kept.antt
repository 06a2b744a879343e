-- Where the reading stands, and how a line is put together byte by byte, from "Reading" of the trace protocol. Assumes nothing.
use Rattle.std.specs.Prelude.{ℕ, ◌+◌, ◌-◌, ◌^◌, min, Bool, true, eqb, ltb, if◌then◌else◌}
use Rattle.card.specs.declared.Limits.{Limits}
use Rattle.replay.specs.declared.place.Place.{Place}

-- "L being its number in the input, from 1"; past the largest number there is none to come
abbrev pub next_number : ℕ → ℕ
next_number n = min (n + 1) (2 ^ 64 - 1)

-- "the lent buffers are 3,072 bytes and 512 numbers"
abbrev pub start : Place
start = record { from = 0; left = 0; rest = 0; kept = 0; number = 1; at = 0; limits = record { numbers = 512; bytes = 3072 }; more = true }

-- "A line ends at a newline"
abbrev pub is_end : ℕ → Bool
is_end b = eqb b 10

-- half the buffer of answers: past it all is written out first, so the other half is there for the next
abbrev pub half : ℕ
half = 32768

-- a byte was taken
abbrev pub next_byte : Place → Place
next_byte w = record w { from = next_number w.from; left = w.left - 1 }

-- a byte more of the line is kept, where there is room for it among so many
abbrev pub kept_by : ℕ → Place → Place
kept_by room w = record (next_byte w) { kept = if ltb w.kept room then w.kept + 1 else w.kept }

-- the line is answered: the next one begins, and what was read waits where many answers do
abbrev pub next_line : Place → Limits → Place
next_line w limits =
    let next = next_byte w in
    let many = ltb half w.at in
    record next {
      left = if many then 0 else next.left;
      rest = if many then next.left else w.rest;
      kept = 0;
      number = next_number w.number;
      limits = limits;
    }
