-- How the writer keeps what it has written so far. Assumes nothing.
use Rattle.std.specs.Prelude.{◌≡◌, List, ◌++◌, ℕ, ◌+◌, ◌-◌, ◌/◌, ◌≤◌, length, replicate}
use Rattle.wire.specs.Bytes.{octet, bytes}
use Rattle.wire.specs.Layout.{Name, Layout, size, laid}
use Rattle.wire.specs.Header.{header_bytes}
use Rattle.wire.specs.declared.writer.Out.{Out}

-- these bytes, and zeros after them
unfoldable pub filled : List ℕ → Out
filled xs = record { bytes = xs ++ replicate (header_bytes - length xs) 0; at = length xs }

-- from one to the other, some bytes were added
abbrev pub Adds : Out → Out → List ℕ → Type 0
Adds a b ys = (xs : List ℕ) → a ≡ filled xs → length xs + length ys ≤ header_bytes → b ≡ filled (xs ++ ys)

-- a layout's fields as bytes
abbrev pub spelled : (Name → ℕ) → Layout → List ℕ
spelled v fs = bytes (size fs / octet) (laid v fs)
