-- Byte by byte, as far as the loop has come.
use Rattle.std.proofs.Common.{◌≡◌, ℕ, ◌+◌, ◌<◌, length, get_or}
use Rattle.wire.proofs.reader.bytes_at.Given as goal

abbrev pub invariant-loop-i : goal.invariant-loop-i
invariant-loop-i g l = (length l.slot-items ≡ g.row.N) × ((k : ℕ) → k < l.i → get_or l.slot-items k 0 ≡ get_or l.s (l.at + k) 0)
