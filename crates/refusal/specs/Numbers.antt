-- "Refusal numbers": the number of each.
-- Assumes nothing.
use Rattle.std.specs.Prelude.{ℕ}
use Rattle.refusal.specs.declared.Refusal.{Refusal}
use Rattle.refusal.specs.declared.Refusal.TheVariants.{Pair, State, Range, Buffer, Ceiling, Fence, Distance, Room, Response, Short, Opcode, Version, Rest, Audit}

abbrev pub number : Refusal → ℕ
number Pair = 1
number State = 2
number Range = 3
number Buffer = 4
number Ceiling = 5
number Fence = 6
number Distance = 7
number Room = 8
number Response = 9
number Short = 11
number Opcode = 12
number Version = 13
number Rest = 14
number Audit = 15
