-- The sizes of a card: "64 pair records (0 to 63), the free queue's ends and a lent row of 256 slot records". Everything below is said of any card.
use Rattle.std.specs.Prelude.{ℕ, ◌*◌, ◌≤◌}
use Rattle.std.proofs.Common.{arith}

pub record Card : Type 0 where
  pub pairs : ℕ
  pub slots : ℕ
  -- stands for no slot, so it is no slot's number
  pub none : ℕ
  pub apart : slots ≤ none

-- "256 stands for no slot"
abbrev pub small : Card
small = record { pairs = 64; slots = 256; none = 256; apart = omega arith }

-- the completion buffer, "512 32-bit numbers": a ticket and a status for each slot
abbrev pub completion_buffer : Card → ℕ
completion_buffer card = 2 * card.slots
