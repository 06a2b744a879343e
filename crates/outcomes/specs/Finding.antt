-- What a search along a pair's queue comes to: the first packet of a kind.
use Rattle.std.specs.Prelude.{Bool, List, ℕ, ◌-◌, ltb, eqb, length, get_or, Option, None, Some, if◌then◌else◌}
use Rattle.psn.specs.Psn.{next}
use Rattle.rules.specs.declared.Packet.{Packet}
use Rattle.rules.specs.Account.{ahead, no_packet}
use Rattle.rules.specs.Card.{small}
use Rattle.rules.specs.Ranges.{top_bits}
use Rattle.outcomes.specs.declared.Found.{Found}

-- the first such packet of a queue's slots and packets: what a search comes to (`scan-is`)
abbrev pub found_in : (Packet → Bool) → List ℕ → List Packet → Option Found
found_in test l ps =
    let k = ahead test ps in
    if ltb k (length ps) then Some (record { left = length ps - k; slot = get_or l k small.none; packet = get_or ps k no_packet }) else None

-- how many are left from it on: 0 where there is none
abbrev pub left_of : Option Found → ℕ
left_of None = 0
left_of (Some f) = f.left

-- its slot
abbrev pub slot_of : Option Found → ℕ
slot_of None = small.none
slot_of (Some f) = f.slot

-- "ACK: release before R + 1"; a NAK or an RNR before R
abbrev pub bound_of : ℕ → ℕ → ℕ
bound_of r syndrome = if eqb (top_bits syndrome) 0 then next r else r
