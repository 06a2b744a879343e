-- What each opcode carries. Assumes nothing.
use Rattle.std.specs.Prelude.{Bool, not, [], ◌∷◌, ◌++◌, ℕ, ◌/◌, leb, Option, None, Some, if◌then◌else◌}
use Rattle.refusal.specs.Choice.{among}
use Rattle.wire.specs.Bytes.{octet}
use Rattle.wire.specs.Layout.{Layout, bth, reth, immediate_data, aeth, size}
use Rattle.wire.specs.declared.opcode.Carries.{Carries}

-- "opcode not 0 to 17" is refused
abbrev pub known : ℕ → Bool
known op = leb op 17

-- "RETH, 16 bytes (opcodes 6, 10, 11, 12)"
abbrev pub has_reth : ℕ → Bool
has_reth op = among op (6 ∷ 10 ∷ 11 ∷ 12 ∷ [])

-- "Immediate, 4 bytes (3, 5, 9, 11), after RETH."
abbrev pub has_immediate : ℕ → Bool
has_immediate op = among op (3 ∷ 5 ∷ 9 ∷ 11 ∷ [])

-- "AETH, 4 bytes (13, 15, 16, 17)"
abbrev pub has_aeth : ℕ → Bool
has_aeth op = among op (13 ∷ 15 ∷ 16 ∷ 17 ∷ [])

-- a rest "not empty for opcode 12 or 17" is refused
abbrev pub is_bare : ℕ → Bool
is_bare op = among op (12 ∷ 17 ∷ [])

-- "Send First 0, Middle 1, Last 2, Last with immediate 3, Only 4, Only with immediate 5; Write 6 to 11 alike; Read Request 12;
-- Read Response First 13, Middle 14, Last 15, Only 16; Acknowledge 17": First and Only, Request and Acknowledge start a message
abbrev pub is_first : ℕ → Bool
is_first op = among op (0 ∷ 4 ∷ 5 ∷ 6 ∷ 10 ∷ 11 ∷ 12 ∷ 13 ∷ 16 ∷ 17 ∷ [])

-- and Last and Only, Request and Acknowledge end one
abbrev pub is_last : ℕ → Bool
is_last op = among op (2 ∷ 3 ∷ 4 ∷ 5 ∷ 8 ∷ 9 ∷ 10 ∷ 11 ∷ 12 ∷ 15 ∷ 16 ∷ 17 ∷ [])

abbrev pub is_request : ℕ → Bool
is_request op = leb op 12

-- the headers one after the other
abbrev pub joined : Bool → Bool → Bool → Layout
joined r i a = bth ++ (if r then reth else []) ++ (if i then immediate_data else []) ++ (if a then aeth else [])

unfoldable pub layout : ℕ → Layout
layout op = joined (has_reth op) (has_immediate op) (has_aeth op)

unfoldable pub header_length : ℕ → ℕ
header_length op = size (layout op) / octet

-- a known opcode's row
abbrev pub row_of : ℕ → Carries
row_of op =
    record {
      length = header_length op;
      reth = has_reth op;
      immediate = has_immediate op;
      aeth = has_aeth op;
      payload = not (is_bare op);
      first = is_first op;
      last = is_last op;
      request = is_request op;
      answer = not (is_request op);
    }

-- none where the opcode is not known
unfoldable pub carries_of : ℕ → Option Carries
carries_of op = if known op then Some (row_of op) else None
