-- Reading a frame. Assumes nothing.
use Rattle.std.specs.Prelude.{Bool, not, ◌&&◌, List, [], ◌∷◌, ℕ, ◌-◌, ◌%◌, ltb, eqb, length, take, get_or, Result}
use Rattle.refusal.specs.declared.Refusal.{Refusal}
use Rattle.refusal.specs.declared.Refusal.TheVariants.{Short, Opcode, Version, Rest}
use Rattle.refusal.specs.Choice.{any_of}
use Rattle.refusal.specs.Refusals.{Row, ◌gives◌, first_given}
use Rattle.wire.specs.Bytes.{number}
use Rattle.wire.specs.Layout as fields
use Rattle.wire.specs.Layout.{Name, field}
use Rattle.wire.specs.Opcodes.{known, is_bare, layout, header_length}
use Rattle.wire.specs.Header.{answered}
use Rattle.wire.specs.declared.Header.{Header}
use Rattle.wire.specs.declared.Frame.{Frame}

-- the fields of a header, read back; the writer's own three, the version and reserved bits are not kept
abbrev pub got : (Name → ℕ) → Header
got value =
    record {
      opcode = value fields.opcode;
      pad = value fields.pad;
      pkey = value fields.p_key;
      far = value fields.far_pair;
      psn = value fields.psn;
      address = value fields.address;
      key = value fields.key;
      length = value fields.dma_length;
      value = value fields.immediate;
      syndrome = value fields.syndrome;
      msn = value fields.msn;
    }

-- a frame's opcode, its headers' length, what stands in its fields, and the rest after its headers
abbrev pub opcode_of : List ℕ → ℕ
opcode_of s = get_or s 0 0

abbrev pub length_of : List ℕ → ℕ
length_of s = header_length (opcode_of s)

unfoldable pub value_in : List ℕ → Name → ℕ
value_in s n = field n (layout (opcode_of s)) (number (take (length_of s) s))

abbrev pub rest_of : List ℕ → ℕ
rest_of s = length s - length_of s

-- 14: "rest after headers not a multiple of 4, smaller than the pad count, or not empty for opcode 12 or 17"
abbrev pub is_bad_rest : ℕ → ℕ → Bool → Bool
is_bad_rest rest pad bare = any_of (not (eqb (rest % 4) 0) ∷ ltb rest pad ∷ (bare && ltb 0 rest) ∷ [])

-- 11: "frame shorter than its headers (below 12 bytes, or below what its opcode needs)"; 12: "opcode not 0 to 17"; 13: "transport version not 0"
abbrev pub frame_refusals : List ℕ → List Row
frame_refusals s =
    ltb (length s) 12 gives Short
    ∷ not (known (opcode_of s)) gives Opcode
    ∷ ltb (length s) (length_of s) gives Short
    ∷ not (eqb (value_in s fields.version) 0) gives Version
    ∷ is_bad_rest (rest_of s) (value_in s fields.pad) (is_bare (opcode_of s)) gives Rest
    ∷ []

-- "also answers header and payload length (rest less pad)"
abbrev pub frame_of : List ℕ → Frame
frame_of s = record { header = got (value_in s); length = length_of s; payload = rest_of s - value_in s fields.pad }

unfoldable pub read_of : List ℕ → Result Frame Refusal
read_of s = answered (first_given (frame_refusals s)) (frame_of s)
