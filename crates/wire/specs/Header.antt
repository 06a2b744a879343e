-- Writing a header. Assumes nothing.
use Rattle.std.specs.Prelude.{Bool, not, List, [], ◌∷◌, ◌++◌, ℕ, ◌-◌, ◌^◌, leb, ltb, replicate, Option, None, Some, Result, Ok, Err}
use Rattle.psn.specs.Psn.{psns}
use Rattle.refusal.specs.declared.Refusal.{Refusal}
use Rattle.refusal.specs.declared.Refusal.TheVariants.{Range, Opcode}
use Rattle.refusal.specs.Choice.{any_of}
use Rattle.refusal.specs.Refusals.{Row, ◌gives◌, first_given}
use Rattle.wire.specs.Bytes.{bytes}
use Rattle.wire.specs.Layout as fields
use Rattle.wire.specs.Layout.{Name, laid}
use Rattle.wire.specs.Opcodes.{known, layout, header_length}
use Rattle.wire.specs.declared.Header.{Header}
use Rattle.wire.specs.declared.Written.{Written}

-- "A header goes out as 32 bytes by value"
abbrev pub header_bytes : ℕ
header_bytes = 32

-- what a header puts into each field: "the writer always sets solicited event 1, migration 0, AckReq 1"; version and reserved bits are 0
abbrev pub put : Header → Name → ℕ
put h fields.opcode = h.opcode
put h fields.solicited_event = 1
put h fields.migration = 0
put h fields.pad = h.pad
put h fields.version = 0
put h fields.p_key = h.pkey
put h fields.reserved_byte = 0
put h fields.far_pair = h.far
put h fields.ack_req = 1
put h fields.reserved_bits = 0
put h fields.psn = h.psn
put h fields.address = h.address
put h fields.key = h.key
put h fields.dma_length = h.length
put h fields.immediate = h.value
put h fields.syndrome = h.syndrome
put h fields.msn = h.msn

-- the header's bytes, as many as its opcode has
unfoldable pub written : Header → List ℕ
written h = bytes (header_length h.opcode) (laid (put h) (layout h.opcode))

-- "Header writing: pad over 3, or far pair, PSN or MSN of 2^24 or more, is 3; then an opcode over 17 is 12"
abbrev pub is_out_of_range : Header → Bool
is_out_of_range h = any_of (ltb 3 h.pad ∷ leb (2 ^ 24) h.far ∷ leb psns h.psn ∷ leb (2 ^ 24) h.msn ∷ [])

abbrev pub write_refusals : Header → List Row
write_refusals h = is_out_of_range h gives Range ∷ not (known h.opcode) gives Opcode ∷ []

-- the refusal that is given, or else the answer
abbrev pub answered : {A : Type 0} → Option Refusal → A → Result A Refusal
answered None x = Ok x
answered (Some r) x = Err r

-- zeros after the header
abbrev pub out_of : Header → Written
out_of h =
    let k = header_length h.opcode in
    record { size = Ok k; bytes = written h ++ replicate (header_bytes - k) 0 }

-- "the 32 bytes are then zeros"
abbrev pub refused : Refusal → Written
refused r = record { size = Err r; bytes = replicate header_bytes 0 }

abbrev pub written_or : Option Refusal → Written → Written
written_or None w = w
written_or (Some r) w = refused r

unfoldable pub write_of : Header → Written
write_of h = written_or (first_given (write_refusals h)) (out_of h)

-- what a record of the card says of a header's length: of a refused one 0
abbrev pub length_of : Result ℕ Refusal → ℕ
length_of (Ok k) = k
length_of (Err r) = 0
