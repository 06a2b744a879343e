-- "Reading a written header, cut to its length and followed by a rest that 14 allows, gives the same fields (those the opcode lacks are not
-- written and read as 0); writing what was read gives the same bytes when the reserved bits were zero and those three as written."
-- The words of the two theorems of proofs/Forth.antt and proofs/Back.antt. Assumes nothing.
use Rattle.std.specs.Prelude.{◌≡◌, false, List, ◌++◌, ℕ, ◌-◌, ◌^◌, ◌<◌, length, take, replicate, Ok, if◌then◌else◌}
use Rattle.wire.specs.Bytes.{AllBytes}
use Rattle.wire.specs.Layout as fields
use Rattle.wire.specs.Layout.{has}
use Rattle.wire.specs.Opcodes.{is_bare, layout}
use Rattle.wire.specs.Header.{header_bytes, put, write_of}
use Rattle.wire.specs.Frame.{got, value_in, is_bad_rest, read_of}
use Rattle.wire.specs.declared.Header.{Header}
use Rattle.wire.specs.declared.Frame.{Frame}

-- a header whose numbers fit their fields in memory, as every header of the code does
pub record Held (h : Header) : Type 0 where
  pub pkey : h.pkey < 2 ^ 16
  pub address : h.address < 2 ^ 64
  pub key : h.key < 2 ^ 32
  pub length : h.length < 2 ^ 32
  pub value : h.value < 2 ^ 32
  pub syndrome : h.syndrome < 2 ^ 8

-- "the same fields (those the opcode lacks are not written and read as 0)"
abbrev pub kept : Header → Header
kept h = got (λ n. if has n (layout h.opcode) then put h n else 0)

-- "Reading a written header, cut to its length and followed by a rest that 14 allows, gives the same fields"
abbrev pub Forth : Type 0
Forth =
    (h : Header) (n : ℕ) (rest : List ℕ) → Held h → (write_of h).size ≡ Ok n → is_bad_rest (length rest) h.pad (is_bare h.opcode) ≡ false
    → read_of (take n (write_of h).bytes ++ rest) ≡ Ok (record { header = kept h; length = n; payload = length rest - h.pad })

-- "the reserved bits were zero and those three as written"
pub record AsWritten (s : List ℕ) : Type 0 where
  pub solicited_event : value_in s fields.solicited_event ≡ 1
  pub migration : value_in s fields.migration ≡ 0
  pub ack_req : value_in s fields.ack_req ≡ 1
  pub reserved_byte : value_in s fields.reserved_byte ≡ 0
  pub reserved_bits : value_in s fields.reserved_bits ≡ 0

-- "writing what was read gives the same bytes"
abbrev pub Back : Type 0
Back =
    (s : List ℕ) (f : Frame) → AllBytes s → read_of s ≡ Ok f → AsWritten s
    → write_of f.header ≡ record { size = Ok f.length; bytes = take f.length s ++ replicate (header_bytes - f.length) 0 }
