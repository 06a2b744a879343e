-- "Headers, big-endian": each header as the list of its fields with their widths in bits, in the order of the wire.
-- Assumes nothing.
use Rattle.std.specs.Prelude.{◌≡◌, Bool, true, false, List, [], ◌∷◌, ℕ, ◌+◌, ◌*◌, ◌/◌, ◌%◌, ◌^◌, if◌then◌else◌}

pub data Name : Type 0 where
  opcode solicited_event migration pad version p_key reserved_byte far_pair ack_req reserved_bits psn : Name
  address key dma_length : Name
  immediate : Name
  syndrome msn : Name
  deriving Discrete as Name-discrete

pub record Field : Type 0 where
  pub name : Name
  pub width : ℕ

infix 80 ◌bits◌
abbrev pub ◌bits◌ : Name → ℕ → Field
n bits w = record { name = n; width = w }

abbrev pub Layout : Type 0
Layout = List Field

-- "BTH, 12 bytes: opcode 8 bits; solicited event 1, migration 1, pad 2, version 4; P_Key 16; 8 zero bits; far pair 24; AckReq 1, 7 zero; PSN 24."
abbrev pub bth : Layout
bth =
    opcode bits 8
    ∷ solicited_event bits 1 ∷ migration bits 1 ∷ pad bits 2 ∷ version bits 4
    ∷ p_key bits 16
    ∷ reserved_byte bits 8 ∷ far_pair bits 24
    ∷ ack_req bits 1 ∷ reserved_bits bits 7 ∷ psn bits 24
    ∷ []

-- "RETH, 16 bytes ..: address 64, key 32, length 32"
abbrev pub reth : Layout
reth = address bits 64 ∷ key bits 32 ∷ dma_length bits 32 ∷ []

-- "Immediate, 4 bytes"
abbrev pub immediate_data : Layout
immediate_data = immediate bits 32 ∷ []

-- "AETH, 4 bytes ..: syndrome 8, MSN 24"
abbrev pub aeth : Layout
aeth = syndrome bits 8 ∷ msn bits 24 ∷ []

-- how many bits a layout has
abbrev pub size : Layout → ℕ
size [] = 0
size (f ∷ fs) = f.width + size fs

abbrev pub decided : {m n : Name} → Dec (m ≡ n) → Bool
decided (yes e) = true
decided (no e) = false

-- are the two names one?
abbrev pub same : Name → Name → Bool
same m n = decided (Name-discrete m n)

abbrev pub has : Name → Layout → Bool
has n [] = false
has n (f ∷ fs) = if same n f.name then true else has n fs

-- the fields side by side as one number, each in its width, the first highest
unfoldable pub laid : (Name → ℕ) → Layout → ℕ
laid value [] = 0
laid value (f ∷ fs) = value f.name % 2 ^ f.width * 2 ^ size fs + laid value fs

-- what stands in such a number under a name; 0 where the layout lacks it
unfoldable pub field : Name → Layout → ℕ → ℕ
field n [] x = 0
field n (f ∷ fs) x = if same n f.name then x / 2 ^ size fs % 2 ^ f.width else field n fs x
