-- How the reader looks at a frame. Assumes nothing.
use Rattle.std.specs.Prelude.{Bool, List, [], ◌∷◌, ℕ, zero, suc, ◌+◌, get_or, if◌then◌else◌}
use Rattle.wire.specs.Bytes.{number}
use Rattle.wire.specs.Layout as fields
use Rattle.wire.specs.Layout.{Name, Layout, field}
use Rattle.wire.specs.declared.Header.{Header}
use Rattle.wire.specs.declared.opcode.Carries.{Carries}
use Rattle.wire.specs.declared.reader.Bth.{Bth}
use Rattle.wire.specs.declared.reader.Reth.{Reth}
use Rattle.wire.specs.declared.reader.Aeth.{Aeth}

-- k bytes from a place on; past the end they are 0
abbrev pub seen : List ℕ → ℕ → ℕ → List ℕ
seen s at zero = []
seen s at (suc k) = get_or s at 0 ∷ seen s (suc at) k

-- what stands under a name in a header that begins at a place
abbrev pub found : List ℕ → ℕ → ℕ → Layout → Name → ℕ
found s at k fs n = field n fs (number (seen s at k))

unfoldable pub bth_in : List ℕ → Bth
bth_in s =
    let value = found s 0 12 fields.bth in
    record {
      opcode = value fields.opcode;
      pad = value fields.pad;
      version = value fields.version;
      pkey = value fields.p_key;
      far = value fields.far_pair;
      psn = value fields.psn;
    }

-- how many bytes a header takes that may be carried
abbrev pub count : Bool → ℕ → ℕ
count carried k = if carried then k else 0

-- of a header that is not carried all is 0
unfoldable pub reth_in : List ℕ → ℕ → Bool → Reth
reth_in s at carried =
    let value = found s at (count carried 16) (if carried then fields.reth else []) in
    record { address = value fields.address; key = value fields.key; length = value fields.dma_length }

unfoldable pub immediate_in : List ℕ → ℕ → Bool → ℕ
immediate_in s at carried = found s at (count carried 4) (if carried then fields.immediate_data else []) fields.immediate

unfoldable pub aeth_in : List ℕ → ℕ → Bool → Aeth
aeth_in s at carried =
    let value = found s at (count carried 4) (if carried then fields.aeth else []) in
    record { syndrome = value fields.syndrome; msn = value fields.msn }

unfoldable pub header_in : List ℕ → Bth → Carries → Header
header_in s b row =
    let at = 12 + count row.reth 16 in
    let r = reth_in s 12 row.reth in
    let a = aeth_in s (at + count row.immediate 4) row.aeth in
    record {
      opcode = b.opcode;
      pad = b.pad;
      pkey = b.pkey;
      far = b.far;
      psn = b.psn;
      address = r.address;
      key = r.key;
      length = r.length;
      value = immediate_in s at row.immediate;
      syndrome = a.syndrome;
      msn = a.msn;
    }
