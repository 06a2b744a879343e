-- Each header, read from a frame by its bytes. Assumes nothing.
use mathlib.Core.Path.{◌≡◌, refl, ◌∙◌, ap}
use mathlib.Core.Bool.{true, false}
use mathlib.Core.List.{List, []}
use Prim.Native.Nat.{ℕ, ◌+◌, ◌/◌, ◌%◌}
use native.Mathlib.Omega.{arith}
use native.Mathlib.Nat.{add-zero}
use lib.ListN.{take, drop}
use Rattle.wire.specs.Bytes.{number, AllBytes}
use Rattle.wire.specs.Layout as fields
use Rattle.wire.specs.Layout.{Layout, bth, reth, aeth, field}
use Rattle.wire.specs.Inner.Seen.{seen, bth_in, reth_in, immediate_in, aeth_in}
use Rattle.wire.proofs.Seeing.{found-group, found-place}

module _ (s : List ℕ) (small : AllBytes s) where
  -- the fields of the BTH's second byte
  abbrev flag_bits : Layout
  flag_bits = take 4 (drop 1 bth)

  pub bth-bytes : bth_in s ≡ record {
    opcode = number (seen s 0 1);
    pad = number (seen s 1 1) / 16 % 4;
    version = number (seen s 1 1) % 16;
    pkey = number (seen s 2 2);
    far = number (seen s 5 3);
    psn = number (seen s 9 3);
  }
  unfolding bth_in field
  bth-bytes =
      let opcode-at = found-place s small 0 0 1 11 fields.opcode [] (drop 1 bth) refl refl refl in
      let pad-at = found-group s small 0 1 1 10 fields.pad (take 1 bth) flag_bits (drop 5 bth) refl refl refl refl in
      let version-at = found-group s small 0 1 1 10 fields.version (take 1 bth) flag_bits (drop 5 bth) refl refl refl refl in
      let version-all : number (seen s 1 1) / 1 % 16 ≡ number (seen s 1 1) % 16 = omega arith in
      let key-at = found-place s small 0 2 2 8 fields.p_key (take 5 bth) (drop 6 bth) refl refl refl in
      let far_at = found-place s small 0 5 3 4 fields.far_pair (take 7 bth) (drop 8 bth) refl refl refl in
      let psn-at = found-place s small 0 9 3 0 fields.psn (take 10 bth) [] refl refl refl in
      λ i. record {
        opcode = opcode-at i;
        pad = pad-at i;
        version = (version-at ∙ version-all) i;
        pkey = key-at i;
        far = far_at i;
        psn = psn-at i;
      }

  module _ (at : ℕ) where
    here : (k : ℕ) → number (seen s (at + 0) k) ≡ number (seen s at k)
    here k = ap (λ (i : ℕ). number (seen s i k)) (add-zero at)

    pub reth-bytes : reth_in s at true ≡ record { address = number (seen s at 8); key = number (seen s (at + 8) 4); length = number (seen s (at + 12) 4) }
    unfolding reth_in
    reth-bytes =
        let address-at = found-place s small at 0 8 8 fields.address [] (drop 1 reth) refl refl refl in
        let key-at = found-place s small at 8 4 4 fields.key (take 1 reth) (drop 2 reth) refl refl refl in
        let length_at = found-place s small at 12 4 0 fields.dma_length (take 2 reth) [] refl refl refl in
        λ i. record { address = (address-at ∙ here 8) i; key = key-at i; length = length_at i }

    pub immediate-bytes : immediate_in s at true ≡ number (seen s at 4)
    unfolding immediate_in
    immediate-bytes = found-place s small at 0 4 0 fields.immediate [] [] refl refl refl ∙ here 4

    pub aeth-bytes : aeth_in s at true ≡ record { syndrome = number (seen s at 1); msn = number (seen s (at + 1) 3) }
    unfolding aeth_in
    aeth-bytes =
        let syndrome-at = found-place s small at 0 1 3 fields.syndrome [] (drop 1 aeth) refl refl refl in
        let msn-at = found-place s small at 1 3 0 fields.msn (take 1 aeth) [] refl refl refl in
        λ i. record { syndrome = (syndrome-at ∙ here 1) i; msn = msn-at i }

-- what is not carried
pub reth-none : (s : List ℕ) (at : ℕ) → reth_in s at false ≡ record { address = 0; key = 0; length = 0 }
unfolding reth_in field
reth-none s at = refl

pub immediate-none : (s : List ℕ) (at : ℕ) → immediate_in s at false ≡ 0
unfolding immediate_in field
immediate-none s at = refl

pub aeth-none : (s : List ℕ) (at : ℕ) → aeth_in s at false ≡ record { syndrome = 0; msn = 0 }
unfolding aeth_in field
aeth-none s at = refl
