-- "Ranges for 3", and refusal 5, which asks a post and its pair's settings alone. The audit asks the same of what it finds.
use Rattle.std.specs.Prelude.{Bool, not, ◌&&◌, ◌||◌, List, [], ◌∷◌, ℕ, ◌+◌, ◌/◌, ◌%◌, ◌^◌, ltb, leb, eqb}
use Rattle.psn.specs.Psn.{psns}
use Rattle.refusal.specs.Choice.{any_of}
use Rattle.rules.specs.declared.Settings.{Settings}
use Rattle.rules.specs.declared.Post.{Post}
use Rattle.rules.specs.Card.{Card}
use Rattle.rules.specs.Message.{asks_read, slots_for}

-- "Open: far pair and first PSN below 2^24; P_Key any 16 bits; PMTU code 1 to 5 (256, 512, 1024, 2048, 4096 bytes); share 1 to ceiling, ceiling at most 256;
-- retry and RNR retry 0 to 7; timeout code 0 to 31."
abbrev pub settings_faults : Card → Settings → List Bool
settings_faults card s =
    leb psns s.far
    ∷ leb (2 ^ 16) s.pkey
    ∷ ltb s.pmtu 1
    ∷ ltb 5 s.pmtu
    ∷ ltb s.share 1
    ∷ ltb s.ceiling s.share
    ∷ ltb card.slots s.ceiling
    ∷ ltb 7 s.retry
    ∷ ltb 7 s.rnr
    ∷ ltb 31 s.timeout
    ∷ []

unfoldable pub bad_settings : Card → Settings → Bool
bad_settings card s = any_of (settings_faults card s)

abbrev pub bad_psn : ℕ → Bool
bad_psn a = leb psns a

-- "Post: a known kind; no immediate on a read; length below 2^31; offset below 2^32, offset + length at most 2^32; for a write or read of length over 0,
-- address + length at most 2^64."
abbrev pub post_faults : Post → List Bool
post_faults m =
    ltb 2 m.kind
    ∷ (asks_read m && m.immediate)
    ∷ leb (2 ^ 31) m.length
    ∷ leb (2 ^ 32) m.offset
    ∷ ltb (2 ^ 32) (m.offset + m.length)
    ∷ (ltb 0 m.kind && ltb 0 m.length && ltb (2 ^ 64) (m.address + m.length))
    ∷ []

unfoldable pub bad_post : Post → Bool
bad_post m = any_of (post_faults m)

-- "Emit: budget 1 to 64."
abbrev pub largest_budget : ℕ
largest_budget = 64

abbrev pub bad_budget : ℕ → Bool
bad_budget n = ltb n 1 || ltb largest_budget n

-- a syndrome's top three bits and its low five: 000 ACK, 001 RNR, 011 NAK, of codes 0 to 3
abbrev pub top_bits : ℕ → ℕ
top_bits y = y / 32

abbrev pub low_bits : ℕ → ℕ
low_bits y = y % 32

-- "syndrome as below", "Any other syndrome: refusal 3."
abbrev pub bad_syndrome : ℕ → Bool
bad_syndrome y = not (eqb (top_bits y) 0 || eqb (top_bits y) 1 || (eqb (top_bits y) 3 && leb (low_bits y) 3))

-- "response opcode 13 to 16"
abbrev pub bad_response : ℕ → Bool
bad_response op = ltb op 13 || ltb 16 op

-- "Elapsed time: any 32-bit count of ns."
abbrev pub bad_elapsed : ℕ → Bool
bad_elapsed e = leb (2 ^ 32) e

-- 5: "a post of more slots than the pair's ceiling"
abbrev pub over_ceiling : Settings → Post → Bool
over_ceiling s m = ltb s.ceiling (slots_for s m)
