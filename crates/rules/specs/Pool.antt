-- A pool that holders share: the audit's last sum, and what refusal 8 asks. Over any pool; slots are one.
use Rattle.std.specs.Prelude.{Bool, ◌||◌, List, [], ◌∷◌, map, ℕ, ◌+◌, max, ltb, eqb, length, set, if◌then◌else◌}
use Rattle.rules.specs.Account.{Side, closed}

-- what one holder may hold whatever the others do, and what it holds
pub record Claim : Type 0 where
  pub share : ℕ
  pub held : ℕ

-- the sum "of the larger of share and held"
abbrev pub claimed : List Claim → ℕ
claimed [] = 0
claimed (c ∷ cs) = max c.share c.held + claimed cs

-- the sum would exceed the total, if holder p claimed c
abbrev pub exceeds : ℕ → List Claim → ℕ → Claim → Bool
exceeds total cs p c = ltb total (claimed (set cs p c))

-- it would hold more than its ceiling, or that
abbrev pub lacks_room : ℕ → ℕ → List Claim → ℕ → Claim → Bool
lacks_room total ceiling cs p c = ltb ceiling c.held || exceeds total cs p c

-- ---- slots as a pool

-- what a pair claims, "over open pairs (ready or ended)": a closed one nothing
abbrev pub claim_of : Side → Claim
claim_of s =
    if eqb s.standing.state closed
    then record { share = 0; held = 0 }
    else record { share = s.standing.settings.share; held = length s.packets }

abbrev pub claims : List Side → List Claim
claims a = map claim_of a
