-- The audit's third bullet, for one ready pair: its packets' PSNs run from U to N. A place is a plain number, the distance from U with spans added.
use Rattle.std.specs.Prelude.{◌≡◌, List, [], ◌∷◌, ℕ, ◌+◌, ◌-◌, ◌≤◌, ◌<◌}
use Rattle.psn.specs.Psn.{half, distance}
use Rattle.rules.specs.declared.Packet.{Packet}
use Rattle.rules.specs.Account.{Side, U, X, H, N}
use Rattle.rules.specs.Message.{span}

infixr 4 ◌or◌
pub data ◌or◌ (A B : Type 0) : Type 0 where
  left : A → A or B
  right : B → A or B

module _ (size : Packet → ℕ) where
  -- the first starts at the place o, "each record starts where the one before ends, the last ends at N"
  abbrev pub Runs : ℕ → ℕ → List Packet → ℕ → Type 0
  Runs u o [] n = o ≡ distance u n
  Runs u o (p ∷ ps) n = (distance u p.psn ≡ o) × Runs u (o + size p) ps n

  -- the "queue starts at U (its first record may be a read partly answered up to U)": U is one of its first record's PSNs. "an empty queue has U = N"
  abbrev pub StartsAtU : ℕ → List Packet → ℕ → Type 0
  StartsAtU u [] n = 0 ≡ distance u n
  StartsAtU u (p ∷ ps) n = (distance p.psn u < size p) × Runs u (size p - distance p.psn u) ps n

  -- "H is past a partly answered read"
  abbrev pub Past : ℕ → ℕ → List Packet → Type 0
  Past u h [] = Unit {0}
  Past u h (p ∷ ps) = (0 < distance p.psn u) → size p - distance p.psn u ≤ distance u h

-- some record starts at a
abbrev pub Start : ℕ → List Packet → Type 0
Start a [] = ⊥
Start a (p ∷ ps) = (a ≡ p.psn) or Start a ps

-- a stands "at U, a record's start or N"
abbrev pub Stands : ℕ → Side → Type 0
Stands a s = (a ≡ U s) or (a ≡ N s) or Start a s.packets

pub record Ordered (s : Side) : Type 0 where
  pub starts : StartsAtU (span s.standing.settings) (U s) s.packets (N s)
  -- "U, X, H, N lie in that order by distance, N at most 8,388,607 from U"
  pub u-x-h : distance (U s) (X s) ≤ distance (U s) (H s)
  pub u-h-n : distance (U s) (H s) ≤ distance (U s) (N s)
  pub near : distance (U s) (N s) ≤ half
  pub x-stands : Stands (X s) s
  pub h-stands : Stands (H s) s
  pub h-past : Past (span s.standing.settings) (U s) (H s) s.packets
