-- The order bullet with the PSN bounds of the bullet before it, which is how the rules' laws carry it.
use mathlib.Core.Path.{◌≡◌}
use mathlib.Core.List.{List, [], ◌∷◌}
use Prim.Native.Nat.{ℕ, ◌+◌, ◌-◌, ◌≤◌, ◌<◌}
use native.Mathlib.Omega.{arith}
use Rattle.refusal.specs.Choice.{Each}
use Rattle.psn.specs.Psn.{psns, half, distance}
use Rattle.rules.specs.declared.Packet.{Packet}
use Rattle.rules.specs.Card.{Card}
use Rattle.rules.specs.Account.{Side, U, X, H, N}
use Rattle.rules.specs.Message.{span}
use Rattle.rules.specs.Slots.{Tables, side}
use Rattle.rules.specs.Order.{Runs, StartsAtU, Past, Stands, Ordered}
use Rattle.rules.specs.Audit.{Bounded, Audit}

module _ (size : Packet → ℕ) where
  abbrev pub RunsLow : ℕ → ℕ → List Packet → ℕ → Type 0
  RunsLow u o [] n = o ≡ distance u n
  RunsLow u o (p ∷ ps) n = (p.psn < psns) × (distance u p.psn ≡ o) × RunsLow u (o + size p) ps n

  abbrev pub StartsLow : ℕ → List Packet → ℕ → Type 0
  StartsLow u [] n = 0 ≡ distance u n
  StartsLow u (p ∷ ps) n = (p.psn < psns) × (distance p.psn u < size p) × RunsLow u (size p - distance p.psn u) ps n

  runs-low : (u o : ℕ) (ps : List Packet) (n : ℕ) → Each (λ p. p.psn < psns) ps → Runs size u o ps n → RunsLow u o ps n
  runs-low u o [] n l r = r
  runs-low u o (p ∷ ps) n l r = (l.0, r.0, runs-low u (o + size p) ps n l.1 r.1)

  low-runs : (u o : ℕ) (ps : List Packet) (n : ℕ) → RunsLow u o ps n → Runs size u o ps n
  low-runs u o [] n r = r
  low-runs u o (p ∷ ps) n r = (r.1, low-runs u (o + size p) ps n r.2)

  starts-low : (u : ℕ) (ps : List Packet) (n : ℕ) → Each (λ p. p.psn < psns) ps → StartsAtU size u ps n → StartsLow u ps n
  starts-low u [] n l r = r
  starts-low u (p ∷ ps) n l r = (l.0, r.0, runs-low u (size p - distance p.psn u) ps n l.1 r.1)

  low-starts : (u : ℕ) (ps : List Packet) (n : ℕ) → StartsLow u ps n → StartsAtU size u ps n
  low-starts u [] n r = r
  low-starts u (p ∷ ps) n r = (r.1, low-runs u (size p - distance p.psn u) ps n r.2)

pub record InOrder (s : Side) : Type 0 where
  pub u-low : U s < psns
  pub x-low : X s < psns
  pub h-low : H s < psns
  pub n-low : N s < psns
  pub starts : StartsLow (span s.standing.settings) (U s) s.packets (N s)
  pub u-x-h : distance (U s) (X s) ≤ distance (U s) (H s)
  pub u-h-n : distance (U s) (H s) ≤ distance (U s) (N s)
  pub near : distance (U s) (N s) ≤ half
  pub x-stands : Stands (X s) s
  pub h-stands : Stands (H s) s
  pub h-past : Past (span s.standing.settings) (U s) (H s) s.packets

pub in_order : {card : Card} {s : Side} → Bounded card s → Ordered s → InOrder s
in_order {card} {s} b o =
    record {
      u-low = b.u-low;
      x-low = b.x-low;
      h-low = b.h-low;
      n-low = b.n-low;
      starts = starts-low (span s.standing.settings) (U s) s.packets (N s) b.packets-low o.starts;
      u-x-h = o.u-x-h;
      u-h-n = o.u-h-n;
      near = o.near;
      x-stands = o.x-stands;
      h-stands = o.h-stands;
      h-past = o.h-past;
    }

pub ordered : {s : Side} → InOrder s → Ordered s
ordered {s} o =
    record {
      starts = low-starts (span s.standing.settings) (U s) s.packets (N s) o.starts;
      u-x-h = o.u-x-h;
      u-h-n = o.u-h-n;
      near = o.near;
      x-stands = o.x-stands;
      h-stands = o.h-stands;
      h-past = o.h-past;
    }

-- of a ready pair of audited tables
pub audited-order : {card : Card} {t : Tables} → Audit card t → (p : ℕ) → p < card.pairs → (side t p).standing.state ≡ 1 → InOrder (side t p)
audited-order a p h e = in_order (a.bounded p h (omega arith)) (a.ordered p h e)
