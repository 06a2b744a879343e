-- "The audit passes exactly if": document 01's six bullets, in its order, and that a state is one of its three.
use Rattle.std.specs.Prelude.{◌≡◌, false, ◌++◌, ℕ, ◌≤◌, ◌<◌, length}
use Rattle.psn.specs.Psn.{psns}
use Rattle.refusal.specs.Choice.{Each}
use Rattle.rules.specs.declared.Packet.{Packet}
use Rattle.rules.specs.Card.{Card}
use Rattle.rules.specs.Account.{Side, U, X, H, N, ready, ended}
use Rattle.rules.specs.Ranges.{bad_settings}
use Rattle.rules.specs.Timer.{timeout_of}
use Rattle.rules.specs.Slots.{Tables, pair_at, queue, queues, free_record, free, times, concat, side, sides, Spells}
use Rattle.rules.specs.Pool.{claimed, claims}
use Rattle.rules.specs.Order.{Ordered}
use Rattle.rules.specs.WholeMessages.{Remaining}

-- "the tables have 64 and 256 records; each queue runs by its links from its first end to its last ..; each slot is in one pair's queue or the free queue,
-- once; closed and ended pairs hold none; held counts are true"
pub record Whole (card : Card) (t : Tables) : Type 0 where
  pub pair-records : length t.pairs ≡ card.pairs
  pub slot-records : length t.slots ≡ card.slots
  pub pairs-run : (p : ℕ) → p < card.pairs → Spells card.none t.slots (pair_at t.pairs p).queue (queue t p)
  pub free-runs : Spells card.none t.slots (free_record t) (free t)
  pub once : (i : ℕ) → i < card.slots → times i (free t ++ concat (queues t)) ≡ 1
  pub others-empty : (p : ℕ) → p < card.pairs → ((pair_at t.pairs p).standing.state ≡ ready → ⊥) → (pair_at t.pairs p).queue.held ≡ 0

-- "open pairs' settings are in range, their PSNs and their slots' below 2^24, counts left at most their settings, each held count at most its ceiling"
pub record Bounded (card : Card) (s : Side) : Type 0 where
  pub settings : bad_settings card s.standing.settings ≡ false
  pub u-low : U s < psns
  pub x-low : X s < psns
  pub h-low : H s < psns
  pub n-low : N s < psns
  pub packets-low : Each (λ (p : Packet). p.psn < psns) s.packets
  pub retries : s.standing.clock.retries ≤ s.standing.settings.retry
  pub rnrs : s.standing.clock.rnrs ≤ s.standing.settings.rnr
  pub held : length s.packets ≤ s.standing.settings.ceiling

-- "a ready pair's hold is at most 655,360,000 ns, its elapsed time below the timeout, and 0 if U = H, hold is over 0 or the timeout code is 0"
abbrev pub longest_hold : ℕ
longest_hold = 655360000

pub record Timed (s : Side) : Type 0 where
  pub hold : s.standing.clock.hold ≤ longest_hold
  pub elapsed : s.standing.clock.elapsed < timeout_of s.standing.settings
  pub still : U s ≡ H s → s.standing.clock.elapsed ≡ 0
  pub on-hold : 0 < s.standing.clock.hold → s.standing.clock.elapsed ≡ 0
  pub untimed : s.standing.settings.timeout ≡ 0 → s.standing.clock.elapsed ≡ 0

pub record Audit (card : Card) (t : Tables) : Type 0 where
  pub whole : Whole card t
  -- "A pair is closed, ready or ended."
  pub states : (p : ℕ) → p < card.pairs → (side t p).standing.state ≤ ended
  pub bounded : (p : ℕ) → p < card.pairs → 0 < (side t p).standing.state → Bounded card (side t p)
  pub ordered : (p : ℕ) → p < card.pairs → (side t p).standing.state ≡ ready → Ordered (side t p)
  pub messages : (p : ℕ) → p < card.pairs → Remaining (side t p).standing.settings (side t p).packets
  pub timed : (p : ℕ) → p < card.pairs → (side t p).standing.state ≡ ready → Timed (side t p)
  -- "the sum over open pairs (ready or ended) of the larger of share and held is at most 256"
  pub shares : claimed (claims (sides t)) ≤ card.slots
