-- What an event, a timer step, an open or a close makes of a pair; completions; how a pair opens, ends and closes.
use Rattle.std.specs.Prelude.{List, [], ◌∷◌, ◌++◌, map, ℕ, ◌+◌, take, drop, if◌then◌else◌}
use Rattle.rules.specs.declared.Packet.{Packet}
use Rattle.rules.specs.declared.Settings.{Settings}
use Rattle.rules.specs.declared.Standing.{Standing}
use Rattle.rules.specs.declared.Answer.{Answer}
use Rattle.rules.specs.declared.Outcome.{Outcome}
use Rattle.rules.specs.declared.Answer.TheVariants.{Dropped, Done, Ended}
use Rattle.rules.specs.Account.{Side, ready, ended, no_standing}
use Rattle.rules.specs.Message.{is_last}

-- no packet leaves
abbrev pub staying : Answer → Standing → Outcome
staying a t = record { answer = a; released = 0; flushed = 0; standing = t }

-- "dropped", nothing changed
abbrev pub dropped : Side → Outcome
dropped s = staying Dropped s.standing

-- ---- completions

-- a packet that left, and its status: released 0, flushed 1
pub record Departure : Type 0 where
  pub packet : Packet
  pub status : ℕ

abbrev pub left_with : ℕ → List Packet → List Departure
left_with status ps = map (λ p. record { packet = p; status = status }) ps

-- so many are released from the front, so many behind them are flushed
abbrev pub departures : ℕ → ℕ → List Packet → List Departure
departures released flushed ps = left_with 0 (take released ps) ++ left_with 1 (take flushed (drop released ps))

-- "each message yields its ticket, then its status, once, when its last packet is released (0) or flushed (1)", "in PSN order"
abbrev pub completions : List Departure → List ℕ
completions [] = []
completions (d ∷ ds) = if is_last d.packet then d.packet.ticket ∷ d.status ∷ completions ds else completions ds

-- "count of messages in the answer"
abbrev pub messages_of : List Departure → ℕ
messages_of [] = 0
messages_of (d ∷ ds) = (if is_last d.packet then 1 else 0) + messages_of ds

-- ---- opening, ending, closing

-- "Opening sets U, X, H and N to the first PSN, counts to their settings, elapsed and hold to 0."
abbrev pub opened : Settings → ℕ → Standing
opened s first =
    record {
      state = ready;
      settings = s;
      line = record { u = first; x = first; h = first; n = first };
      clock = record { retries = s.retry; rnrs = s.rnr; elapsed = 0; hold = 0 };
    }

-- "An ended pair keeps its share until closed; its U, X and H become N, its hold and elapsed 0."
abbrev pub ended_standing : Standing → Standing
ended_standing t =
    let n = t.line.n in
    record {
      state = ended;
      settings = t.settings;
      line = record { u = n; x = n; h = n; n = n };
      clock = record { retries = t.clock.retries; rnrs = t.clock.rnrs; elapsed = 0; hold = 0 };
    }

-- "Ending or closing a pair flushes all it holds": so many packets
abbrev pub ending : ℕ → Standing → Outcome
ending held t = record { answer = Ended; released = 0; flushed = held; standing = ended_standing t }

abbrev pub closing_all : ℕ → Outcome
closing_all held = record { answer = Done; released = 0; flushed = held; standing = no_standing }
