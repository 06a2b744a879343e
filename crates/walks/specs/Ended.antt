-- The queues once a walk has ended.
use Rattle.std.specs.Prelude.{ℕ, ◌+◌, ◌-◌, min, eqb, if◌then◌else◌}
use Rattle.rules.specs.declared.Ends.{Ends}
use Rattle.rules.specs.declared.Queue.{Queue}
use Rattle.rules.specs.Card.{small}
use Rattle.walks.specs.declared.Moving.{Moving}

-- a queue from whose front k slots went: it keeps its last, unless it is empty now
abbrev pub shorter : Queue → ℕ → Moving → Queue
shorter q k w = record { first = w.at; last = if eqb (q.held - k) 0 then small.none else q.last; held = q.held - k }

-- a queue that k slots joined; no pair holds more slots than there are
abbrev pub longer : Queue → ℕ → Moving → Queue
longer q k w = record { first = w.first; last = w.last; held = min (q.held + k) small.slots }

-- the free queue after slots joined it, and after slots left it
abbrev pub free_longer : Moving → Ends
free_longer w = record { first = w.first; last = w.last }

abbrev pub free_shorter : Ends → Moving → Ends
free_shorter e w = record { first = w.at; last = if eqb w.at small.none then small.none else e.last }
