-- The walks as they begin.
use Rattle.std.specs.Prelude.{false, ℕ, ◌+◌}
use Rattle.rules.specs.declared.Ends.{Ends}
use Rattle.rules.specs.declared.Pair.{Pair}
use Rattle.rules.specs.declared.Post.{Post}
use Rattle.walks.specs.declared.Leaving.{Leaving}
use Rattle.walks.specs.declared.Joining.{Joining}
use Rattle.walks.specs.declared.Emitting.{Emitting}

-- so many slots of the pair's front, to the free queue's end
abbrev pub to_free : Pair → Ends → ℕ → ℕ → Leaving
to_free p e released flushed =
    record {
      moving = record { left = released + flushed; at = p.queue.first; first = e.first; last = e.last };
      released = released;
      messages = 0;
    }

-- so many slots of the free queue's front, to the pair's end
abbrev pub to_pair : Pair → Ends → ℕ → Post → Joining
to_pair p e k m =
    record {
      moving = record { left = k; at = e.first; first = p.queue.first; last = p.queue.last };
      total = k;
      settings = p.standing.settings;
      post = m;
      first = p.standing.line.n;
    }

abbrev pub no_post : Post
no_post = record { kind = 0; immediate = false; fenced = false; ticket = 0; offset = 0; length = 0; address = 0; key = 0; value = 0 }

-- so many packets, from the one found on
abbrev pub outward : Pair → ℕ → ℕ → Emitting
outward p k at = record { left = k; total = k; at = at; x = p.standing.line.x; standing = p.standing }
