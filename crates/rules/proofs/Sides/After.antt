-- The side that an outcome leaves.
use Prim.Native.Nat.{ℕ, ◌+◌}
use lib.ListN.{drop}
use Rattle.rules.specs.Account.{Side}
use Rattle.rules.specs.declared.Outcome.{Outcome}

abbrev pub leaving : Outcome → ℕ
leaving o = o.released + o.flushed

abbrev pub after : Outcome → Side → Side
after o s = record { standing = o.standing; packets = drop (leaving o) s.packets }
