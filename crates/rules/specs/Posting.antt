-- "A post stores and raises N."
use Rattle.std.specs.Prelude.{◌++◌}
use Rattle.psn.specs.Psn.{plus}
use Rattle.rules.specs.declared.Standing.{Standing}
use Rattle.rules.specs.declared.Post.{Post}
use Rattle.rules.specs.Account.{Side, N, updated}
use Rattle.rules.specs.Message.{psns_for, packets_of}

abbrev pub raised : Post → Standing → Standing
raised m t =
    let l = t.line in
    updated (record { u = l.u; x = l.x; h = l.h; n = plus l.n (psns_for t.settings m) }) t.clock t

unfoldable pub posted : Post → Side → Side
posted m s = record { standing = raised m s.standing; packets = s.packets ++ packets_of s.standing.settings m (N s) }
