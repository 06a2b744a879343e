-- `place_at` meets its contract: an offset that is cut first comes to the same.
use mathlib.Core.Path.{sym, ◌∙◌}
use Rattle.rules.specs.Message.{made, read_request}
use Rattle.message.proofs.Cuts.{cut_again}
use Rattle.message.proofs.places.place_at.Goals as goal

pub returns-then-asks_read : goal.returns-then-asks_read
returns-then-asks_read c =
    let a = c.args in
    simp (c.make.ensures, c.from.ensures, sym c.asks_read.ensures ∙ c.if-asks_read.true)
    (cut_again (made read_request a.m a.first a.m.offset a.m.length))
