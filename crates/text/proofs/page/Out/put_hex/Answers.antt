use Rattle.std.proofs.Common.{sym, ap, ◌∙◌}
use Rattle.text.specs.Out.{put_all}
use Rattle.text.proofs.Spelling.{text-some}
use Rattle.text.proofs.page.Out.put_hex.Goals as goal

pub returns-clause-after : goal.returns-clause-after
returns-clause-after c = c.put_octets-self.ensures ∙ ap (put_all _) (text-some c.args.bytes.now (sym c.if-is_empty.ensures))
