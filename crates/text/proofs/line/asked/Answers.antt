-- The call of the row of its first word, if it has one.
use Rattle.std.proofs.Common.{ap, ◌∙◌, unwrap_or, Option}
use Rattle.text.specs.declared.Ask.TheVariants.{Unread}
use Rattle.text.specs.declared.Parsed.{Parsed}
use Rattle.text.specs.Line.{alone}
use Rattle.text.proofs.Lines.{row-asks}
use Rattle.text.proofs.line.asked.Goals as goal

pub returns-in_err-find_call : goal.returns-in_err-find_call
returns-in_err-find_call c =
    ap (λ (o : Option Parsed). unwrap_or o (alone Unread)) c.from_residual.ensures
    ∙ row-asks c.args.word.now _ c.in_err-find_call.ensures

pub returns : goal.returns
returns c = c.called.ensures ∙ row-asks c.args.word.now _ c.in_ok-find_call.ensures
