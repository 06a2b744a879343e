-- Too long, no word, a comment, or what its first word asks.
use Rattle.std.proofs.Common.{ap, ◌∙◌, unwrap_or}
use Rattle.text.specs.declared.Parsed.{Parsed}
use Rattle.text.proofs.Lines.{too_long, no_words, comment, asks}
use Rattle.text.proofs.line.parse.Goals as goal

pub returns-then-line-gt-LONGEST : goal.returns-then-line-gt-LONGEST
returns-then-line-gt-LONGEST c = c.alone.ensures ∙ too_long _ c.if-line-gt-LONGEST.true

pub returns-in_default : goal.returns-in_default
returns-in_default c = c.alone-in_default.ensures ∙ no_words _ c.if-line-gt-LONGEST.false c.in_default.ensures

pub returns-then-starts_with : goal.returns-then-starts_with
returns-then-starts_with c =
    c.alone-then-starts_with.ensures
    ∙ comment _ c.if-line-gt-LONGEST.false c.in-Some.ensures c.if-starts_with.true c.starts_with.ensures.value

pub returns : goal.returns
returns c =
    c.unwrap_or.ensures
    ∙ ap (λ (p : Parsed). unwrap_or c.asked.result p) c.alone-2.ensures
    ∙ c.asked.ensures
    ∙ asks _ c.if-line-gt-LONGEST.false c.in-Some.ensures c.if-starts_with.false c.starts_with.ensures.value
