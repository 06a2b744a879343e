use Rattle.std.proofs.Common.{sym, ◌∙◌}
use Rattle.text.proofs.Asking.{gathered-more, gathered-missing, gathered-not, gathered-extra, gathered-end}
use Rattle.text.proofs.line.numbers.Goals as goal

pub returns-in_err-word : goal.returns-in_err-word
returns-in_err-word c =
    c.from_residual.ensures ∙ gathered-missing c.loop-i.invariant c.loop-i-test.true c.in_err-word.ensures

pub returns-in_err-args : goal.returns-in_err-args
returns-in_err-args c =
    c.from_residual-in_err-args.ensures
    ∙ gathered-not c.loop-i.invariant c.loop-i-test.true c.in_ok-word.ensures (sym c.in_err-args.ensures)

pub loop-i-preserved : goal.loop-i-preserved
loop-i-preserved c =
    gathered-more c.loop-i.invariant c.loop-i-test.true c.requires c.in_ok-word.ensures (sym c.in_ok-args.ensures)

pub returns-in-Some : goal.returns-in-Some
returns-in-Some c = gathered-extra c.loop-i.invariant c.loop-i-test.false c.in-Some.ensures

pub returns-in-None : goal.returns-in-None
returns-in-None c = gathered-end c.loop-i.invariant c.loop-i-test.false c.requires c.in-None.ensures
