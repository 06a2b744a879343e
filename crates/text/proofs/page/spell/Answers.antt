use Rattle.std.proofs.Common.{◌≤◌, arith}
use Rattle.text.proofs.Spelling.{spelled-start, spelled-more, spelled-last, spelled-all}
use Rattle.text.proofs.page.spell.Goals as goal

pub loop-i-init : goal.loop-i-init
loop-i-init c = spelled-start c.args.n c.args.digits.now c.told-digits

pub returns-then-rest-eq0 : goal.returns-then-rest-eq0
returns-then-rest-eq0 c =
    let most = c.loop-i.auto.i in
    (spelled-last c.loop-i.invariant c.loop-i-test.true c.if-rest-eq0.true most, omega (arith, most))

pub loop-i-preserved : goal.loop-i-preserved
loop-i-preserved c = spelled-more c.loop-i.invariant c.loop-i-test.true c.if-rest-eq0.false c.loop-i.auto.i

pub returns : goal.returns
returns c = (spelled-all c.loop-i.invariant c.loop-i-test.false, omega arith)
