use Rattle.std.proofs.Common.{◌<◌, length, get_or, ◌∙◌, arith}
use Rattle.text.proofs.Putting.{putting-more, putting-end}
use Rattle.answers.specs.Said.{numeral}
use Rattle.answers.proofs.Saying.{spaced-at, spaced-none}
use Rattle.answers.proofs.print.put_numbers.Goals as goal

pub loop-n-preserved : goal.loop-n-preserved
loop-n-preserved c =
    let s = c.args.numbers.now in
    let i = c.loop-n.n-index in
    let more : i < length s = omega arith in
    record {
      same = c.put_number.ensures.same ∙ c.loop-n.invariant.same;
      long = c.put_number.ensures.long ∙ c.loop-n.invariant.long;
      put = putting-more c.loop-n.invariant.put more (numeral (get_or s i 0)) (spaced-at s i more) c.put_number.ensures.after;
    }

pub returns-clause-after : goal.returns-clause-after
returns-clause-after c = putting-end c.loop-n.invariant.put c.loop-n-test.false spaced-none
