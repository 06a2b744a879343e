use Rattle.std.proofs.Common.{sym, ◌∙◌, arith}
use Rattle.text.proofs.Numbers.{number-none, reading-start, reading-more, reading-other, reading-large, reading-end}
use Rattle.text.proofs.decimal.number.Goals as goal

pub returns-then-is_empty : goal.returns-then-is_empty
returns-then-is_empty c = number-none _ (sym c.if-is_empty.ensures)

pub loop-b-init : goal.loop-b-init
loop-b-init c = reading-start _ (sym c.if-is_empty.ensures)

pub returns-then-not-is_ascii_digit : goal.returns-then-not-is_ascii_digit
returns-then-not-is_ascii_digit c =
    reading-other c.loop-b.invariant c.loop-b-test.true (sym c.if-not-is_ascii_digit.ensures.value)

pub returns-in_err-checked_mul : goal.returns-in_err-checked_mul
returns-in_err-checked_mul c =
    c.from_residual.ensures
    ∙ reading-large c.loop-b.invariant c.loop-b-test.true (sym c.if-not-is_ascii_digit.ensures.value) (omega (arith, c.in_err-checked_mul.ensures))

pub returns-in_err-n : goal.returns-in_err-n
returns-in_err-n c =
    c.from_residual-in_err-n.ensures
    ∙ reading-large c.loop-b.invariant c.loop-b-test.true (sym c.if-not-is_ascii_digit.ensures.value)
    (omega (arith, c.in_ok-checked_mul.ensures, c.from.ensures, c.in_err-n.ensures))

pub loop-b-preserved : goal.loop-b-preserved
loop-b-preserved c =
    reading-more c.loop-b.invariant c.loop-b-test.true (sym c.if-not-is_ascii_digit.ensures.value)
    (omega (arith, c.in_ok-checked_mul.ensures, c.from.ensures, c.in_ok-n.ensures)) (omega (arith, c.in_ok-n.ensures))

pub returns : goal.returns
returns c = reading-end c.loop-b.invariant c.loop-b-test.false
