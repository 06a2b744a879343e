-- `next_step` meets its contract.
use mathlib.Core.Path.{sym, ◌∙◌}
use native.Mathlib.Omega.{arith}
use Rattle.audit.proofs.Facts.{next_low}
use Rattle.audit.proofs.order.next_step.Goals as goal

pub overflow_add-w : goal.overflow_add-w
overflow_add-w c =
    let a = c.args in
    record { fits = omega (arith, next_low a.l a.w a.p (sym c.next_fits.ensures ∙ c.if-next_fits.true)) }
