-- `closes` meets its contract.
use Rattle.message.specs.Capped.{capped}
use Rattle.audit.proofs.Facts.{too_long}
use Rattle.audit.proofs.messages.closes.Goals as goal

pub returns-then-len-ge2147483648 : goal.returns-then-len-ge2147483648
returns-then-len-ge2147483648 c =
    let a = c.args in
    too_long (capped a.s) a.w a.p (rw (c.from.ensures, c.from-2.ensures, c.mtu.ensures.0, c.from-3.ensures) at c.if-len-ge2147483648.true)
