-- The pairs' queues, then the free queue.
use Rattle.audit.specs.Loops.{audited}
use Rattle.card.proofs.auditing.audit_tables.Goals as goal

pub returns : goal.returns
unfolding audited
returns c = simp (c.join_free.ensures, c.follow-w.ensures, c.open_free.ensures, c.audit_pairs-v.ensures, c.begin_audit.ensures)
