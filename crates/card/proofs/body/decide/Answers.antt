-- The audit, the pair's record and the scan are of the tables as they were lent.
use Rattle.engine.specs.Body.{scan_of}
use Rattle.card.proofs.body.decide.Goals as goal

pub returns : goal.returns
unfolding scan_of
returns c = simp (c.plan_of.ensures, c.follow-c.ensures, c.begin_scan.ensures, c.pair_at-p.ensures, c.audit_tables-v.ensures)
