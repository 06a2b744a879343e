use Rattle.std.proofs.Common.{refl}
use Rattle.refusal.proofs.Loop.{keeps-on}
use Rattle.audit.proofs.Pairs.{join-less}
use Rattle.card.proofs.auditing.audit_pairs.Goals as goal

pub loop-v-preserved : goal.loop-v-preserved
loop-v-preserved c = keeps-on _ _ (λ t. join-less t.0 t.1) c.loop-v.invariant c.loop-v-test.true c.audit_turn-v.ensures refl
