-- `stage_step` meets its contract: the two steps are the definition's one.
use mathlib.Core.Path.{ap, sym, ◌∙◌}
use Rattle.std.specs.Option.{option_and_then}
use Rattle.message.specs.Capped.{capped}
use Rattle.audit.specs.Stages.{resume}
use Rattle.audit.proofs.Opcodes.{stage_is}
use Rattle.audit.proofs.messages.stage_step.Goals as goal

pub returns : goal.returns
returns c =
    let a = c.args in
    let s = capped a.s in
    rw c.in_ok-w.was
    (c.resume.ensures ∙ ap (option_and_then (λ x. resume s x a.p)) (sym c.in_ok-lead.was ∙ c.lead.ensures) ∙ stage_is s c.in_ok-w.field-0 a.p)
