-- Each walk that only looks leaves fewer slots by each step; nobody need believe it.
use Rattle.std.specs.Prelude.{ℕ, ◌<◌, ◌||◌}
use native.Mathlib.Omega.{arith}
use Rattle.rules.specs.declared.Slot.{Slot}
use Rattle.audit.specs.declared.Following.{Following}
use Rattle.audit.specs.declared.Tracing.{Tracing}
use Rattle.audit.specs.Steps.{follow_step, trace_step}
use Rattle.engine.specs.declared.Scan.{Scan}
use Rattle.engine.specs.Scanning.{wants, scan_step}
use Rattle.refusal.proofs.Cases.{if-case}

pub follow_less : (w : Following) (i : Slot) → 0 < w.left → (follow_step w i).left < w.left
follow_less w i l = omega (arith, l)

pub trace_less : (w : Tracing) (i : Slot) → 0 < w.left → (trace_step w i).left < w.left
trace_less w i l = omega (arith, l)

pub scan_less : (w : Scan) (i : Slot) → 0 < w.left → (scan_step w i).left < w.left
scan_less w i l =
    if-case (λ (n : ℕ). n < w.left) (wants (scan_step w i).main || wants (scan_step w i).read) (λ _. omega arith) (λ _. l)
