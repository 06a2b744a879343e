-- One record's step among messages in two: where it stands, then what it makes of that. `stage_is` says that the two are the definition's step.
use Rattle.std.specs.Prelude.{Option, None, Some, leb, if◌then◌else◌}
use Rattle.rules.specs.declared.Packet.{Packet}
use Rattle.rules.specs.declared.Settings.{Settings}
use Rattle.rules.specs.declared.carried.Stage.{Stage}
use Rattle.rules.specs.declared.carried.Stage.TheVariants.{Start, Between, Inside}
use Rattle.rules.specs.Message.{pmtu}
use Rattle.rules.specs.Passes.Stage.{new_message, inner, is_rear, behind}

-- a rear part's first record stands behind one that has gone
abbrev pub rear : Settings → Packet → Option Stage
rear s p = if leb (pmtu s) p.offset then Some (Inside (behind s p)) else None

-- where a record stands: between messages or inside one
abbrev pub lead : Settings → Stage → Packet → Option Stage
lead s Start p = if is_rear p then rear s p else Some Between
lead s Between p = Some Between
lead s (Inside w) p = Some (Inside w)

-- one record on from there; none stands at the start
abbrev pub resume : Settings → Stage → Packet → Option Stage
resume s Start p = None
resume s Between p = new_message s p
resume s (Inside w) p = inner s w p
