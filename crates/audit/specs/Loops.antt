-- The steps along the tables: what the loops of a card come to. `audited-is` says that this is the audit's answer.
use Rattle.std.specs.Prelude.{List, length, Option, ℕ}
use Rattle.std.specs.Option.{option_map}
use Rattle.rules.specs.declared.Pair.{Pair}
use Rattle.rules.specs.declared.Slot.{Slot}
use Rattle.rules.specs.Slots.{Tables, slot_at, pair_at}
use Rattle.refusal.specs.Loop.{loop}
use Rattle.audit.specs.Steps.{begin_audit, next_pair, open_queue, follow_step, join_queue, open_free, trace_step, join_free}
use Rattle.audit.specs.declared.Following.{Following}
use Rattle.audit.specs.declared.Tracing.{Tracing}
use Rattle.audit.specs.declared.Auditing.{Auditing}

-- one queue, slot by slot
abbrev pub follow_turn : List Slot → Following → Following
follow_turn s w = follow_step w (slot_at s w.walk.trail.at)

abbrev pub follow : List Slot → Following → Following
follow s w = loop (λ (x : Following). x.left) (follow_turn s) w

-- the free queue
abbrev pub trace_turn : List Slot → Tracing → Tracing
trace_turn s w = trace_step w (slot_at s w.trail.at)

abbrev pub trace : List Slot → Tracing → Tracing
trace s w = loop (λ (x : Tracing). x.left) (trace_turn s) w

-- all pairs, one after the other
abbrev pub audit_turn : List Pair → List Slot → Auditing → Auditing
audit_turn ps s v =
    let p = pair_at ps (next_pair v) in
    join_queue v p (option_map (follow s) (open_queue v p))

abbrev pub audit_pairs : List Pair → List Slot → Auditing → Auditing
audit_pairs ps s v = loop (λ (x : Auditing). x.left) (audit_turn ps s) v

-- the whole audit: how many slots the open pairs claim, or none where it does not pass
unfoldable pub audited : Tables → Option ℕ
audited t =
    let v = audit_pairs t.pairs t.slots (begin_audit (length t.pairs) (length t.slots)) in
    join_free v t.ends (trace t.slots (open_free v t.ends))
