-- What the program does with its tables and buffers, line by line.
use Rattle.std.specs.Prelude.{ℕ, List, ◌++◌, length, get_or, set, take, Option, None, Some, Result, if◌then◌else◌}
use Rattle.refusal.specs.declared.Refusal.{Refusal}
use Rattle.refusal.specs.Loop.{loop}
use Rattle.text.specs.declared.Ask.{Ask}
use Rattle.text.specs.declared.Ask.TheVariants.{Fresh, Room}
use Rattle.text.specs.Out.{out, put_all}
use Rattle.rules.specs.declared.Reply.{Reply}
use Rattle.rules.specs.Card.{small}
use Rattle.rules.specs.Slots.{Tables}
use Rattle.rules.specs.Requests.{starting}
use Rattle.rules.specs.Calls.{call}
use Rattle.engine.specs.declared.Ask as engine
use Rattle.card.specs.declared.Limits.{Limits}
use Rattle.card.specs.Inner.{body_in}
use Rattle.card.specs.Lent.{lent}
use Rattle.orders.specs.declared.Order.{Order}
use Rattle.orders.specs.Ordered.{order_of}
use Rattle.answers.specs.Plain.{text_of}
use Rattle.replay.specs.declared.memory.Memory.{Memory}
use Rattle.replay.specs.declared.desk.Desk.{Desk}
use Rattle.replay.specs.Kept.{is_end, kept_by, next_line}
use Rattle.replay.specs.Answer.{tables_text}

-- ---- the tables

abbrev pub tables_of : Memory → Tables
tables_of m = lent m.pairs m.ends m.slots

-- what is asked is carried out: what is replied, if it is a call, and the memory after it
pub record Carried : Type 0 where
  pub reply : Option (Result Reply Refusal)
  pub memory : Memory

abbrev pub called : Limits → ℕ → engine.Ask → Memory → Carried
called limits pair ask m =
    let r = body_in limits pair ask (tables_of m) m.numbers m.bytes in
    record {
      reply = Some r.reply;
      memory = record { pairs = r.tables.pairs; ends = r.tables.ends; slots = r.tables.slots; numbers = r.numbers; bytes = r.bytes };
    }

abbrev pub restarted : Memory → Carried
restarted m =
    let s = call small starting (tables_of m) in
    record { reply = Some s.said.reply; memory = record m { pairs = s.next.pairs; ends = s.next.ends; slots = s.next.slots } }

abbrev pub untouched : Memory → Carried
untouched m = record { reply = None; memory = m }

-- a fresh start, or nothing
abbrev pub restarted_by : Ask → Memory → Carried
restarted_by Fresh m = restarted m
restarted_by what m = untouched m

-- a call on a pair, or a fresh start or nothing
abbrev pub carried_by : Option engine.Ask → Limits → Order → Memory → Carried
carried_by (Some ask) limits q m = called limits q.pair ask m
carried_by None limits q m = restarted_by q.what m

abbrev pub carried_out : Limits → Order → Memory → Carried
carried_out limits q m = carried_by q.ask limits q m

-- "`room BYTES NUMBERS`": "from here on the lent buffers have these lengths"
abbrev pub limits_by : Ask → Order → Limits → Limits
limits_by Room q l = record { numbers = q.numbers; bytes = q.bytes }
limits_by what q l = l

abbrev pub limits_after : Order → Limits → Limits
limits_after q l = limits_by q.what q l

-- ---- a line

-- what a memory answers to an order, with what was replied
abbrev pub answer_of : Memory → Order → Option (Result Reply Refusal) → List ℕ
answer_of m q r = tables_text m.numbers m.bytes (tables_of m) q r

-- what stands for the line alone, or what it answers of the tables
abbrev pub text_by : Order → Option (Result Reply Refusal) → Desk → List ℕ
text_by q r d = text_of (take d.place.kept d.line) d.place.number ++ answer_of d.memory q r

-- it is put behind the answers that wait
abbrev pub written : Order → Option (Result Reply Refusal) → Desk → Desk
written q r d =
    let o = put_all (out d.text d.place.at) (text_by q r d) in
    record d { text = o.bytes; place = record d.place { at = o.at } }

module _ (d : Desk) where
  abbrev pub order_in : Order
  order_in = order_of (take d.place.kept d.line)

  abbrev pub carried_in : Carried
  carried_in = carried_out d.place.limits order_in d.memory

  abbrev pub carried_desk : Desk
  carried_desk = record d { memory = carried_in.memory }

  -- what a line writes
  abbrev pub line_text : List ℕ
  line_text = text_by order_in carried_in.reply carried_desk

  unfoldable pub answered : Desk
  answered =
      let w = written order_in carried_in.reply carried_desk in
      record w { place = next_line w.place (limits_after order_in d.place.limits) }

-- ---- a byte, and all that was read

-- a byte more of the line
abbrev pub kept_in : ℕ → Desk → Desk
kept_in b d = record d { line = set d.line d.place.kept b; place = kept_by (length d.line) d.place }

abbrev pub fed : List ℕ → Desk → Desk
fed input d =
    let b = get_or input d.place.from 0 in
    if is_end b then answered d else kept_in b d

abbrev pub fed_all : List ℕ → Desk → Desk
fed_all input d = loop (λ (x : Desk). x.place.left) (fed input) d
