-- What a line answers that asks something of the tables, from "Calls" of the trace protocol. Assumes nothing.
use Rattle.std.specs.Prelude.{ℕ, zero, suc, ◌-◌, Bool, true, false, List, [], ◌++◌, Option, None, Some, Result, ltb, if◌then◌else◌}
use Rattle.refusal.specs.declared.Refusal.{Refusal}
use Rattle.text.specs.declared.Ask.{Ask}
use Rattle.text.specs.declared.Ask.TheVariants.{Room, Show, Free}
use Rattle.text.specs.Out.{Out, put_all}
use Rattle.text.specs.Text.{bytes}
use Rattle.rules.specs.declared.Pair.{Pair}
use Rattle.rules.specs.declared.Reply.{Reply}
use Rattle.rules.specs.declared.Slot.{Slot}
use Rattle.rules.specs.Card.{small}
use Rattle.rules.specs.Slots.{Tables, slot_at, pair_at, held_by}
use Rattle.orders.specs.declared.Order.{Order}
use Rattle.answers.specs.Said.{numeral}
use Rattle.answers.specs.Replied.{reply_text}
use Rattle.answers.specs.Shown.{standing_text, member_text}

-- a slot in a list: as a packet that is held, or its number alone
abbrev pub item_text : Bool → ℕ → Slot → List ℕ
item_text full slot s = if full then member_text slot s else numeral slot

-- k slots, from `at` on by the links
unfoldable pub items_text : List Slot → Bool → ℕ → ℕ → List ℕ
items_text ss full at zero = []
items_text ss full at (suc k) = item_text full at (slot_at ss at) ++ items_text ss full (slot_at ss at).link k

-- the same slots put one by one, each behind the one before
unfoldable pub put_listed : List Slot → Bool → ℕ → ℕ → Out → Out
put_listed ss full zero at o = o
put_listed ss full (suc k) at o = put_listed ss full k (slot_at ss at).link (put_all o (item_text full at (slot_at ss at)))

-- a pair, and "for each packet held, in order"
abbrev pub pair_text : List Slot → ℕ → Pair → List ℕ
pair_text ss pair p = standing_text pair p ++ items_text ss true p.queue.first p.queue.held ++ bytes "\n"

-- "`show` of a pair over 63 is `refused 1`"
abbrev pub show_text : Tables → ℕ → List ℕ
show_text t pair = if ltb pair small.pairs then pair_text t.slots pair (pair_at t.pairs pair) else bytes "refused 1\n"

-- "the free queue's slot numbers, first to last": as many as no pair holds
abbrev pub free_text : Tables → List ℕ
free_text t = bytes "free" ++ items_text t.slots false t.ends.first (small.slots - held_by t.pairs) ++ bytes "\n"

-- what asks something of the tables and is no call
abbrev pub looked_text : Ask → ℕ → Tables → List ℕ
looked_text Room pair t = bytes "room\n"
looked_text Show pair t = show_text t pair
looked_text Free pair t = free_text t
looked_text what pair t = []

-- the reply, or what is looked up
abbrev pub tables_text : List ℕ → List ℕ → Tables → Order → Option (Result Reply Refusal) → List ℕ
tables_text numbers buffer t q (Some r) = reply_text numbers buffer q.what r
tables_text numbers buffer t q None = looked_text q.what q.pair t
