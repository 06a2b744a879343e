-- What a line writes, as one text; and what is listed, slot by slot. Assumes nothing.
use mathlib.Core.Path.{◌≡◌, refl, ap}
use mathlib.Core.Bool.{Bool}
use mathlib.Core.List.{List, ◌++◌, map}
use Prim.Native.Nat.{ℕ, zero, suc}
use Rattle.text.specs.Out.{Out, out, put_all}
use Rattle.text.proofs.Putting.{put_then}
use Rattle.rules.specs.declared.Slot.{Slot}
use Rattle.rules.specs.Slots.{slot_at, follow, concat}
use Rattle.replay.specs.declared.desk.Desk.{Desk}
use Rattle.replay.specs.Answer.{item_text, items_text, put_listed}
use Rattle.replay.specs.Serving.{answered, line_text}

-- a list of slots is put, one after the other by their links
pub listed-is : (ss : List Slot) (full : Bool) (k at : ℕ) (o : Out) → put_listed ss full k at o ≡ put_all o (items_text ss full at k)
unfolding put_listed items_text put_all
listed-is ss full zero at o = refl
listed-is ss full (suc k) at o =
    let s = slot_at ss at in
    let p = put_all o (item_text full at s) in
    put_then o (item_text full at s) (items_text ss full s.link k) {p = p} refl (listed-is ss full k s.link p)

-- they are the queue that the links spell
pub items-follow : (ss : List Slot) (full : Bool) (k at : ℕ) → items_text ss full at k ≡ concat (map (λ i. item_text full i (slot_at ss i)) (follow ss at k))
unfolding items_text
items-follow ss full zero at = refl
items-follow ss full (suc k) at = ap (λ (t : List ℕ). item_text full at (slot_at ss at) ++ t) (items-follow ss full k (slot_at ss at).link)

-- a line's answer is its text, put behind those that wait
pub answer-text : (d : Desk) → out (answered d).text (answered d).place.at ≡ put_all (out d.text d.place.at) (line_text d)
unfolding answered
answer-text d = refl
