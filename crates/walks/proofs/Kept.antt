-- Slots that leave a pair move, and keep their packets.
use mathlib.Core.Path.{◌≡◌, refl, sym, ap, ◌∙◌}
use mathlib.Core.List.{List, [], ◌∷◌, ◌++◌, map}
use Prim.Native.Nat.{ℕ, ◌<◌}
use lib.ListN.{length}
use Rattle.rules.specs.declared.Packet.{Packet}
use Rattle.rules.specs.declared.Slot.{Slot}
use Rattle.rules.specs.Slots.{slot_at, relinked, holding, filled, chain}
use Rattle.rules.proofs.Slots.Links.{relinked-packet}
use Rattle.rules.proofs.Slots.Lists.{map_on}
use Rattle.refusal.proofs.Loop.{loop-done}
use Rattle.walks.specs.declared.Moving.{Moving}
use Rattle.walks.specs.Acting.{Left, move_step, leave_turn, leave}
use Rattle.walks.proofs.Hung.{hung_with, holding-as-is}
use Rattle.walks.proofs.Moved.{Ready, Moved, one-moved, along, less, moved}
use Rattle.walks.proofs.Rear.{none}

abbrev pub leaving_of : Left → Moving
leaving_of x = x.work.moving

abbrev slots_of : Left → List Slot
slots_of x = x.slots

-- the packet of the slot that leaves next
abbrev pub gone_from : Left → Packet
gone_from x = (slot_at x.slots x.work.moving.at).packet

leave-moves : (x : Left) → leaving_of (leave_turn x) ≡ move_step (leaving_of x) (slot_at x.slots (leaving_of x).at)
leave-moves x = refl

leave-writes : (x : Left) → (leave_turn x).slots ≡ hung_with none (leaving_of x).last (leaving_of x).at (gone_from x) x.slots
leave-writes x =
    let w = leaving_of x in
    let s : List Slot = relinked w.last w.at x.slots in
    ap (relinked w.at none)
    (sym (ap (λ (q : Packet). holding w.at q s) (sym (relinked-packet w.last w.at x.slots w.at)) ∙ holding-as-is w.at s))

pub leave-less : (x : Left) → 0 < (leaving_of x).left → (leaving_of (leave_turn x)).left < (leaving_of x).left
leave-less = less leaving_of slots_of gone_from leave_turn leave-moves leave-writes

pub leave_none : (x : Left) → (leaving_of x).left ≡ 0 → leave x ≡ x
leave_none = loop-done (λ y. (leaving_of y).left) leave_turn leave-less

-- no packet is written
turn-packet : (x : Left) (i : ℕ) → (slot_at (leave_turn x).slots i).packet ≡ (slot_at x.slots i).packet
turn-packet x i =
    let w = leaving_of x in
    relinked-packet w.at none (relinked w.last w.at x.slots) i ∙ relinked-packet w.last w.at x.slots i

pub leave-along : (l B rest : List ℕ) (x : Left) → Ready (leaving_of x) x.slots B l rest
    → along gone_from leave_turn (length l) x ≡ map (λ i. (slot_at x.slots i).packet) l
leave-along [] B rest x r = refl
leave-along (a ∷ l) B rest x r =
    λ i. head i ∷ (leave-along l (B ++ (a ∷ [])) rest (leave_turn x) next ∙ tail) i
  where
    head : gone_from x ≡ (slot_at x.slots a).packet
    head = rw r.at

    next : Ready (leaving_of (leave_turn x)) (leave_turn x).slots (B ++ (a ∷ [])) l rest
    next = rw (leave-writes x) (one-moved (leaving_of x) x.slots a (gone_from x) B l rest r)

    tail : map (λ i. (slot_at (leave_turn x).slots i).packet) l ≡ map (λ i. (slot_at x.slots i).packet) l
    tail = map_on _ _ l (λ i m. turn-packet x i)

filled-as-is : (l : List ℕ) (s : List Slot) → filled l (map (λ i. (slot_at s i).packet) l) s ≡ s
filled-as-is [] s = refl
filled-as-is (i ∷ l) s = ap (holding i (slot_at s i).packet) (filled-as-is l s) ∙ holding-as-is i s

pub left-moved : (l B rest : List ℕ) (x : Left) → Ready (leaving_of x) x.slots B l rest
    → Moved (leaving_of (leave x)) x.slots (leave x).slots B l rest (map (λ i. (slot_at x.slots i).packet) l)
left-moved l B rest x r =
    rw (← leave-along l B rest x r) (moved leaving_of slots_of gone_from leave_turn leave-moves leave-writes l B rest x r)

pub left-slots : (l B rest : List ℕ) (x : Left) → Ready (leaving_of x) x.slots B l rest → (leave x).slots ≡ chain none (B ++ l) x.slots
left-slots l B rest x r = (left-moved l B rest x r).slots ∙ ap (chain none (B ++ l)) (filled-as-is l x.slots)
