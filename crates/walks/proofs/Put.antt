-- Slots that join a pair move, and take the packets of a post's places, one after the other.
use mathlib.Core.Path.{◌≡◌, refl, sym, ap, ◌∙◌}
use mathlib.Core.List.{List, ◌∷◌, map}
use Prim.Native.Nat.{ℕ, zero, suc, ◌-◌, ◌≤◌, ◌<◌}
use native.Mathlib.Omega.{arith}
use lib.ListN.{length}
use Rattle.rules.specs.declared.Packet.{Packet}
use Rattle.rules.specs.declared.Slot.{Slot}
use Rattle.rules.specs.Message.{from}
use Rattle.rules.specs.Slots.{slot_at}
use Rattle.message.specs.Capped.{capped, cut}
use Rattle.message.specs.Places.{place_at}
use Rattle.refusal.proofs.Loop.{loop-done}
use Rattle.walks.specs.declared.Moving.{Moving}
use Rattle.walks.specs.declared.Joining.{Joining}
use Rattle.walks.specs.Acting.{Joined, hung, move_step, join_turn, join}
use Rattle.walks.proofs.Hung.{hung_with, whole_is}
use Rattle.walks.proofs.Moved.{Ready, Moved, along, less, moved}
use Rattle.walks.proofs.Rear.{none}

abbrev pub joining_of : Joined → Moving
joining_of x = x.work.moving

abbrev slots_of : Joined → List Slot
slots_of x = x.slots

-- the packet of place i
abbrev pub packet_for : Joining → ℕ → Packet
packet_for w i = cut (place_at (capped w.settings) w.post w.first i)

-- the packet that the next slot takes
abbrev put_next : Joined → Packet
put_next x = packet_for x.work (x.work.total - (joining_of x).left)

join-moves : (x : Joined) → joining_of (join_turn x) ≡ move_step (joining_of x) (slot_at x.slots (joining_of x).at)
join-moves x = refl

join-writes : (x : Joined) → (join_turn x).slots ≡ hung_with none (joining_of x).last (joining_of x).at (put_next x) x.slots
join-writes x = whole_is (joining_of x).at none (put_next x) (hung (joining_of x) x.slots)

pub join-less : (x : Joined) → 0 < (joining_of x).left → (joining_of (join_turn x)).left < (joining_of x).left
join-less = less joining_of slots_of put_next join_turn join-moves join-writes

pub join-none : (x : Joined) → (joining_of x).left ≡ 0 → join x ≡ x
join-none = loop-done (λ y. (joining_of y).left) join_turn join-less

join-along : (k : ℕ) (x : Joined) → (joining_of x).left ≡ k → k ≤ x.work.total → along put_next join_turn k x ≡ map (packet_for x.work) (from (x.work.total - k) k)
join-along zero x e h = refl
join-along (suc k) x e h =
    let next : suc (x.work.total - suc k) ≡ x.work.total - k = omega arith in
    let rest = join-along k (join_turn x) (omega (arith, e)) (omega arith) ∙ ap (λ (n : ℕ). map (packet_for x.work) (from n k)) (sym next) in
    λ i. packet_for x.work (x.work.total - e i) ∷ rest i

pub joined-moved : (l B rest : List ℕ) (x : Joined) → Ready (joining_of x) x.slots B l rest → x.work.total ≡ length l
    → Moved (joining_of (join x)) x.slots (join x).slots B l rest (map (packet_for x.work) (from 0 (length l)))
joined-moved l B rest x r all =
    let none_yet : 0 ≡ x.work.total - length l = omega (arith, all) in
    rw (none_yet, ← join-along (length l) x r.left (omega (arith, all))) (moved joining_of slots_of put_next join_turn join-moves join-writes l B rest x r)
