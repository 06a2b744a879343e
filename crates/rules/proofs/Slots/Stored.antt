-- Packets are stored in slots from the free queue.
use mathlib.Core.Path.{◌≡◌, ap, subst, ◌∙◌, ap₂}
use mathlib.Core.Logic.{◌≢◌}
use mathlib.Core.List.{List, [], ◌∷◌, ◌++◌, map, map-append}
use Prim.Native.Nat.{ℕ, ◌+◌, ◌≤◌, ◌<◌}
use native.Mathlib.Omega.{arith}
use lib.ListN.{length, take, drop, take-append-drop, length-append}
use lib.Seq.{length-take-le}
use Rattle.rules.specs.declared.Standing.{Standing}
use Rattle.rules.specs.declared.Packet.{Packet}
use Rattle.rules.specs.declared.Slot.{Slot}
use Rattle.rules.specs.Card.{Card}
use Rattle.rules.specs.Slots.{Tables, slot_at, pair_at, side_of, relinked, times, queue, free, side, last_of, chain, Linked, arranged, stored, filled}
use Rattle.rules.specs.Audit.{Whole}
use Rattle.rules.proofs.Slots.Links.{chain-packet, times-append, times-parts, below-take, chain-linked, linked-drop, linked-apart, linked-same, chain-front, hang, spelled_is}
use Rattle.rules.proofs.Slots.Lists.{map_on}
use Rattle.rules.proofs.Slots.Filled.{length-filled, filled-link, filled-other, filled-packets}
use Rattle.rules.proofs.Slots.Queues.{pair-and-free}
use Rattle.rules.proofs.Slots.Arranged.{others-after, free-after, pair-after, side-arranged, side-others, whole-after}

module _ (card : Card) (t : Tables) (w : Whole card t) where
  module _ (p : ℕ) (hp : p < card.pairs) (st : Standing) (qs : List Packet) (room : length qs ≤ length (free t)) where
    took : List ℕ
    took = take (length qs) (free t)

    stored-share : (i : ℕ) → times i (drop (length qs) (free t)) + times i (queue t p ++ took) ≡ times i (free t) + times i (queue t p)
    unfolding took
    stored-share i = omega (arith, times-append i (queue t p) (take (length qs) (free t)), times-parts i (length qs) (free t))

    stored-many : length (drop (length qs) (free t)) + length (queue t p ++ took) ≡ length (free t) + length (queue t p)
    unfolding took
    stored-many =
        omega (arith, length-append (queue t p) (take (length qs) (free t)), length-append (take (length qs) (free t)) (drop (length qs) (free t)), ap length (take-append-drop (length qs) (free t)))

    stored-packets : (i : ℕ) → times i (queue t p ++ took) ≡ 0 → (slot_at (filled took qs t.slots) i).packet ≡ (slot_at t.slots i).packet
    stored-packets i z = ap (λ (x : Slot). x.packet) (filled-other took qs t.slots i (omega (arith, times-append i (queue t p) took)))

    pub stored-side : side (stored card.none p st qs t) p ≡ record { standing = st; packets = (side t p).packets ++ qs }
    unfolding side side_of took
    stored-side =
        side-arranged card t w p hp st _ _ (filled took qs t.slots) (length-filled took qs t.slots) (filled-link took qs t.slots) stored-packets stored-share stored-many
        ∙ ap (λ (ps : List Packet). record { standing = st; packets = ps }) all
      where
        put : ℕ → Packet
        put i = (slot_at (filled took qs t.slots) i).packet

        old : map put (queue t p) ≡ map (λ i. (slot_at t.slots i).packet) (queue t p)
        old =
            map_on put _ (queue t p)
            (λ i m. ap (λ (x : Slot). x.packet) (filled-other took qs t.slots i
            (omega (arith, pair-and-free card t w p i, times-parts i (length qs) (free t)))))

        new : map put took ≡ qs
        new =
            filled-packets took qs t.slots
            (λ i. omega (arith, pair-and-free card t w p i, times-parts i (length qs) (free t)))
            (below-take _ (length qs) (free t) w.free-runs.below)
            (length-take-le (length qs) (free t) room)

        all : map put (queue t p ++ took) ≡ map (λ i. (slot_at t.slots i).packet) (queue t p) ++ qs
        all = map-append put (queue t p) took ∙ ap₂ (λ (a b : List Packet). a ++ b) old new

    pub stored-others : (r : ℕ) → r < card.pairs → r ≢ p → side (stored card.none p st qs t) r ≡ side t r
    unfolding took
    stored-others =
        side-others card t w p hp st _ _ (filled took qs t.slots) (length-filled took qs t.slots) (filled-link took qs t.slots) stored-packets stored-share stored-many

    pub stored-whole : st.state ≡ 1 → Whole card (stored card.none p st qs t)
    unfolding took
    stored-whole e =
        whole-after card t w p hp st _ _ (filled took qs t.slots) (length-filled took qs t.slots) (filled-link took qs t.slots) stored-packets stored-share stored-many
        (λ n. absurd (n e))

    -- the slots come off the free queue's front and join the pair's end
    pub stored-queue : queue (stored card.none p st qs t) p ≡ queue t p ++ take (length qs) (free t)
    unfolding took
    stored-queue =
        spelled_is card.none
        (pair-after card t w p hp st _ _ (filled took qs t.slots) (length-filled took qs t.slots) (filled-link took qs t.slots) stored-packets stored-share stored-many)

    pub stored-free : free (stored card.none p st qs t) ≡ drop (length qs) (free t)
    unfolding took
    stored-free =
        spelled_is card.none
        (free-after card t w p hp st _ _ (filled took qs t.slots) (length-filled took qs t.slots) (filled-link took qs t.slots) stored-packets stored-share stored-many)

    pub stored-other-queue : (r : ℕ) → r < card.pairs → r ≢ p → queue (stored card.none p st qs t) r ≡ queue t r
    unfolding took
    stored-other-queue r h d =
        spelled_is card.none
        (others-after card t w p hp st _ _ (filled took qs t.slots) (length-filled took qs t.slots) (filled-link took qs t.slots) stored-packets stored-share stored-many r h d)

    -- what is written: the packets, and the links of the pair's longer list only
    linked-put : (l : List ℕ) → Linked card.none t.slots l → Linked card.none (filled took qs t.slots) l
    linked-put = linked-same card.none t.slots (filled took qs t.slots) (filled-link took qs t.slots)

    pub stored-slots : (stored card.none p st qs t).slots
        ≡ chain card.none (queue t p ++ take (length qs) (free t)) (filled (take (length qs) (free t)) qs t.slots)
    unfolding arranged took
    stored-slots =
        chain-linked card.none (drop (length qs) (free t)) (chain card.none (queue t p ++ took) (filled took qs t.slots))
        (linked-apart card.none (queue t p ++ took) (filled took qs t.slots) (drop (length qs) (free t)) (λ i. omega (arith, stored-share i, pair-and-free card t w p i))
        (linked-put (drop (length qs) (free t)) (linked-drop card.none (length qs) t.slots (free t) w.free-runs.linked)))

    -- and of those links only two, if the pair holds some: its last leads to the first taken, whose last leads nowhere
    pub stored-writes : (a : ℕ) (f : List ℕ) (b : ℕ) (l : List ℕ) → queue t p ≡ a ∷ f → take (length qs) (free t) ≡ b ∷ l
        → (stored card.none p st qs t).slots ≡ relinked (pair_at t.pairs p).queue.last b (relinked (last_of card.none (b ∷ l)) card.none (filled (b ∷ l) qs t.slots))
    unfolding took
    stored-writes a f b l eq ek =
        stored-slots
        ∙ rw ((w.pairs-run p hp).last, eq, ek)
        (hang card.none a f b l (drop (length qs) (free t)) (filled (b ∷ l) qs t.slots)
        (λ i. omega (arith, rw eq at (pair-and-free card t w p i)))
        (λ i. omega (arith, rw eq at (pair-and-free card t w p i), rw ek at (times-parts i (length qs) (free t))))
        (λ i. omega (arith, pair-and-free card t w p i, rw ek at (times-parts i (length qs) (free t))))
        (subst (λ (k : List ℕ). Linked card.none (filled k qs t.slots) (a ∷ f)) ek (rw eq at (linked-put (queue t p) (w.pairs-run p hp).linked)))
        (subst (λ (k : List ℕ). Linked card.none (filled k qs t.slots) (k ++ drop (length qs) (free t))) ek
        (linked-put (took ++ drop (length qs) (free t)) (rw (take-append-drop (length qs) (free t)) w.free-runs.linked))))

    -- where it holds none, one
    pub stored-writes-empty : (b : ℕ) (l : List ℕ) → queue t p ≡ [] → take (length qs) (free t) ≡ b ∷ l
        → (stored card.none p st qs t).slots ≡ relinked (last_of card.none (b ∷ l)) card.none (filled (b ∷ l) qs t.slots)
    unfolding took
    stored-writes-empty b l eq ek =
        stored-slots
        ∙ rw (eq, ek)
        (chain-front card.none b l (drop (length qs) (free t)) (filled (b ∷ l) qs t.slots)
        (λ i. omega (arith, pair-and-free card t w p i, rw ek at (times-parts i (length qs) (free t))))
        (subst (λ (k : List ℕ). Linked card.none (filled k qs t.slots) (k ++ drop (length qs) (free t))) ek
        (linked-put (took ++ drop (length qs) (free t)) (rw (take-append-drop (length qs) (free t)) w.free-runs.linked))))

    -- every slot but those taken keeps its packet
    pub stored-packet : (i : ℕ) → times i (take (length qs) (free t)) ≡ 0 → (slot_at (stored card.none p st qs t).slots i).packet ≡ (slot_at t.slots i).packet
    unfolding took
    stored-packet i z =
        ap (λ (s : List Slot). (slot_at s i).packet) stored-slots
        ∙ chain-packet card.none (queue t p ++ take (length qs) (free t)) (filled (take (length qs) (free t)) qs t.slots) i
        ∙ ap (λ (x : Slot). x.packet) (filled-other (take (length qs) (free t)) qs t.slots i z)
