-- Slots leave a pair and join the free queue.
use mathlib.Core.Path.{◌≡◌, refl, sym, ap, ◌∙◌}
use mathlib.Core.Logic.{◌≢◌}
use mathlib.Core.List.{List, [], ◌∷◌, ◌++◌, append_assoc, append-nil}
use Prim.Native.Nat.{ℕ, ◌+◌, ◌≤◌, ◌<◌}
use native.Mathlib.Omega.{arith}
use lib.ListN.{length, set, take, drop, take-append-drop, length-append, length-drop}
use lib.Seq.{drop-drop, take-add, set-set}
use Rattle.rules.specs.declared.Standing.{Standing}
use Rattle.rules.specs.declared.Packet.{Packet}
use Rattle.rules.specs.declared.Queue.{Queue}
use Rattle.rules.specs.Card.{Card}
use Rattle.rules.specs.Slots.{Tables, slot_at, pair_at, side_of, relinked, times, queue, free, side, first_of, last_of, ends_of, chain, Spells, arranged, freed}
use Rattle.rules.specs.Audit.{Whole}
use Rattle.rules.proofs.Slots.Links.{Distinct, times-append, times-parts, chain-packet, chain-linked, linked-drop, chain-front, chain-twice, hang, spelled_is}
use Rattle.rules.proofs.Slots.Lists.{map-drop}
use Rattle.rules.proofs.Slots.Queues.{pair-and-free}
use Rattle.rules.proofs.Slots.Arranged.{others-after, free-after, pair-after, side-arranged, side-others, whole-after}

module _ (card : Card) (t : Tables) (w : Whole card t) where
  module _ (p : ℕ) (hp : p < card.pairs) (st : Standing) (k : ℕ) where
    freed-share : (i : ℕ) → times i (free t ++ take k (queue t p)) + times i (drop k (queue t p)) ≡ times i (free t) + times i (queue t p)
    freed-share i = omega (arith, times-append i (free t) (take k (queue t p)), times-parts i k (queue t p))

    freed-many : length (free t ++ take k (queue t p)) + length (drop k (queue t p)) ≡ length (free t) + length (queue t p)
    freed-many =
        omega (arith, length-append (free t) (take k (queue t p)), length-append (take k (queue t p)) (drop k (queue t p)), ap length (take-append-drop k (queue t p)))

    pub freed-side : side (freed card.none p st k t) p ≡ record { standing = st; packets = drop k (side t p).packets }
    unfolding side side_of
    freed-side =
        side-arranged card t w p hp st _ _ t.slots refl (λ i. refl) (λ i z. refl) freed-share freed-many
        ∙ ap (λ (ps : List Packet). record { standing = st; packets = ps }) (map-drop (λ i. (slot_at t.slots i).packet) k (queue t p))

    pub freed-others : (r : ℕ) → r < card.pairs → r ≢ p → side (freed card.none p st k t) r ≡ side t r
    freed-others = side-others card t w p hp st _ _ t.slots refl (λ i. refl) (λ i z. refl) freed-share freed-many

    pub freed-whole : ((st.state ≡ 1 → ⊥) → length (queue t p) ≤ k) → Whole card (freed card.none p st k t)
    freed-whole few =
        whole-after card t w p hp st _ _ t.slots refl (λ i. refl) (λ i z. refl) freed-share freed-many
        (λ n. omega (arith, length-drop k (queue t p), few n))

    -- what is written: the links of the longer free list only
    pub freed-slots : (freed card.none p st k t).slots ≡ chain card.none (free t ++ take k (queue t p)) t.slots
    unfolding arranged
    freed-slots = rw (chain-linked card.none (drop k (queue t p)) t.slots (linked-drop card.none k t.slots (queue t p) (w.pairs-run p hp).linked))

    -- and of those only two, if a run b, .., z of p's front goes to the end of a free queue that is not empty
    pub freed-writes : (a : ℕ) (f : List ℕ) (b : ℕ) (l m : List ℕ) → free t ≡ a ∷ f → queue t p ≡ (b ∷ l) ++ m → take k (queue t p) ≡ b ∷ l
        → (freed card.none p st k t).slots ≡ relinked t.ends.last b (relinked (last_of card.none (b ∷ l)) card.none t.slots)
    freed-writes a f b l m ef eq ek =
        freed-slots
        ∙ rw (w.free-runs.last, ef, ek)
        (hang card.none a f b l m t.slots
        (λ i. omega (arith, rw ef at (pair-and-free card t w p i)))
        (λ i. omega (arith, rw ef at (pair-and-free card t w p i), rw ek at (times-parts i k (queue t p))))
        (λ i. omega (arith, pair-and-free card t w p i, rw ek at (times-parts i k (queue t p))))
        (rw ef at w.free-runs.linked)
        (rw eq at (w.pairs-run p hp).linked))

    -- where the free queue is empty, one
    pub freed-writes-empty : (b : ℕ) (l m : List ℕ) → free t ≡ [] → queue t p ≡ (b ∷ l) ++ m → take k (queue t p) ≡ b ∷ l
        → (freed card.none p st k t).slots ≡ relinked (last_of card.none (b ∷ l)) card.none t.slots
    freed-writes-empty b l m ef eq ek =
        freed-slots
        ∙ rw (ef, ek)
        (chain-front card.none b l m t.slots
        (λ i. omega (arith, pair-and-free card t w p i, rw ek at (times-parts i k (queue t p))))
        (rw eq at (w.pairs-run p hp).linked))

    freed-pair : Spells card.none (freed card.none p st k t).slots (pair_at (freed card.none p st k t).pairs p).queue (drop k (queue t p))
    freed-pair = pair-after card t w p hp st (drop k (queue t p)) (free t ++ take k (queue t p)) t.slots refl (λ i. refl) (λ i z. refl) freed-share freed-many

    pub freed-queue : queue (freed card.none p st k t) p ≡ drop k (queue t p)
    freed-queue = spelled_is card.none freed-pair

    pub freed-free : free (freed card.none p st k t) ≡ free t ++ take k (queue t p)
    freed-free = spelled_is card.none (free-after card t w p hp st _ _ t.slots refl (λ i. refl) (λ i z. refl) freed-share freed-many)

    pub freed-other-queue : (r : ℕ) → r < card.pairs → r ≢ p → queue (freed card.none p st k t) r ≡ queue t r
    freed-other-queue r h d =
        spelled_is card.none (others-after card t w p hp st _ _ t.slots refl (λ i. refl) (λ i z. refl) freed-share freed-many r h d)

    -- a freed slot keeps all but its link
    pub freed-packet : (i : ℕ) → (slot_at (freed card.none p st k t).slots i).packet ≡ (slot_at t.slots i).packet
    freed-packet i = rw freed-slots (chain-packet card.none (free t ++ take k (queue t p)) t.slots i)

    -- a run freed in two parts, or slot by slot, is the run freed at once
    pub freed-again : (st' : Standing) (j : ℕ) → freed card.none p st' j (freed card.none p st k t) ≡ freed card.none p st' (k + j) t
    unfolding arranged
    freed-again st' j = λ i. record { pairs = pairs-eq i; ends = record { first = first_of card.none (list i); last = last_of card.none (list i) }; slots = slots-eq i }
      where
        after : Tables
        after = freed card.none p st k t

        rest : drop j (queue after p) ≡ drop (k + j) (queue t p)
        rest = rw freed-queue (drop-drop j k (queue t p))

        list₁ : free after ++ take j (queue after p) ≡ (free t ++ take k (queue t p)) ++ take j (drop k (queue t p))
        list₁ = rw (freed-queue, freed-free)

        list₂ : (free t ++ take k (queue t p)) ++ take j (drop k (queue t p)) ≡ free t ++ take (k + j) (queue t p)
        list₂ = append_assoc (free t) (take k (queue t p)) (take j (drop k (queue t p))) ∙ rw (take-add k j (queue t p))

        list : free after ++ take j (queue after p) ≡ free t ++ take (k + j) (queue t p)
        list = list₁ ∙ list₂

        distinct : Distinct ((free t ++ take k (queue t p)) ++ take j (drop k (queue t p)))
        distinct i =
            rw list₂
            (omega (arith, times-append i (free t) (take (k + j) (queue t p)), times-parts i (k + j) (queue t p), pair-and-free card t w p i))

        pairs-eq : set after.pairs p (record { standing = st'; queue = ends_of card.none (drop j (queue after p)) })
            ≡ set t.pairs p (record { standing = st'; queue = ends_of card.none (drop (k + j) (queue t p)) })
        pairs-eq = rw rest (set-set t.pairs p _ _)

        linked : (i : ℕ) → chain card.none (drop i (queue t p)) t.slots ≡ t.slots
        linked i = chain-linked card.none (drop i (queue t p)) t.slots (linked-drop card.none i t.slots (queue t p) (w.pairs-run p hp).linked)

        -- what p still holds is linked in the slots after, too
        still : chain card.none (drop (k + j) (queue t p)) after.slots ≡ after.slots
        still =
            chain-linked card.none (drop (k + j) (queue t p)) after.slots
            (rw (← drop-drop j k (queue t p)) (linked-drop card.none j after.slots (drop k (queue t p)) freed-pair.linked))

        slots-eq : chain card.none (free after ++ take j (queue after p)) (chain card.none (drop j (queue after p)) after.slots)
            ≡ chain card.none (free t ++ take (k + j) (queue t p)) (chain card.none (drop (k + j) (queue t p)) t.slots)
        slots-eq =
            rw (rest, still, linked (k + j), list₁)
            (ap (chain card.none ((free t ++ take k (queue t p)) ++ take j (drop k (queue t p)))) freed-slots
            ∙ chain-twice card.none (free t ++ take k (queue t p)) (take j (drop k (queue t p))) t.slots distinct
            ∙ ap (λ (l : List ℕ). chain card.none l t.slots) list₂)

  -- no slot leaves: only the pair's record is written
  pub freed-none : (p : ℕ) → p < card.pairs → (st : Standing)
      → freed card.none p st 0 t ≡ record { pairs = set t.pairs p (record { standing = st; queue = (pair_at t.pairs p).queue }); ends = t.ends; slots = t.slots }
  unfolding arranged
  freed-none p hp st =
      λ i. record { pairs = set t.pairs p (record { standing = st; queue = ends_is (w.pairs-run p hp) i }); ends = tips i; slots = slots-is i }
    where
      ends_is : {q : Queue} {l : List ℕ} → Spells card.none t.slots q l → ends_of card.none l ≡ q
      ends_is r = λ i. record { first = sym r.first i; last = sym r.last i; held = sym r.held i }

      tips : record { first = first_of card.none (free t ++ []); last = last_of card.none (free t ++ []) } ≡ t.ends
      tips = rw (append-nil (free t)) (λ i. record { first = sym w.free-runs.first i; last = sym w.free-runs.last i })

      slots-is : chain card.none (free t ++ []) (chain card.none (queue t p) t.slots) ≡ t.slots
      slots-is =
          rw (append-nil (free t), chain-linked card.none (queue t p) t.slots (w.pairs-run p hp).linked)
          (chain-linked card.none (free t) t.slots w.free-runs.linked)
