-- Packets put into slots.
use mathlib.Core.Path.{◌≡◌, refl, ap, ◌∙◌}
use mathlib.Core.Logic.{◌≢◌}
use mathlib.Core.Bool.{true}
use mathlib.Core.List.{List, [], ◌∷◌, map}
use Prim.Native.Nat.{ℕ, ◌<◌}
use native.Mathlib.Omega.{arith}
use lib.Dec.{eqb, ltb}
use borrow.Author.Tests.{ltb-true, ltb-false, eqb-true, eqb-false}
use lib.ListN.{length, length-set}
use lib.Seq.{set_out, get_or-set_same, get_or-set_other}
use Rattle.refusal.proofs.Cases.{by-test}
use Rattle.rules.specs.declared.Packet.{Packet}
use Rattle.rules.specs.declared.Slot.{Slot}
use Rattle.rules.specs.Slots.{slot_at, times, Below, filled, holding}
use Rattle.rules.proofs.Slots.Links.{Distinct, times-tail, times-same, times-not-head}
use Rattle.rules.proofs.Slots.Lists.{map_on}

length-holding : (i : ℕ) (q : Packet) (s : List Slot) → length (holding i q s) ≡ length s
unfolding holding
length-holding i q s = simp length-set

holding-same : (i : ℕ) (q : Packet) (s : List Slot) → i < length s → (slot_at (holding i q s) i).packet ≡ q
unfolding holding slot_at
holding-same i q s h = simp get_or-set_same

holding-other : (i : ℕ) (q : Packet) (s : List Slot) (j : ℕ) → j ≢ i → slot_at (holding i q s) j ≡ slot_at s j
unfolding holding slot_at
holding-other i q s j h = get_or-set_other s i j _ _ h

holding-link : (i : ℕ) (q : Packet) (s : List Slot) (j : ℕ) → (slot_at (holding i q s) j).link ≡ (slot_at s j).link
unfolding holding slot_at
holding-link i q s j = by-test (eqb j i) same (λ e. ap (λ (x : Slot). x.link) (holding-other i q s j (eqb-false j i e)))
  where
    same : eqb j i ≡ true → (slot_at (holding i q s) j).link ≡ (slot_at s j).link
    same e =
        rw (eqb-true j i e)
        (by-test (ltb i (length s)) (λ l. simp (get_or-set_same, ltb-true i (length s) l)) (λ l. simp (set_out, ltb-false i (length s) l)))

pub length-filled : (l : List ℕ) (qs : List Packet) (s : List Slot) → length (filled l qs s) ≡ length s
length-filled [] qs s = refl
length-filled (i ∷ l) [] s = refl
length-filled (i ∷ l) (q ∷ qs) s = length-holding i q (filled l qs s) ∙ length-filled l qs s

pub filled-link : (l : List ℕ) (qs : List Packet) (s : List Slot) (j : ℕ) → (slot_at (filled l qs s) j).link ≡ (slot_at s j).link
filled-link [] qs s j = refl
filled-link (i ∷ l) [] s j = refl
filled-link (i ∷ l) (q ∷ qs) s j = holding-link i q (filled l qs s) j ∙ filled-link l qs s j

pub filled-other : (l : List ℕ) (qs : List Packet) (s : List Slot) (j : ℕ) → times j l ≡ 0 → slot_at (filled l qs s) j ≡ slot_at s j
filled-other [] qs s j z = refl
filled-other (i ∷ l) [] s j z = refl
filled-other (i ∷ l) (q ∷ qs) s j z =
    holding-other i q (filled l qs s) j (times-not-head j i l z) ∙ filled-other l qs s j (omega (arith, times-tail j i l))

pub filled-packets : (l : List ℕ) (qs : List Packet) (s : List Slot) → Distinct l → Below (length s) l → length l ≡ length qs
    → map (λ i. (slot_at (filled l qs s) i).packet) l ≡ qs
filled-packets [] [] s d b e = refl
filled-packets [] (q ∷ qs) s d b e = absurd (omega arith)
filled-packets (i ∷ l) [] s d b e = absurd (omega arith)
filled-packets (i ∷ l) (q ∷ qs) s d b e =
    let rest : map (λ j. (slot_at (holding i q (filled l qs s)) j).packet) l ≡ qs =
    map_on _ (λ j. (slot_at (filled l qs s) j).packet) l
    (λ j m. ap (λ (x : Slot). x.packet) (holding-other i q (filled l qs s) j (λ f. omega (arith, d i, times-same i l, rw f at m))))
    ∙ filled-packets l qs s (λ j. omega (arith, d j, times-tail j i l)) b.1 (omega arith) in
    λ j. holding-same i q (filled l qs s) (rw length-filled b.0) j ∷ rest j
