-- A slot is hung at a queue's end, with a packet; then the next. What the slots come to: the links of the longer queue, and the packets. Over any `none`.
use mathlib.Core.Path.{◌≡◌, refl, sym, ap, subst, ◌∙◌}
use mathlib.Core.Logic.{◌≢◌}
use mathlib.Core.List.{List, [], ◌∷◌, ◌++◌}
use Prim.Native.Nat.{ℕ, ◌≤◌}
use native.Mathlib.Omega.{arith}
use lib.Dec.{ltb}
use borrow.Author.Tests.{ltb-true, ltb-false}
use lib.ListN.{length, set}
use lib.Seq.{append_snoc, set_out, get_or-set_same, get_or-set_other, set_comm, set-set, set-get_or}
use Rattle.refusal.proofs.Cases.{by-test}
use Rattle.rules.specs.declared.Packet.{Packet}
use Rattle.rules.specs.declared.Slot.{Slot}
use Rattle.rules.specs.Slots.{slot_at, relinked, holding, filled, times, first_of, last_of, chain, Linked}
use Rattle.rules.proofs.Slots.Links.{Distinct, Apart, times-append, times-tail, times-same, times-not-head, times-last, relinked-swap, linked-same, chain-join, chain-twice}
use Rattle.rules.proofs.Slots.Filled.{filled-link}

-- ---- slots written at two places

abbrev altered : ℕ → (Slot → Slot) → List Slot → List Slot
altered i f s = set s i (f (slot_at s i))

altered-swap : (i j : ℕ) (f g : Slot → Slot) (s : List Slot) → i ≢ j → altered i f (altered j g s) ≡ altered j g (altered i f s)
unfolding slot_at
altered-swap i j f g s d =
    ap (λ (x : Slot). set (altered j g s) i (f x)) (get_or-set_other s j i _ _ d)
    ∙ set_comm s j i _ _ (λ e. d (sym e))
    ∙ ap (λ (x : Slot). set (altered i f s) j (g x)) (sym (get_or-set_other s i j _ _ (λ e. d (sym e))))

holding-altered : (i : ℕ) (q : Packet) (a : ℕ) (f : Slot → Slot) (s : List Slot) → i ≢ a → holding i q (altered a f s) ≡ altered a f (holding i q s)
unfolding holding
holding-altered i q a f s = altered-swap i a (λ x. record { link = x.link; packet = q }) f s

-- a packet put where it is
pub holding-as-is : (i : ℕ) (s : List Slot) → holding i (slot_at s i).packet s ≡ s
unfolding holding slot_at
holding-as-is i s = set-get_or s i _

-- a slot written whole: its packet, then its link
pub whole_is : (i k : ℕ) (q : Packet) (s : List Slot) → set s i (record { link = k; packet = q }) ≡ relinked i k (holding i q s)
unfolding holding relinked slot_at
whole_is i k q s =
    by-test (ltb i (length s))
    (λ e. sym (ap (λ (x : Slot). set (holding i q s) i (record { link = k; packet = x.packet })) (get_or-set_same s i _ _ (ltb-true i (length s) e)) ∙ set-set s i _ _))
    (λ e. let n = ltb-false i (length s) e in set_out s i _ n ∙ sym (ap (λ (x : List Slot). relinked i k x) (set_out s i _ n) ∙ set_out s i _ n))

filled-altered : (l : List ℕ) (qs : List Packet) (a : ℕ) (f : Slot → Slot) (s : List Slot) → times a l ≡ 0 → filled l qs (altered a f s) ≡ altered a f (filled l qs s)
filled-altered [] qs a f s z = refl
filled-altered (i ∷ l) [] a f s z = refl
filled-altered (i ∷ l) (q ∷ qs) a f s z =
    ap (holding i q) (filled-altered l qs a f s (omega (arith, times-tail a i l)))
    ∙ holding-altered i q a f (filled l qs s) (λ e. times-not-head a i l z (sym e))

module _ (none : ℕ) where
  filled-chain : (l : List ℕ) (qs : List Packet) (m : List ℕ) (s : List Slot) → Apart m l → filled l qs (chain none m s) ≡ chain none m (filled l qs s)
  unfolding relinked
  filled-chain l qs [] s d = refl
  filled-chain l qs (a ∷ m) s d =
      filled-altered l qs a (λ x. record { link = first_of none m; packet = x.packet }) (chain none m s) (omega (arith, d a, times-same a m))
      ∙ ap (relinked a (first_of none m)) (filled-chain l qs m s (λ i. omega (arith, d i, times-tail i a m)))

  -- slot a, with the packet q, at the end of a queue whose last slot is given: its last slot leads to a, which leads nowhere
  abbrev pub hung_with : ℕ → ℕ → Packet → List Slot → List Slot
  hung_with last a q s = relinked a none (holding a q (relinked last a s))

  pub hung-is : (B : List ℕ) (a : ℕ) (q : Packet) (s : List Slot) → length s ≤ none → Apart B (a ∷ []) → Linked none s B
      → hung_with (last_of none B) a q s ≡ chain none (B ++ (a ∷ [])) (holding a q s)
  unfolding relinked
  hung-is [] a q s n d h = ap (λ (x : List Slot). relinked a none (holding a q x)) (set_out s none _ n)
  hung-is (b ∷ f) a q s n d h =
      let far : a ≢ last_of none (b ∷ f) =
      λ e. omega (arith, d a, times-same a [], subst (λ (i : ℕ). 1 ≤ times i (b ∷ f)) (sym e) (times-last none b f)) in
      ap (relinked a none) (holding-altered a q (last_of none (b ∷ f)) (λ x. record { link = a; packet = x.packet }) s far)
      ∙ relinked-swap a (last_of none (b ∷ f)) none a (holding a q s) far
      ∙ sym (chain-join none none b f (a ∷ []) (holding a q s) (λ i. omega (arith, d i)) d
      (linked-same none s (holding a q s) (filled-link (a ∷ []) (q ∷ []) s) (b ∷ f) h))

  -- and a run of slots after it, likewise
  pub hung-then : (B : List ℕ) (a : ℕ) (l : List ℕ) (q : Packet) (qs : List Packet) (s : List Slot) → Distinct (B ++ (a ∷ l))
      → chain none ((B ++ (a ∷ [])) ++ l) (filled l qs (chain none (B ++ (a ∷ [])) (holding a q s))) ≡ chain none (B ++ (a ∷ l)) (filled (a ∷ l) (q ∷ qs) s)
  unfolding holding
  hung-then B a l q qs s d =
      ap (chain none ((B ++ (a ∷ [])) ++ l)) (filled-chain l qs (B ++ (a ∷ [])) (holding a q s) (λ i. omega (arith, once i, times-append i (B ++ (a ∷ [])) l)))
      ∙ chain-twice none (B ++ (a ∷ [])) l (filled l qs (holding a q s)) once
      ∙ (λ i. chain none (append_snoc B a l i) (filled-altered l qs a (λ x. record { link = x.link; packet = q }) s apart i))
    where
      once : Distinct ((B ++ (a ∷ [])) ++ l)
      once i = rw (append_snoc B a l) (d i)

      apart : times a l ≡ 0
      apart = omega (arith, d a, times-append a B (a ∷ l), times-same a l)
