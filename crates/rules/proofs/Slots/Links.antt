-- Links and the lists that they spell.
use mathlib.Core.Path.{◌≡◌, refl, sym, ap, subst, ◌∙◌}
use mathlib.Core.Logic.{◌≢◌}
use mathlib.Core.Bool.{true}
use mathlib.Core.List.{List, [], ◌∷◌, ◌++◌, append-nil}
use Prim.Native.Nat.{ℕ, zero, suc, ◌+◌, ◌≤◌, ◌<◌}
use native.Mathlib.Omega.{arith}
use lib.Dec.{eqb, ltb}
use borrow.Author.Tests.{ltb-true, ltb-false, eqb-true, eqb-false, eq-eqb, ne_eqb}
use lib.ListN.{length, set, take, drop, length-set, take-append-drop}
use lib.Seq.{set_out, get_or-set_same, get_or-set_other, set-get_or, set-set, set_comm}
use Rattle.refusal.proofs.Each.{each_append, each_take, each-drop}
use Rattle.refusal.proofs.Cases.{by-test}
use Rattle.rules.specs.declared.Packet.{Packet}
use Rattle.rules.specs.declared.Queue.{Queue}
use Rattle.rules.specs.declared.Slot.{Slot}
use Rattle.rules.specs.Slots.{slot_at, follow, spelled, times, relinked, Below, first_of, last_of, ends_of, chain, Linked, Spells}

-- ---- how often a number stands in a list

pub times-same : (a : ℕ) (l : List ℕ) → times a (a ∷ l) ≡ suc (times a l)
times-same a l = rw (eq-eqb a a refl) (omega arith)

pub times-other : (i a : ℕ) (l : List ℕ) → i ≢ a → times i (a ∷ l) ≡ times i l
times-other i a l h = rw (ne_eqb i a h) (omega arith)

pub times-tail : (i a : ℕ) (l : List ℕ) → times i l ≤ times i (a ∷ l)
times-tail i a l = omega arith

pub times-not-head : (i a : ℕ) (l : List ℕ) → times i (a ∷ l) ≡ 0 → i ≢ a
times-not-head i a l h e = omega (arith, rw (eq-eqb i a e) at h)

pub times-append : (i : ℕ) (l m : List ℕ) → times i (l ++ m) ≡ times i l + times i m
times-append i [] m = omega arith
times-append i (a ∷ l) m = omega (arith, times-append i l m)

pub times-parts : (i k : ℕ) (l : List ℕ) → times i (take k l) + times i (drop k l) ≡ times i l
times-parts i k l = rw (← times-append i (take k l) (drop k l)) (rw take-append-drop)

-- ---- lists of numbers below n

pub below-append : (n : ℕ) (l m : List ℕ) → Below n l → Below n m → Below n (l ++ m)
below-append n l m = each_append (λ (a : ℕ). a < n) l m

pub below-take : (n k : ℕ) (l : List ℕ) → Below n l → Below n (take k l)
below-take n k l = each_take (λ (a : ℕ). a < n) k l

pub below-drop : (n k : ℕ) (l : List ℕ) → Below n l → Below n (drop k l)
below-drop n k l = each-drop (λ (a : ℕ). a < n) k l

pub below_of : (n : ℕ) (l : List ℕ) → ((i : ℕ) → 1 ≤ times i l → i < n) → Below n l
below_of n [] h = tt
below_of n (a ∷ l) h = (h a (omega (arith, times-same a l)), below_of n l (λ i m. h i (omega (arith, times-tail i a l))))

-- ---- one link

pub length-relinked : (i k : ℕ) (s : List Slot) → length (relinked i k s) ≡ length s
unfolding relinked
length-relinked i k s = simp length-set

pub link-same : (i k : ℕ) (s : List Slot) → i < length s → (slot_at (relinked i k s) i).link ≡ k
unfolding relinked slot_at
link-same i k s h = simp (get_or-set_same)

pub link-other : (i j k : ℕ) (s : List Slot) → j ≢ i → slot_at (relinked i k s) j ≡ slot_at s j
unfolding relinked slot_at
link-other i j k s h = get_or-set_other s i j _ _ h

pub relinked-as-is : (i : ℕ) (s : List Slot) → relinked i (slot_at s i).link s ≡ s
unfolding relinked slot_at
relinked-as-is i s = set-get_or s i _

pub relinked-packet : (i k : ℕ) (s : List Slot) (j : ℕ) → (slot_at (relinked i k s) j).packet ≡ (slot_at s j).packet
unfolding relinked slot_at
relinked-packet i k s j = by-test (eqb j i) same (λ e. ap (λ (x : Slot). x.packet) (link-other i j k s (eqb-false j i e)))
  where
    same : eqb j i ≡ true → (slot_at (relinked i k s) j).packet ≡ (slot_at s j).packet
    same e = rw (eqb-true j i e) (by-test (ltb i (length s)) (λ l. simp (get_or-set_same, ltb-true i (length s) l)) (λ l. simp (set_out, ltb-false i (length s) l)))

pub relinked-twice : (a j k : ℕ) (s : List Slot) → relinked a k (relinked a j s) ≡ relinked a k s
unfolding relinked
relinked-twice a j k s = ap (λ (x : Packet). set (relinked a j s) a (record { link = k; packet = x })) (relinked-packet a j s a) ∙ set-set s a _ _

pub relinked-swap : (a b j k : ℕ) (s : List Slot) → a ≢ b → relinked a j (relinked b k s) ≡ relinked b k (relinked a j s)
unfolding relinked
relinked-swap a b j k s d =
    ap (λ (x : Packet). set (relinked b k s) a (record { link = j; packet = x })) (relinked-packet b k s a)
    ∙ set_comm s b a _ _ (λ e. d (sym e))
    ∙ ap (λ (x : Packet). set (relinked a j s) b (record { link = k; packet = x })) (sym (relinked-packet a j s b))

pub times-last : (none a : ℕ) (l : List ℕ) → 1 ≤ times (last_of none (a ∷ l)) (a ∷ l)
times-last none a [] = omega (arith, times-same a [])
times-last none a (b ∷ l) = omega (arith, times-last none b l, times-tail (last_of none (b ∷ l)) a (b ∷ l))

-- ---- a list's links

-- no number stands twice; no number stands in both
abbrev pub Distinct : List ℕ → Type 0
Distinct l = (i : ℕ) → times i l ≤ 1

abbrev pub Apart : List ℕ → List ℕ → Type 0
Apart l m = (i : ℕ) → times i l + times i m ≤ 1

module _ (none : ℕ) where
  pub length-chain : (l : List ℕ) (s : List Slot) → length (chain none l s) ≡ length s
  length-chain [] s = refl
  length-chain (a ∷ l) s = length-relinked a (first_of none l) (chain none l s) ∙ length-chain l s

  pub chain-packet : (l : List ℕ) (s : List Slot) (j : ℕ) → (slot_at (chain none l s) j).packet ≡ (slot_at s j).packet
  chain-packet [] s j = refl
  chain-packet (a ∷ l) s j = relinked-packet a (first_of none l) (chain none l s) j ∙ chain-packet l s j

  pub chain-other : (l : List ℕ) (s : List Slot) (j : ℕ) → times j l ≡ 0 → slot_at (chain none l s) j ≡ slot_at s j
  chain-other [] s j h = refl
  chain-other (a ∷ l) s j h =
      link-other a j (first_of none l) (chain none l s) (times-not-head j a l h)
      ∙ chain-other l s j (omega (arith, times-tail j a l))

  -- the links spell the list
  pub linked-follow : (s : List Slot) (l : List ℕ) → Linked none s l → follow s (first_of none l) (length l) ≡ l
  linked-follow s [] h = refl
  linked-follow s (a ∷ l) h = ap (λ (r : List ℕ). a ∷ r) (rw h.0 (linked-follow s l h.1))

  -- only links matter
  pub linked-same : (s s' : List Slot) → ((i : ℕ) → (slot_at s' i).link ≡ (slot_at s i).link) → (l : List ℕ) → Linked none s l → Linked none s' l
  linked-same s s' e [] h = tt
  linked-same s s' e (a ∷ l) h = (e a ∙ h.0, linked-same s s' e l h.1)

  -- other slots' links do not matter
  pub linked-relinked : (a k : ℕ) (s : List Slot) (m : List ℕ) → times a m ≡ 0 → Linked none s m → Linked none (relinked a k s) m
  linked-relinked a k s [] z h = tt
  linked-relinked a k s (b ∷ m) z h = (
    ap (λ (x : Slot). x.link) (link-other a b k s (λ e. times-not-head a b m z (sym e))) ∙ h.0,
    linked-relinked a k s m (omega (arith, times-tail a b m)) h.1,
  )

  pub linked-apart : (l : List ℕ) (s : List Slot) (m : List ℕ) → Apart l m → Linked none s m → Linked none (chain none l s) m
  linked-apart [] s m d h = h
  linked-apart (a ∷ l) s m d h =
      linked-relinked a (first_of none l) (chain none l s) m (omega (arith, d a, times-same a l))
      (linked-apart l s m (λ i. omega (arith, d i, times-tail i a l)) h)

  -- a list's links, once written, are there; and writing what is there changes nothing
  pub linked-chain : (l : List ℕ) (s : List Slot) → Distinct l → Below (length s) l → Linked none (chain none l s) l
  linked-chain [] s d b = tt
  linked-chain (a ∷ l) s d b = (
    link-same a (first_of none l) (chain none l s) (rw length-chain b.0),
    linked-relinked a (first_of none l) (chain none l s) l (omega (arith, d a, times-same a l))
        (linked-chain l s (λ i. omega (arith, d i, times-tail i a l)) b.1),
  )

  pub chain-linked : (l : List ℕ) (s : List Slot) → Linked none s l → chain none l s ≡ s
  chain-linked [] s h = refl
  chain-linked (a ∷ l) s h = rw (chain-linked l s h.1) (rw (← h.0) (relinked-as-is a s))

  pub linked-drop : (k : ℕ) (s : List Slot) (l : List ℕ) → Linked none s l → Linked none s (drop k l)
  linked-drop zero s l h = h
  linked-drop (suc k) s [] h = tt
  linked-drop (suc k) s (a ∷ l) h = linked-drop k s l h.1

  -- the links of a chain spell it, and leave every list apart from it as it was
  pub follow-chain : (l : List ℕ) (s : List Slot) → Distinct l → Below (length s) l → follow (chain none l s) (first_of none l) (length l) ≡ l
  follow-chain l s d b = linked-follow (chain none l s) l (linked-chain l s d b)

  -- to write the links of `f` and then `m`, where those of `f` are there (but for the last, e): one link joins the two
  pub chain-join : (e a : ℕ) (f m : List ℕ) (s : List Slot) → Distinct (a ∷ f) → Apart (a ∷ f) m → Linked e s (a ∷ f)
      → chain none ((a ∷ f) ++ m) s ≡ relinked (last_of none (a ∷ f)) (first_of none m) (chain none m s)
  chain-join e a [] m s d p h = refl
  chain-join e a (b ∷ f) m s d p h =
      let z : List Slot = relinked (last_of none (b ∷ f)) (first_of none m) (chain none m s) in
      let far : a ≢ last_of none (b ∷ f) =
      λ q. omega (arith, d a, times-same a (b ∷ f), subst (λ (i : ℕ). 1 ≤ times i (b ∷ f)) (sym q) (times-last none b f)) in
      let there : slot_at z a ≡ slot_at s a =
      link-other _ a _ (chain none m s) far ∙ chain-other m s a (omega (arith, p a, times-same a (b ∷ f))) in
      ap (relinked a b) (chain-join e b f m s (λ i. omega (arith, d i, times-tail i a (b ∷ f))) (λ i. omega (arith, p i, times-tail i a (b ∷ f))) h.1)
      ∙ ap (λ (k : ℕ). relinked a k z) (sym (ap (λ (x : Slot). x.link) there ∙ h.0))
      ∙ relinked-as-is a z

  -- the front of a linked list is linked, and its last link leads to the rest
  pub linked-front : (l m : List ℕ) (s : List Slot) → Linked none s (l ++ m) → Linked (first_of none m) s l
  linked-front [] m s h = tt
  linked-front (a ∷ []) m s h = (h.0, tt)
  linked-front (a ∷ b ∷ l) m s h = (h.0, linked-front (b ∷ l) m s h.1)

  -- the front cut off: one link written
  pub chain-front : (a : ℕ) (l m : List ℕ) (s : List Slot) → Distinct (a ∷ l) → Linked none s ((a ∷ l) ++ m)
      → chain none (a ∷ l) s ≡ relinked (last_of none (a ∷ l)) none s
  chain-front a l m s d h =
      ap (λ (r : List ℕ). chain none r s) (sym (append-nil (a ∷ l)))
      ∙ chain-join (first_of none m) a l [] s d (λ i. omega (arith, d i)) (linked-front (a ∷ l) m s h)

  -- a run's links at the end of a linked list: two links written, whatever the run's length
  pub hang : (a : ℕ) (f : List ℕ) (b : ℕ) (l m : List ℕ) (s : List Slot) → Distinct (a ∷ f) → Apart (a ∷ f) (b ∷ l) → Distinct (b ∷ l)
      → Linked none s (a ∷ f) → Linked none s ((b ∷ l) ++ m)
      → chain none ((a ∷ f) ++ (b ∷ l)) s ≡ relinked (last_of none (a ∷ f)) b (relinked (last_of none (b ∷ l)) none s)
  hang a f b l m s d p d' h h' =
      chain-join none a f (b ∷ l) s d p h ∙ ap (relinked (last_of none (a ∷ f)) b) (chain-front b l m s d' h')

  pub last-append : (f : List ℕ) (b : ℕ) (l : List ℕ) → last_of none (f ++ (b ∷ l)) ≡ last_of none (b ∷ l)
  last-append [] b l = refl
  last-append (a ∷ []) b l = refl
  last-append (a ∷ c ∷ f) b l = last-append (c ∷ f) b l

  pub chain-relinked : (l : List ℕ) (a k : ℕ) (s : List Slot) → times a l ≡ 0 → chain none l (relinked a k s) ≡ relinked a k (chain none l s)
  chain-relinked [] a k s z = refl
  chain-relinked (b ∷ l) a k s z =
      ap (relinked b (first_of none l)) (chain-relinked l a k s (omega (arith, times-tail a b l)))
      ∙ relinked-swap b a (first_of none l) k (chain none l s) (λ e. times-not-head a b l z (sym e))

  -- links written and then written longer
  pub chain-twice : (l m : List ℕ) (s : List Slot) → Distinct (l ++ m) → chain none (l ++ m) (chain none l s) ≡ chain none (l ++ m) s
  chain-twice [] m s d = refl
  chain-twice (a ∷ l) m s d =
      ap (relinked a (first_of none (l ++ m)))
      (chain-relinked (l ++ m) a (first_of none l) (chain none l s) (omega (arith, d a, times-same a (l ++ m)))
      ∙ ap (relinked a (first_of none l)) (chain-twice l m s (λ i. omega (arith, d i, times-tail i a (l ++ m)))))
      ∙ relinked-twice a (first_of none l) (first_of none (l ++ m)) (chain none (l ++ m) s)

  -- a queue's record and its links
  pub spelled_is : {s : List Slot} {q : Queue} {l : List ℕ} → Spells none s q l → spelled s q ≡ l
  spelled_is {s} {q} {l} r = rw (r.first, r.held) (linked-follow s l r.linked)

  pub spells-chain : (l : List ℕ) (s : List Slot) → Distinct l → Below (length s) l → Spells none (chain none l s) (ends_of none l) l
  spells-chain l s d b = record { first = refl; last = refl; held = refl; linked = linked-chain l s d b; below = rw length-chain b }

  pub spells-apart : {s : List Slot} {q : Queue} {m : List ℕ} (l : List ℕ) → Apart l m → Spells none s q m → Spells none (chain none l s) q m
  spells-apart {s} {q} {m} l d r =
      record { first = r.first; last = r.last; held = r.held; linked = linked-apart l s m d r.linked; below = rw length-chain r.below }

  pub spells-drop : {s : List Slot} {q : Queue} {m : List ℕ} (k : ℕ) → Spells none s q m → Spells none s (ends_of none (drop k m)) (drop k m)
  spells-drop {s} {q} {m} k r =
      record { first = refl; last = refl; held = refl; linked = linked-drop k s m r.linked; below = below-drop (length s) k m r.below }
