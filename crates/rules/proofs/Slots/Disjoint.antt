-- What an audit may test in place of each slot standing once: different last slots, and counts that add up.
use mathlib.Core.Path.{◌≡◌, refl, sym, ap, subst, ◌∙◌}
use mathlib.Core.Logic.{◌≢◌}
use mathlib.Core.List.{List, [], ◌∷◌}
use Prim.Native.Nat.{ℕ, zero, suc, ◌+◌, ◌≤◌, ◌<◌, suc-le-suc}
use native.Mathlib.Omega.{arith}
use native.Mathlib.Nat.{not-suc-le-zero}
use lib.Dec.{eqb, ltb}
use borrow.Author.Tests.{ltb-true, ltb-false, eqb-true, eqb-false}
use lib.ListN.{length, get_or}
use Rattle.refusal.specs.Choice.{Each}
use Rattle.refusal.proofs.Each.{each_at}
use Rattle.refusal.proofs.Cases.{by-test}
use Rattle.rules.specs.declared.Slot.{Slot}
use Rattle.rules.specs.Slots.{times, concat, Below, last_of, Linked}
use Rattle.rules.proofs.Slots.Links.{Distinct, Apart, times-same, times-other, times-append}

module _ (none : ℕ) (s : List Slot) where
  -- the links leave no choice
  linked-unique : (a : ℕ) (r r' : List ℕ) → Linked none s (a ∷ r) → Linked none s (a ∷ r') → Below none r → Below none r' → r ≡ r'
  linked-unique a [] [] h h' b b' = refl
  linked-unique a [] (c ∷ r') h h' b b' = absurd (omega (arith, h.0, h'.0, b'.0))
  linked-unique a (c ∷ r) [] h h' b b' = absurd (omega (arith, h.0, h'.0, b.0))
  linked-unique a (c ∷ r) (c' ∷ r') h h' b b' =
      let e : c ≡ c' = sym h.0 ∙ h'.0 in
      λ i. e i ∷ linked-unique c r r' h.1 (rw (← e) at h'.1) b.1 b'.1 i

  -- where i stands in a list, the list goes on
  pub record Tail (i : ℕ) (l : List ℕ) : Type 0 where
    pub rest : List ℕ
    pub shorter : length rest < length l
    pub linked : Linked none s (i ∷ rest)
    pub below : Below none rest
    pub last : last_of none (i ∷ rest) ≡ last_of none l

  tail_at : (i : ℕ) (l : List ℕ) → Linked none s l → Below none l → 1 ≤ times i l → Tail i l
  tail_at i [] h b m = absurd (omega arith)
  tail_at i (a ∷ l) h b m =
      by-test (eqb i a)
      (λ e. rw (eqb-true i a e) (record { rest = l; shorter = omega arith; linked = h; below = b.1; last = refl }))
      (λ e. later (tail_at i l h.1 b.1 (omega (arith, times-other i a l (eqb-false i a e)))))
    where
      later : Tail i l → Tail i (a ∷ l)
      later t = record { rest = t.rest; shorter = omega (arith, t.shorter); linked = t.linked; below = t.below; last = t.last ∙ same l t }
        where
          same : (l : List ℕ) → Tail i l → last_of none l ≡ last_of none (a ∷ l)
          same [] t = absurd (not-suc-le-zero t.shorter)
          same (c ∷ l) t = refl

  -- a linked list goes nowhere twice
  pub distinct_of : (l : List ℕ) → Linked none s l → Below none l → Distinct l
  distinct_of [] h b i = omega arith
  distinct_of (a ∷ l) h b i =
      by-test (eqb i a)
      (λ e. subst (λ (k : ℕ). times k (a ∷ l) ≤ 1) (sym (eqb-true i a e)) (omega (arith, times-same a l, once)))
      (λ e. omega (arith, times-other i a l (eqb-false i a e), distinct_of l h.1 b.1 i))
    where
      once : times a l ≡ 0
      once =
          by-test (ltb 0 (times a l))
          (λ e.
          let t = tail_at a l h.1 b.1 (ltb-true 0 (times a l) e) in
          absurd (omega (arith, t.shorter, ap length (linked-unique a l t.rest h t.linked b.1 t.below))))
          (λ e. omega (arith, ltb-false))

  -- two lists that share a slot share their last slot
  pub share-last : (i : ℕ) (l m : List ℕ) → Linked none s l → Linked none s m → Below none l → Below none m → 1 ≤ times i l → 1 ≤ times i m
      → last_of none l ≡ last_of none m
  share-last i l m h k b c x y =
      let t = tail_at i l h b x in
      let u = tail_at i m k c y in
      sym t.last ∙ ap (λ (r : List ℕ). last_of none (i ∷ r)) (linked-unique i t.rest u.rest t.linked u.linked t.below u.below) ∙ u.last

  pub apart_of : (l m : List ℕ) → Linked none s l → Linked none s m → Below none l → Below none m → last_of none l ≢ last_of none m → Apart l m
  apart_of l m h k b c d i =
      by-test (ltb 0 (times i l))
      (λ e. by-test (ltb 0 (times i m))
      (λ f. absurd (d (share-last i l m h k b c (ltb-true 0 (times i l) e) (ltb-true 0 (times i m) f))))
      (λ f. omega (arith, ltb-false, distinct_of l h b i)))
      (λ e. omega (arith, ltb-false, distinct_of m k c i))

-- ---- n different numbers below n: each of them is there

tally : ℕ → List ℕ → ℕ
tally zero l = 0
tally (suc n) l = tally n l + times n l

tally-nil : (n : ℕ) → tally n [] ≡ 0
unfolding tally
tally-nil zero = refl
tally-nil (suc n) = omega (arith, tally-nil n)

tally-high : (n a : ℕ) (l : List ℕ) → n ≤ a → tally n (a ∷ l) ≡ tally n l
unfolding tally
tally-high zero a l h = refl
tally-high (suc n) a l h = omega (arith, tally-high n a l (omega arith), times-other n a l (λ e. omega arith))

tally-low : (n a : ℕ) (l : List ℕ) → a < n → tally n (a ∷ l) ≡ suc (tally n l)
unfolding tally
tally-low zero a l h = absurd (not-suc-le-zero h)
tally-low (suc n) a l h =
    by-test (eqb n a)
    (λ e. rw e (omega (arith, tally-high n a l (omega (arith, eqb-true n a e)))))
    (λ e. let d = eqb-false n a e in omega (arith, tally-low n a l (omega (arith, d)), times-other n a l d))

tally-all : (n : ℕ) (l : List ℕ) → Below n l → tally n l ≡ length l
tally-all n [] b = tally-nil n
tally-all n (a ∷ l) b = omega (arith, tally-low n a l b.0, tally-all n l b.1)

tally-most : (n : ℕ) (l : List ℕ) → Distinct l → tally n l ≤ n
unfolding tally
tally-most zero l d = omega arith
tally-most (suc n) l d = omega (arith, tally-most n l d, d n)

tally-gap : (n i : ℕ) (l : List ℕ) → Distinct l → i < n → times i l ≡ 0 → tally n l < n
unfolding tally
tally-gap zero i l d h z = absurd (not-suc-le-zero h)
tally-gap (suc n) i l d h z =
    by-test (eqb i n)
    (λ e. let q = eqb-true i n e in omega (arith, tally-most n l d, rw q at z))
    (λ e. omega (arith, tally-gap n i l d (omega (arith, eqb-false i n e)) z, d n))

pub each-once : (n : ℕ) (l : List ℕ) → Distinct l → Below n l → length l ≡ n → (i : ℕ) → i < n → times i l ≡ 1
each-once n l d b e i h =
    by-test (eqb (times i l) 0)
    (λ z. absurd (omega (arith, tally-gap n i l d h (eqb-true (times i l) 0 z), tally-all n l b)))
    (λ z. omega (arith, eqb-false (times i l) 0 z, d i))

tally-ones : (n : ℕ) (l : List ℕ) → ((i : ℕ) → i < n → times i l ≡ 1) → tally n l ≡ n
unfolding tally
tally-ones zero l h = refl
tally-ones (suc n) l h = omega (arith, tally-ones n l (λ i k. h i (omega arith)), h n (omega arith))

-- each once: as many as there are
pub length-of-once : (n : ℕ) (l : List ℕ) → Below n l → ((i : ℕ) → i < n → times i l ≡ 1) → length l ≡ n
length-of-once n l b h = sym (tally-all n l b) ∙ tally-ones n l h

-- ---- the audit's test for each slot standing once: all queues run, different last slots, and the counts add up

-- no list of ls that holds something has z as its last
abbrev pub NoLast : ℕ → ℕ → List (List ℕ) → Type 0
NoLast none z ls = (p : ℕ) → p < length ls → 0 < length (get_or ls p []) → z ≢ last_of none (get_or ls p [])

abbrev pub Lasts : ℕ → List (List ℕ) → Type 0
Lasts none [] = Unit {0}
Lasts none (l ∷ ls) = (0 < length l → NoLast none (last_of none l) ls) × Lasts none ls

some-length : (i : ℕ) (l : List ℕ) → 1 ≤ times i l → 0 < length l
some-length i [] h = absurd (omega arith)
some-length i (a ∷ l) h = omega arith

in-join : (i : ℕ) (ls : List (List ℕ)) → 1 ≤ times i (concat ls) → (p : ℕ) × (p < length ls) × (1 ≤ times i (get_or ls p []))
in-join i [] h = absurd (omega arith)
in-join i (l ∷ ls) h =
    by-test (ltb 0 (times i l))
    (λ e. (0, omega arith, ltb-true 0 (times i l) e))
    (λ e.
    let r = in-join i ls (omega (arith, times-append i l (concat ls), ltb-false 0 (times i l) e)) in
    (suc r.0, suc-le-suc r.1, r.2))

module _ (none : ℕ) (s : List Slot) where
  pub distinct-join : (ls : List (List ℕ)) → Each (Linked none s) ls → Each (Below none) ls → Lasts none ls → Distinct (concat ls)
  distinct-join [] h b d i = omega arith
  distinct-join (l ∷ ls) h b d i =
      by-test (ltb 0 (times i l))
      (λ e. by-test (ltb 0 (times i (concat ls)))
      (λ f. absurd (both (ltb-true 0 (times i l) e) (in-join i ls (ltb-true 0 (times i (concat ls)) f))))
      (λ f. omega (arith, times-append i l (concat ls), ltb-false 0 (times i (concat ls)) f, distinct_of none s l h.0 b.0 i)))
      (λ e. omega (arith, times-append i l (concat ls), ltb-false 0 (times i l) e, distinct-join ls h.1 b.1 d.1 i))
    where
      both : 1 ≤ times i l → (p : ℕ) × (p < length ls) × (1 ≤ times i (get_or ls p [])) → ⊥
      both x y =
          d.0 (some-length i l x) y.0 y.1 (some-length i (get_or ls y.0 []) y.2)
          (share-last none s i l (get_or ls y.0 []) h.0 (each_at (Linked none s) ls y.0 [] h.1 y.1) b.0 (each_at (Below none) ls y.0 [] b.1 y.1) x y.2)

  pub once-of : (n : ℕ) (ls : List (List ℕ)) → Each (Linked none s) ls → Each (Below none) ls → Lasts none ls
      → Below n (concat ls) → length (concat ls) ≡ n → (i : ℕ) → i < n → times i (concat ls) ≡ 1
  once-of n ls h b d low e i l = each-once n (concat ls) (distinct-join ls h b d) low e i l
