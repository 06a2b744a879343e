-- The lists that the queues of some entries spell: where all run by their links, different last slots are the same as each slot at most once.
use mathlib.Core.Path.{◌≡◌, refl, sym, ◌∙◌, subst}
use mathlib.Core.List.{List, [], ◌∷◌, ◌++◌, map}
use Prim.Native.Nat.{ℕ, zero, suc, ◌+◌, ◌≤◌, ◌<◌}
use native.Mathlib.Omega.{arith}
use native.Mathlib.Nat.{not-suc-le-zero, le_of_suc-le-suc}
use lib.Dec.{eqb}
use borrow.Author.Tests.{eqb-true, eqb-false}
use lib.ListN.{length, length-append}
use Rattle.refusal.specs.Choice.{Each}
use Rattle.refusal.proofs.Cases.{by-test}
use Rattle.rules.specs.declared.Slot.{Slot}
use Rattle.rules.specs.Slots.{spelled, times, concat, Below, last_of, Linked, Spells}
use Rattle.rules.specs.Passes.Tables.{Entry}
use Rattle.rules.proofs.Slots.Links.{times-append, times-last, times-other, below-append}
use Rattle.rules.proofs.Slots.Queues.{length-follow}
use Rattle.rules.proofs.Slots.Disjoint.{NoLast, Lasts}
use Rattle.rules.proofs.Passes.Tally.{NotLast, Differ, total}

module _ (none : ℕ) (s : List Slot) where
  abbrev pub list : Entry → List ℕ
  list e = spelled s e.queue

  abbrev pub lists : List Entry → List (List ℕ)
  lists es = map list es

  abbrev pub Runs : Entry → Type 0
  Runs e = Spells none s e.queue (list e)

  pub all-linked : (es : List Entry) → Each Runs es → Each (Linked none s) (lists es)
  all-linked [] h = tt
  all-linked (e ∷ es) h = (h.0.linked, all-linked es h.1)

  below_up : (a b : ℕ) → a ≤ b → (l : List ℕ) → Below a l → Below b l
  below_up a b h [] k = tt
  below_up a b h (i ∷ l) k = (omega (arith, k.0), below_up a b h l k.1)

  pub all-below : length s ≤ none → (es : List Entry) → Each Runs es → Each (Below none) (lists es)
  all-below h [] k = tt
  all-below h (e ∷ es) k = (below_up (length s) none h (list e) k.0.below, all-below h es k.1)

  pub join-below : (es : List Entry) → Each Runs es → Below (length s) (concat (lists es))
  join-below [] h = tt
  join-below (e ∷ es) h = below-append (length s) (list e) (concat (lists es)) h.0.below (join-below es h.1)

  list_length : (e : Entry) → length (list e) ≡ e.queue.held
  list_length e = length-follow s e.queue.first e.queue.held

  pub join-length : (es : List Entry) → length (concat (lists es)) ≡ total es
  join-length [] = refl
  join-length (e ∷ es) = length-append (list e) (concat (lists es)) ∙ (λ j. list_length e j + join-length es j)

  no_last : (z : ℕ) (es : List Entry) → Each Runs es → Each (NotLast z) es → NoLast none z (lists es)
  no_last z [] h k p l some q = absurd (not-suc-le-zero l)
  no_last z (e ∷ es) h k zero l some q = k.0 (omega (arith, list_length e, some)) (q ∙ sym h.0.last)
  no_last z (e ∷ es) h k (suc p) l some q = no_last z es h.1 k.1 p (le_of_suc-le-suc l) some q

  pub lasts-of : (es : List Entry) → Each Runs es → Differ es → Lasts none (lists es)
  lasts-of [] h d = tt
  lasts-of (e ∷ es) h d = (
    λ some. subst (λ (z : ℕ). NoLast none z (lists es)) h.0.last (no_last e.queue.last es h.1 (d.0 (omega (arith, list_length e, some)))),
    lasts-of es h.1 d.1,
  )

  -- ---- and back: each slot at most once, so the last slots differ

  last-in : (e : Entry) → Runs e → 0 < e.queue.held → 1 ≤ times e.queue.last (list e)
  last-in e r h = subst (λ (z : ℕ). 1 ≤ times z (list e)) (sym r.last) (go (list e) (omega (arith, h, list_length e)))
    where
      go : (l : List ℕ) → 0 < length l → 1 ≤ times (last_of none l) l
      go [] h = absurd (omega (arith, h))
      go (a ∷ l) h = times-last none a l

  in-below : (n i : ℕ) (l : List ℕ) → Below n l → 1 ≤ times i l → i < n
  in-below n i [] b h = absurd (omega (arith, h))
  in-below n i (a ∷ l) b h =
      by-test (eqb i a)
      (λ e. omega (arith, eqb-true i a e, b.0))
      (λ e. in-below n i l b.1 (omega (arith, h, times-other i a l (eqb-false i a e))))

  pub last-low : (e : Entry) → Runs e → 0 < e.queue.held → e.queue.last < length s
  last-low e r h = in-below (length s) e.queue.last (list e) r.below (last-in e r h)

  not_last : (z : ℕ) (es : List Entry) → Each Runs es → times z (concat (lists es)) ≡ 0 → Each (NotLast z) es
  not_last z [] h k = tt
  not_last z (e ∷ es) h k = (
    λ some q. omega (arith, k, times-append z (list e) (concat (lists es)), subst (λ (x : ℕ). 1 ≤ times x (list e)) (sym q) (last-in e h.0 some)),
    not_last z es h.1 (omega (arith, k, times-append z (list e) (concat (lists es)))),
  )

  pub differ_of : (es : List Entry) → Each Runs es → ((i : ℕ) → i < length s → times i (concat (lists es)) ≤ 1) → Differ es
  differ_of [] h d = tt
  differ_of (e ∷ es) h d = (
    λ some.
        let z = e.queue.last in
        not_last z es h.1 (omega (arith, d z (last-low e h.0 some), times-append z (list e) (concat (lists es)), last-in e h.0 some)),
    differ_of es h.1 (λ i l. omega (arith, d i l, times-append i (list e) (concat (lists es)))),
  )

  -- one queue more
  pub times_more : (i : ℕ) (es : List Entry) (e : Entry) → times i (concat (lists (es ++ (e ∷ [])))) ≡ times i (concat (lists es)) + times i (list e)
  times_more i [] e = times-append i (list e) [] ∙ omega arith
  times_more i (x ∷ es) e =
      omega (arith, times-append i (list x) (concat (lists (es ++ (e ∷ [])))), times-append i (list x) (concat (lists es)), times_more i es e)
