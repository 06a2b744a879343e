-- The queue that slots left at its front: it keeps its last, unless it is empty now.
use Rattle.std.specs.Prelude.{if◌then◌else◌}
use mathlib.Core.Path.{◌≡◌, refl, sym, ap, ◌∙◌}
use mathlib.Core.List.{List, [], ◌∷◌, ◌++◌}
use Prim.Native.Nat.{ℕ, suc, ◌-◌}
use native.Mathlib.Omega.{arith}
use lib.Dec.{eqb}
use borrow.Author.Tests.{ne_eqb}
use lib.ListN.{length, take, drop, length-drop, take-append-drop}
use Rattle.rules.specs.declared.Ends.{Ends}
use Rattle.rules.specs.declared.Queue.{Queue}
use Rattle.rules.specs.Card.{small}
use Rattle.rules.specs.Slots.{Below, first_of, last_of, ends_of}
use Rattle.rules.proofs.Slots.Links.{last-append, below-drop}
use Rattle.walks.specs.declared.Moving.{Moving}
use Rattle.walks.specs.Ended.{shorter, free_shorter}

-- "256 stands for no slot"
abbrev pub none : ℕ
none = small.none

last-by-count : (front rear : List ℕ) → (if eqb (length rear) 0 then none else last_of none (front ++ rear)) ≡ last_of none rear
last-by-count front [] = refl
last-by-count front (a ∷ l) = rw (ne_eqb (suc (length l)) 0 (λ (e : suc (length l) ≡ 0). omega arith)) (last-append none front a l)

last-by-first : (front rear : List ℕ) → Below none rear → (if eqb (first_of none rear) none then none else last_of none (front ++ rear)) ≡ last_of none rear
last-by-first front [] b = refl
last-by-first front (a ∷ l) b = rw (ne_eqb a none (λ (e : a ≡ none). omega (arith, b.0))) (last-append none front a l)

module _ (l : List ℕ) (k : ℕ) (w : Moving) (at : w.at ≡ first_of none (drop k l)) where
  pub shorter-is : (q : Queue) → q.last ≡ last_of none l → q.held ≡ length l → shorter q k w ≡ ends_of none (drop k l)
  shorter-is q last held = λ i. record { first = at i; last = end i; held = (count ∙ sym (length-drop k l)) i }
    where
      count : q.held - k ≡ length l - k
      count = omega (arith, held)

      end : (if eqb (q.held - k) 0 then none else q.last) ≡ last_of none (drop k l)
      end =
          rw (count, last, ← length-drop k l)
          (ap (λ (m : List ℕ). if eqb (length (drop k l)) 0 then none else last_of none m) (sym (take-append-drop k l)) ∙ last-by-count (take k l) (drop k l))

  pub free-shorter-is : (e : Ends) → e.last ≡ last_of none l → Below none l → free_shorter e w ≡ record { first = first_of none (drop k l); last = last_of none (drop k l) }
  free-shorter-is e last b = λ i. record { first = at i; last = end i }
    where
      end : (if eqb w.at none then none else e.last) ≡ last_of none (drop k l)
      end =
          rw (at, last)
          (ap (λ (m : List ℕ). if eqb (first_of none (drop k l)) none then none else last_of none m) (sym (take-append-drop k l))
          ∙ last-by-first (take k l) (drop k l) (below-drop none k l b))
