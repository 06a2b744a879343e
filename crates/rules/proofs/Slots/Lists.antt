-- Lists of slot numbers, and how often a number stands in them.
use mathlib.Core.Path.{◌≡◌, refl}
use mathlib.Core.Logic.{◌≢◌}
use mathlib.Core.List.{List, [], ◌∷◌, map}
use Prim.Native.Nat.{ℕ, zero, suc, ◌+◌, ◌≤◌, ◌<◌, suc-le-suc}
use native.Mathlib.Omega.{arith}
use native.Mathlib.Nat.{le_of_suc-le-suc}
use borrow.Author.Tests.{ne_eqb}
use lib.ListN.{length, get_or, set, take, drop}
use lib.Seq.{get_or-set_other}
use Rattle.rules.specs.Slots.{times, concat, Below}
use Rattle.rules.proofs.Slots.Links.{times-append, times-tail, times-same, below-append}

pub times-join-at : (i : ℕ) (ls : List (List ℕ)) (p : ℕ) → times i (get_or ls p []) ≤ times i (concat ls)
times-join-at i [] p = omega arith
times-join-at i (l ∷ ls) zero = omega (arith, times-append i l (concat ls))
times-join-at i (l ∷ ls) (suc p) = omega (arith, times-append i l (concat ls), times-join-at i ls p)

pub times-join-set : (i : ℕ) (ls : List (List ℕ)) (p : ℕ) (m : List ℕ) → p < length ls
    → times i (concat (set ls p m)) + times i (get_or ls p []) ≡ times i (concat ls) + times i m
times-join-set i [] p m h = omega arith
times-join-set i (l ∷ ls) zero m h = omega (arith, times-append i l (concat ls), times-append i m (concat ls))
times-join-set i (l ∷ ls) (suc p) m h =
    omega (arith, times-append i l (concat ls), times-append i l (concat (set ls p m)), times-join-set i ls p m (le_of_suc-le-suc h))

-- two of them together stand in the whole
pub times-join-two : (i : ℕ) (ls : List (List ℕ)) (p r : ℕ) → p < length ls → r ≢ p → times i (get_or ls p []) + times i (get_or ls r []) ≤ times i (concat ls)
times-join-two i ls p r h d =
    omega (arith, times-join-set i ls p [] h, rw (get_or-set_other ls p r [] [] d) at (times-join-at i (set ls p []) r))

pub below-join : (n : ℕ) (ls : List (List ℕ)) → ((p : ℕ) → p < length ls → Below n (get_or ls p [])) → Below n (concat ls)
below-join n [] h = tt
below-join n (l ∷ ls) h = below-append n l (concat ls) (h 0 (omega arith)) (below-join n ls (λ p b. h (suc p) (suc-le-suc b)))

pub times_below : (n i : ℕ) (l : List ℕ) → Below n l → n ≤ i → times i l ≡ 0
times_below n i [] b h = refl
times_below n i (a ∷ l) b h = rw (ne_eqb i a (λ e. omega (arith, b.0, e))) (omega (arith, times_below n i l b.1 h))

pub map-drop {ℓ κ} : {A : Type ℓ} {B : Type κ} (f : A → B) (k : ℕ) (l : List A) → map f (drop k l) ≡ drop k (map f l)
map-drop f zero l = refl
map-drop f (suc k) [] = refl
map-drop f (suc k) (x ∷ l) = map-drop f k l

pub map-take {ℓ κ} : {A : Type ℓ} {B : Type κ} (f : A → B) (k : ℕ) (l : List A) → take k (map f l) ≡ map f (take k l)
map-take f zero l = refl
map-take f (suc k) [] = refl
map-take f (suc k) (x ∷ l) = λ i. f x ∷ map-take f k l i

-- two functions that agree on a list's members
pub map_on : {B : Type 0} (f g : ℕ → B) (l : List ℕ) → ((i : ℕ) → 1 ≤ times i l → f i ≡ g i) → map f l ≡ map g l
map_on f g [] h = refl
map_on f g (a ∷ l) h =
    λ i. h a (omega (arith, times-same a l)) i ∷ map_on f g l (λ j m. h j (omega (arith, times-tail j a l))) i
