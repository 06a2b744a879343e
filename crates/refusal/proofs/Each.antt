-- What holds of each member of a list. Assumes nothing.
use mathlib.Core.List.{List, [], ◌∷◌, ◌++◌, map}
use Prim.Native.Nat.{ℕ, zero, suc, ◌<◌}
use native.Mathlib.Nat.{not-suc-le-zero, le_of_suc-le-suc}
use lib.ListN.{length, get_or, take, drop}
use Rattle.refusal.specs.Choice.{Each}

module _ {A : Type 0} (P : A → Type 0) where
  pub each_append : (l m : List A) → Each P l → Each P m → Each P (l ++ m)
  each_append [] m h k = k
  each_append (x ∷ l) m h k = (h.0, each_append l m h.1 k)

  pub each_take : (k : ℕ) (l : List A) → Each P l → Each P (take k l)
  each_take zero l h = tt
  each_take (suc k) [] h = tt
  each_take (suc k) (x ∷ l) h = (h.0, each_take k l h.1)

  pub each-drop : (k : ℕ) (l : List A) → Each P l → Each P (drop k l)
  each-drop zero l h = h
  each-drop (suc k) [] h = tt
  each-drop (suc k) (x ∷ l) h = each-drop k l h.1

  pub each_at : (l : List A) (i : ℕ) (d : A) → Each P l → i < length l → P (get_or l i d)
  each_at [] i d h b = absurd (not-suc-le-zero b)
  each_at (x ∷ l) zero d h b = h.0
  each_at (x ∷ l) (suc i) d h b = each_at l i d h.1 (le_of_suc-le-suc b)

  pub each_map : {B : Type 0} (f : B → A) (l : List B) → ((b : B) → P (f b)) → Each P (map f l)
  each_map f [] h = tt
  each_map f (b ∷ l) h = (h b, each_map f l h)

-- what follows from one, and from two together
pub each-so : {A : Type 0} (P Q : A → Type 0) → ((x : A) → P x → Q x) → (l : List A) → Each P l → Each Q l
each-so P Q f [] h = tt
each-so P Q f (x ∷ l) h = (f x h.0, each-so P Q f l h.1)

pub each_both : {A : Type 0} (P Q R : A → Type 0) → ((x : A) → P x → Q x → R x) → (l : List A) → Each P l → Each Q l → Each R l
each_both P Q R f [] h k = tt
each_both P Q R f (x ∷ l) h k = (f x h.0 k.0, each_both P Q R f l h.1 k.1)
