-- A fresh start: each record of a table is written once, from the last to the first, and then the tables are the rules' fresh ones.
use Rattle.std.specs.Prelude.{if◌then◌else◌}
use mathlib.Core.Path.{◌≡◌, refl, ap, ◌∙◌}
use mathlib.Core.Bool.{Bool, true, false, ◌&&◌}
use mathlib.Core.List.{List, [], ◌∷◌, ◌++◌, map}
use Prim.Native.Nat.{ℕ, zero, suc, ◌+◌, ◌-◌, ◌≤◌, ◌<◌}
use native.Mathlib.Omega.{arith}
use lib.Dec.{eqb}
use borrow.Author.Tests.{eqb-true}
use lib.ListN.{length, set, drop, length-set}
use Rattle.refusal.specs.declared.Refusal.TheVariants as refusal
use Rattle.refusal.proofs.Loop.{loop-done, loop-more}
use Rattle.rules.specs.Message.{from}
use Rattle.rules.specs.declared.Ends.{Ends}
use Rattle.rules.specs.declared.Pair.{Pair}
use Rattle.rules.specs.declared.Slot.{Slot}
use Rattle.rules.specs.Card.{small}
use Rattle.rules.specs.Slots.{Tables, slot_at, relinked, fresh}
use Rattle.rules.specs.Requests.{starting}
use Rattle.rules.specs.Calls.{Step, started, refuse, call}
use Rattle.card.specs.declared.Started.{Started}
use Rattle.card.specs.Inner.{Filled, fill_turn, fill, pair_row, free_slot, starts_all, starts_none, start_of}

module _ {A : Type 0} (row : ℕ → A) where
  pub fill-less : (x : Filled A) → 0 < x.left → (fill_turn row x).left < x.left
  fill-less x l = omega (arith, l)

  fill_done : (x : Filled A) → x.left ≡ 0 → fill row x ≡ x
  fill_done = loop-done (λ (y : Filled A). y.left) (fill_turn row) fill-less

  fill_more : (x : Filled A) → 0 < x.left → fill row x ≡ fill row (fill_turn row x)
  fill_more = loop-more (λ (y : Filled A). y.left) (fill_turn row) fill-less

  -- the record that is written is the first of those behind
  drop-set : (k : ℕ) (xs : List A) (a : A) → k < length xs → drop k (set xs k a) ≡ a ∷ drop (suc k) xs
  drop-set k [] a l = absurd (omega (arith, l))
  drop-set zero (x ∷ xs) a l = refl
  drop-set (suc k) (x ∷ xs) a l = drop-set k xs a (omega (arith, l))

  more_rows : (b k : ℕ) (ys : List A) → map row (from b k) ++ (row (k + b) ∷ ys) ≡ map row (from b (suc k)) ++ ys
  more_rows b zero ys = ap (λ (n : ℕ). row n ∷ ys) (omega arith)
  more_rows b (suc k) ys = ap (λ (zs : List A). row b ∷ zs) (ap (λ (n : ℕ). map row (from (suc b) k) ++ (row n ∷ ys)) (omega arith) ∙ more_rows (suc b) k ys)

  pub fill_is : (k : ℕ) (xs : List A) → k ≤ length xs → (fill row (record { left = k; rows = xs })).rows ≡ map row (from 1 k) ++ drop k xs
  fill_is zero xs l = ap (λ (y : Filled A). y.rows) (fill_done (record { left = 0; rows = xs }) refl)
  fill_is (suc k) xs l =
      let one : suc k - 1 ≡ k = omega arith in
      let next : suc k ≡ k + 1 = omega arith in
      ap (λ (y : Filled A). y.rows) (fill_more (record { left = suc k; rows = xs }) (omega arith))
      ∙ ap (λ (n : ℕ). (fill row (record { left = n; rows = set xs n (row (suc k)) })).rows) one
      ∙ fill_is k (set xs k (row (suc k))) (omega (arith, length-set xs k (row (suc k)), l))
      ∙ ap (λ (ys : List A). map row (from 1 k) ++ ys) (drop-set k xs (row (suc k)) (omega (arith, l)))
      ∙ ap (λ (n : ℕ). map row (from 1 k) ++ (row n ∷ drop (suc k) xs)) next
      ∙ more_rows 1 k (drop (suc k) xs)

drop_all : {A : Type 0} (k : ℕ) (xs : List A) → length xs ≡ k → drop k xs ≡ []
drop_all zero [] e = refl
drop_all (suc k) [] e = refl
drop_all zero (x ∷ xs) e = absurd (omega (arith, e))
drop_all (suc k) (x ∷ xs) e = drop_all k xs (omega (arith, e))

-- a table of k records, each written
all-rows : {A : Type 0} (row : ℕ → A) (k : ℕ) (xs : List A) → length xs ≡ k → (fill row (record { left = k; rows = xs })).rows ≡ map row (from 1 k) ++ []
all-rows row k xs e = fill_is row k xs (omega (arith, e)) ∙ ap (λ ys. map row (from 1 k) ++ ys) (drop_all k xs e)

-- and none
no_rows : {A : Type 0} (row : ℕ → A) (xs : List A) → (fill row (record { left = 0; rows = xs })).rows ≡ xs
no_rows row xs = ap (λ (y : Filled _). y.rows) (fill_done row (record { left = 0; rows = xs }) refl)

module _ (pairs : List Pair) (ends : Ends) (slots : List Slot) where
  abbrev before : Tables
  before = record { pairs = pairs; ends = ends; slots = slots }

  -- the code's fresh start comes to the rules'
  abbrev Same : Started → Step Tables → Type 0
  Same s c =
      (s.reply ≡ c.said.reply)
      × (((fill pair_row (record { left = s.pairs; rows = pairs })).rows ≡ c.next.pairs)
      × ((s.ends ≡ c.next.ends) × ((fill free_slot (record { left = s.slots; rows = slots })).rows ≡ c.next.slots)))

  all_same : length pairs ≡ 64 → length slots ≡ 256 → Same starts_all (started (fresh small))
  unfolding fresh relinked slot_at
  all_same p s = (refl, (all-rows pair_row 64 pairs p, (refl, all-rows free_slot 256 slots s)))

  none-same : Same (starts_none ends) (refuse refusal.Audit [] before)
  none-same = (refl, (no_rows pair_row pairs, (refl, no_rows free_slot slots)))

  go : (p s : Bool) → (p ≡ true → length pairs ≡ 64) → (s ≡ true → length slots ≡ 256)
      → Same (if p && s then starts_all else starts_none ends) (if p && s then started (fresh small) else refuse refusal.Audit [] before)
  go true true e f = all_same (e refl) (f refl)
  go true false e f = none-same
  go false s e f = none-same

  pub started-is : Same (start_of (length pairs) (length slots) ends) (call small starting before)
  unfolding start_of call
  started-is = go (eqb (length pairs) 64) (eqb (length slots) 256) (eqb-true (length pairs) 64) (eqb-true (length slots) 256)
