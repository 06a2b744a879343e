-- Each line has its own bytes: what stands between two newlines is kept, and then answered. Assumes nothing.
use Rattle.std.specs.Prelude.{if◌then◌else◌}
use mathlib.Core.Path.{◌≡◌, refl, ap, ◌∙◌}
use mathlib.Core.Bool.{Bool, false}
use mathlib.Core.List.{List, [], ◌∷◌, ◌++◌}
use Prim.Native.Nat.{ℕ, zero, suc, ◌+◌, ◌-◌, ◌^◌, ◌≤◌, ◌<◌, min}
use native.Mathlib.Omega.{arith}
use lib.ListN.{length, get_or, set, take, drop, length-set}
use lib.Seq.{take-suc-set}
use borrow.Author.Tests.{lt-ltb}
use Rattle.refusal.specs.Choice.{Each}
use Rattle.refusal.proofs.Loop.{loop-more}
use Rattle.replay.specs.Kept.{is_end}
use Rattle.replay.specs.declared.desk.Desk.{Desk}
use Rattle.replay.specs.Serving.{answered, kept_in, fed, fed_all}
use Rattle.replay.proofs.Less.{fed-less}

-- the first of what is left
get_d_drop : (k : ℕ) (xs : List ℕ) → get_or xs k 0 ≡ get_or (drop k xs) 0 0
get_d_drop zero xs = refl
get_d_drop (suc k) [] = refl
get_d_drop (suc k) (x ∷ xs) = get_d_drop k xs

drop_more : (k : ℕ) (xs : List ℕ) → drop (suc k) xs ≡ drop 1 (drop k xs)
drop_more zero xs = refl
drop_more (suc k) [] = refl
drop_more (suc k) (x ∷ xs) = drop_more k xs

join_one : (xs ys : List ℕ) (b : ℕ) → (xs ++ (b ∷ [])) ++ ys ≡ xs ++ (b ∷ ys)
join_one [] ys b = refl
join_one (x ∷ xs) ys b = ap (λ (zs : List ℕ). x ∷ zs) (join_one xs ys b)

-- no newline among the bytes
abbrev pub Unbroken : List ℕ → Type 0
Unbroken l = Each (λ (b : ℕ). is_end b ≡ false) l

-- the bytes of a line, one after the other
abbrev pub kept_all : List ℕ → Desk → Desk
kept_all [] d = d
kept_all (b ∷ l) d = kept_all l (kept_in b d)

-- they are kept behind those that were, where there is room for them
pub kept_line : (l : List ℕ) (d : Desk) → d.place.kept + length l ≤ length d.line
    → take (kept_all l d).place.kept (kept_all l d).line ≡ take d.place.kept d.line ++ l
kept_line [] d h = none (take d.place.kept d.line)
  where
    none : (xs : List ℕ) → xs ≡ xs ++ []
    none [] = refl
    none (x ∷ xs) = ap (λ (ys : List ℕ). x ∷ ys) (none xs)
kept_line (b ∷ l) d h =
    let k = d.place.kept in
    let room : k < length d.line = omega (arith, h) in
    let more : (kept_in b d).place.kept ≡ suc k = ap (λ (t : Bool). if t then k + 1 else k) (lt-ltb k (length d.line) room) ∙ omega arith in
    kept_line l (kept_in b d) (omega (arith, h, more, length-set d.line k b))
    ∙ ap (λ (n : ℕ). take n (set d.line k b) ++ l) more
    ∙ ap (λ (ys : List ℕ). ys ++ l) (take-suc-set d.line k b room)
    ∙ join_one (take k d.line) l b

module _ (input : List ℕ) where
  next-is : (d : Desk) (b : ℕ) (bs : List ℕ) → drop d.place.from input ≡ b ∷ bs → get_or input d.place.from 0 ≡ b
  next-is d b bs e = get_d_drop d.place.from input ∙ ap (λ (ys : List ℕ). get_or ys 0 0) e

  one : (d : Desk) → 0 < d.place.left → fed_all input d ≡ fed_all input (fed input d)
  one d l = loop-more (λ (x : Desk). x.place.left) (fed input) (fed-less input) d l

  -- "A line ends at a newline": what was read of a line is kept, and at its end it is answered, as one line
  pub whole-line : (l rest : List ℕ) (d : Desk) → Unbroken l → drop d.place.from input ≡ l ++ (10 ∷ rest) → length l < d.place.left
      → d.place.from + length l < 2 ^ 64 - 1 → fed_all input d ≡ fed_all input (answered (kept_all l d))
  whole-line [] rest d u e h f =
      one d (omega (arith, h)) ∙ ap (λ (b : ℕ). fed_all input (if is_end b then answered d else kept_in b d)) (next-is d 10 rest e)
  whole-line (b ∷ l) rest d u e h f =
      let at = d.place.from in
      let on : min (at + 1) (2 ^ 64 - 1) ≡ suc at = omega (arith, f) in
      one d (omega (arith, h))
      ∙ ap (λ (c : ℕ). fed_all input (if is_end c then answered d else kept_in c d)) (next-is d b (l ++ (10 ∷ rest)) e)
      ∙ ap (λ (t : Bool). fed_all input (if t then answered d else kept_in b d)) u.0
      ∙ whole-line l rest (kept_in b d) u.1 (ap (λ (n : ℕ). drop n input) on ∙ drop_more at input ∙ ap (drop 1) e) (omega (arith, h)) (omega (arith, f, on))
