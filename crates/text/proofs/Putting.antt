-- The laws of what is put into a buffer, and how a text is put, byte by byte. Assumes nothing.
use mathlib.Core.Path.{◌≡◌, refl, sym, ap, ap₂, ◌∙◌}
use mathlib.Core.Bool.{Bool, true, false, cond}
use mathlib.Core.List.{List, [], ◌∷◌, ◌++◌}
use Prim.Native.Nat.{ℕ, suc, ◌+◌, ◌≤◌, ◌<◌}
use native.Mathlib.Omega.{arith}
use native.Mathlib.Numerals.{add-one}
use native.Mathlib.Nat.{add-zero}
use lib.Dec.{ltb}
use lib.ListN.{length, take, drop, set, length-set, drop_of_length-le}
use lib.Seq.{sets, sets-eq}
use borrow.Author.Tests.{lt-ltb}
use Rattle.text.specs.Out.{Out, out, put_byte, put_all}

-- one text and then another are put as the two in a row
pub put-append : (o : Out) (xs ys : List ℕ) → put_all o (xs ++ ys) ≡ put_all (put_all o xs) ys
unfolding put_all
put-append o [] ys = refl
put-append o (x ∷ xs) ys = put-append (put_byte o x) xs ys

pub put_then : (o : Out) (xs ys : List ℕ) {p q : Out} → p ≡ put_all o xs → q ≡ put_all p ys → q ≡ put_all o (xs ++ ys)
put_then o xs ys e h = h ∙ ap (λ (w : Out). put_all w ys) e ∙ sym (put-append o xs ys)

pub put_one : (o : Out) (b : ℕ) → put_all o (b ∷ []) ≡ put_byte o b
unfolding put_all
put_one o b = refl

pub put_two : (o : Out) (a b : ℕ) {x y : ℕ} {p q : Out} → x ≡ a → y ≡ b → p ≡ put_byte o x → q ≡ put_byte p y → q ≡ put_all o (a ∷ b ∷ [])
unfolding put_all
put_two o a b d f e h = h ∙ ap₂ put_byte (e ∙ ap (put_byte o) d) f

put-sets : (xs bs : List ℕ) (k : ℕ) → k + length xs ≤ length bs → put_all (out bs k) xs ≡ out (sets bs k xs) (k + length xs)
unfolding put_all
put-sets [] bs k h = ap (out bs) (sym (add-zero k))
put-sets (x ∷ xs) bs k h =
    let room : k < length bs = omega arith in
    let step : put_byte (out bs k) x ≡ out (set bs k x) (k + 1) = rw (lt-ltb k (length bs) room) in
    let next : k + 1 + length xs ≡ k + suc (length xs) = omega arith in
    ap (λ (o : Out). put_all o xs) step
    ∙ put-sets xs (set bs k x) (k + 1) (simp length-set (omega arith))
    ∙ ap₂ (λ (j m : ℕ). out (sets (set bs k x) j xs) m) (add-one k) next

-- where a text fits, the buffer has just its bytes there, and all else as it was
pub put-fits : (bs : List ℕ) (k : ℕ) (xs : List ℕ) → k + length xs ≤ length bs
    → put_all (out bs k) xs ≡ out (take k bs ++ xs ++ drop (k + length xs) bs) (k + length xs)
put-fits bs k xs h = put-sets xs bs k h ∙ ap (λ (l : List ℕ). out l (k + length xs)) (sets-eq xs bs k h)

-- the buffer keeps its length
pub put-length : (o : Out) (xs : List ℕ) → length (put_all o xs).bytes ≡ length o.bytes
unfolding put_all
put-length o [] = refl
put-length o (x ∷ xs) = put-length (put_byte o x) xs ∙ kept (ltb o.at (length o.bytes))
  where
    kept : (t : Bool) → length (cond t (out (set o.bytes o.at x) (o.at + 1)) o).bytes ≡ length o.bytes
    kept true = length-set o.bytes o.at x
    kept false = refl

-- what f spells of s is put up to i
pub record Putting (f : List ℕ → List ℕ) (s : List ℕ) (o : Out) (bs : List ℕ) (to i : ℕ) : Type 0 where
  pub high : i ≤ length s
  pub left : put_all o (f s) ≡ put_all (out bs to) (f (drop i s))

module _ {f : List ℕ → List ℕ} {s : List ℕ} {o : Out} {bs : List ℕ} {to i : ℕ} where
  pub putting-more : {bs' : List ℕ} {to' : ℕ} → Putting f s o bs to i → i < length s → (p : List ℕ) → f (drop i s) ≡ p ++ f (drop (i + 1) s)
      → out bs' to' ≡ put_all (out bs to) p → Putting f s o bs' to' (i + 1)
  putting-more m h p e q =
      record {
        high = omega arith;
        left = m.left ∙ ap (put_all (out bs to)) e ∙ put-append (out bs to) p (f (drop (i + 1) s)) ∙ ap (λ (w : Out). put_all w (f (drop (i + 1) s))) (sym q);
      }

  pub putting-end : Putting f s o bs to i → length s ≤ i → f [] ≡ [] → out bs to ≡ put_all o (f s)
  unfolding put_all
  putting-end m h e = sym (m.left ∙ ap (λ (l : List ℕ). put_all (out bs to) (f l)) (drop_of_length-le s h) ∙ ap (put_all (out bs to)) e)
