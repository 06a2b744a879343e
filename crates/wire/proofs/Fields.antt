-- Layouts: what is laid under a name is found under it, what is found and laid again is the same, and a join of two layouts
-- is read and written part by part. Assumes nothing.
use Rattle.std.specs.Prelude.{if◌then◌else◌}
use mathlib.Core.Path.{◌≡◌, refl, sym, ◌∙◌, ap, ap₂}
use mathlib.Core.Bool.{Bool, true, false, not, ◌&&◌, true≢false, false≢true}
use mathlib.Core.List.{[], ◌∷◌, ◌++◌}
use Prim.Native.Nat.{ℕ, ◌+◌, ◌*◌, ◌/◌, ◌%◌, ◌^◌, ◌<◌}
use native.Mathlib.Omega.{arith}
use native.Mathlib.Nat.{zero-add, zero-mul, mod-lt, mod-mod, mod-eq_of_lt}
use lib.Arith.{digits_lt}
use lib.Pow.{pow_pos, pow-add, high, low, mod-pow-add, field as pow-field, mod-mod-pow, shr-shr}
use Rattle.refusal.proofs.Cases.{by-test, if-case, not-both, and_left, and_right}
use borrow.Author.Tests.{not-true}
use Rattle.wire.specs.Layout.{Name, Layout, size, Name-discrete, decided, same, has, laid, field}
use Rattle.wire.proofs.Bytes.{regroup}

pub size-append : (fs gs : Layout) → size (fs ++ gs) ≡ size fs + size gs
size-append [] gs = omega arith
size-append (f ∷ fs) gs = rw (size-append fs gs) (omega arith)

pow-size : (fs gs : Layout) → 2 ^ size (fs ++ gs) ≡ 2 ^ size fs * 2 ^ size gs
pow-size fs gs = ap (λ (n : ℕ). 2 ^ n) (size-append fs gs) ∙ pow-add 2 (size fs) (size gs)

-- ---- names

pub same_name : (m n : Name) → same m n ≡ true → m ≡ n
same_name m n e = go (Name-discrete m n) e
  where
    go : (d : Dec (m ≡ n)) → decided d ≡ true → m ≡ n
    go (yes p) t = p
    go (no p) t = absurd (false≢true t)

pub same_self : (n : Name) → same n n ≡ true
same_self n = go (Name-discrete n n)
  where
    go : (d : Dec (n ≡ n)) → decided d ≡ true
    go (yes p) = refl
    go (no p) = absurd (p refl)

-- ---- laying

pub laid-below : (v : Name → ℕ) (fs : Layout) → laid v fs < 2 ^ size fs
unfolding laid
laid-below v [] = omega arith
laid-below v (f ∷ fs) =
    rw (pow-add 2 f.width (size fs)) (digits_lt (mod-lt (v f.name) (pow_pos f.width)) (laid-below v fs))

pub laid-append : (v : Name → ℕ) (fs gs : Layout) → laid v (fs ++ gs) ≡ laid v fs * 2 ^ size gs + laid v gs
unfolding laid
laid-append v [] gs = omega (arith, zero-mul (2 ^ size gs))
laid-append v (f ∷ fs) gs =
    ap₂ (λ (p n : ℕ). v f.name % 2 ^ f.width * p + n) (pow-size fs gs) (laid-append v fs gs)
    ∙ regroup (v f.name % 2 ^ f.width) (2 ^ size fs) (2 ^ size gs) (laid v fs) (laid v gs)

-- what two functions agree on is laid alike
pub laid-alike : (v w : Name → ℕ) (fs : Layout) → ((n : Name) → has n fs ≡ true → v n ≡ w n) → laid v fs ≡ laid w fs
unfolding laid
laid-alike v w [] h = refl
laid-alike v w (f ∷ fs) h =
    ap₂ (λ (x y : ℕ). x % 2 ^ f.width * 2 ^ size fs + y)
    (h f.name (rw (same_self f.name)))
    (laid-alike v w fs (λ n e. h n (if-case (λ (t : Bool). t ≡ true) (same n f.name) (λ _. refl) (λ _. e))))

-- ---- finding

-- what stands above a layout's bits is not seen
field-mod : (n : Name) (fs : Layout) (i x : ℕ) → field n fs (x % 2 ^ (i + size fs)) ≡ field n fs x
unfolding field
field-mod n [] i x = refl
field-mod n (f ∷ fs) i x =
    let w = f.width in
    let s = size fs in
    let regrouped : i + (w + s) ≡ i + w + s = omega arith in
    by-test (same n f.name)
    (λ t. rw (t, regrouped, pow-field x (i + w) s) (mod-mod-pow (x / 2 ^ s) i w))
    (λ t. rw (t, regrouped) (field-mod n fs (i + w) x))

pub field-low : (n : Name) (fs : Layout) (a b : ℕ) → b < 2 ^ size fs → field n fs (a * 2 ^ size fs + b) ≡ field n fs b
field-low n fs a b h =
    let x = a * 2 ^ size fs + b in
    sym (field-mod n fs 0 x) ∙ ap (λ (j : ℕ). field n fs (x % 2 ^ j)) (zero-add (size fs)) ∙ ap (field n fs) (low a (size fs) h)

-- a join: a name of the first part is found there, another in the second
pub field-first : (n : Name) (fs gs : Layout) (a b : ℕ) → has n fs ≡ true → b < 2 ^ size gs → field n (fs ++ gs) (a * 2 ^ size gs + b) ≡ field n fs a
unfolding field
field-first n [] gs a b e h = absurd (false≢true e)
field-first n (f ∷ fs) gs a b e h =
    let x = a * 2 ^ size gs + b in
    let sum : size (fs ++ gs) ≡ size gs + size fs = omega (arith, size-append fs gs) in
    by-test (same n f.name)
    (λ t. rw (t, sum, ← shr-shr x (size gs) (size fs), high a (size gs) h))
    (λ t. rw t (field-first n fs gs a b (rw t at e) h))

pub field-second : (n : Name) (fs gs : Layout) (x : ℕ) → has n fs ≡ false → field n (fs ++ gs) x ≡ field n gs x
unfolding field
field-second n [] gs x e = refl
field-second n (f ∷ fs) gs x e =
    by-test (same n f.name) (λ t. absurd (true≢false (rw t at e))) (λ t. rw t (field-second n fs gs x (rw t at e)))

-- ---- there and back

-- each value is below its field's width
abbrev pub Fitting : (Name → ℕ) → Layout → Type 0
Fitting v [] = Unit {0}
Fitting v (f ∷ fs) = (v f.name < 2 ^ f.width) × Fitting v fs

pub field-laid : (v : Name → ℕ) (fs : Layout) → Fitting v fs → (n : Name) → field n fs (laid v fs) ≡ (if has n fs then v n else 0)
unfolding field laid
field-laid v [] h n = refl
field-laid v (f ∷ fs) h n =
    let below = laid-below v fs in
    by-test (same n f.name)
    (λ t. rw (t, high (v f.name % 2 ^ f.width) (size fs) below, mod-eq_of_lt h.0, mod-eq_of_lt h.0) (ap v (sym (same_name n f.name t))))
    (λ t. rw t (field-low n fs (v f.name % 2 ^ f.width) (laid v fs) below ∙ field-laid v fs h.1 n))

-- no name stands twice
abbrev pub distinct : Layout → Bool
distinct [] = true
distinct (f ∷ fs) = not (has f.name fs) && distinct fs

pub laid-field : (fs : Layout) → distinct fs ≡ true → (x : ℕ) → laid (λ n. field n fs x) fs ≡ x % 2 ^ size fs
unfolding field laid
laid-field [] d x = omega arith
laid-field (f ∷ fs) d x =
    let w = f.width in
    let s = size fs in
    let alone : has f.name fs ≡ false = not-true (has f.name fs) (and_left (not (has f.name fs)) (distinct fs) d) in
    rw (same_self f.name, mod-mod (x / 2 ^ s) (2 ^ w))
    (ap (λ (y : ℕ). x / 2 ^ s % 2 ^ w * 2 ^ s + y)
    (laid-alike (λ n. field n (f ∷ fs) x) (λ n. field n fs x) fs
    (λ n e.
    by-test (same n f.name)
    (λ t. not-both (has f.name fs) (ap (λ (m : Name). has m fs) (sym (same_name n f.name t)) ∙ e) alone)
    (λ t. rw t))
    ∙ laid-field fs (and_right (not (has f.name fs)) (distinct fs) d) x)
    ∙ sym (mod-pow-add x w s))
