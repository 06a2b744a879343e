-- The laws of packet numbers. `distance` is shut to those above: to them it is an unknown, of which these are the facts.
-- Assumes nothing.
use mathlib.Core.Path.{◌≡◌, refl, sym, ◌∙◌}
use mathlib.Core.Bool.{true, false}
use Prim.Native.Nat.{ℕ, ◌+◌, ◌-◌, ◌*◌, ◌%◌, ◌^◌, ◌≤◌, ◌<◌}
use native.Mathlib.Omega.{arith}
use borrow.Author.Tests.{ltb-true, ltb-false, lt-ltb, le-ltb}
use Rattle.psn.specs.Psn.{width, psns, half, distance, plus, next, before}

-- ---- the constants

pub count-is : psns ≡ 2 ^ width
count-is = refl

-- half the numbers, so that of two numbers one is within it of the other
pub half_is : half + half + 2 ≡ psns
half_is = refl

-- ---- distance

-- the same with no difference in it, which is what omega likes
pub distance_is : (a b : ℕ) → distance a b ≡ (b + 16777215 * a) % 16777216
unfolding distance
distance_is a b = omega arith

pub distance-below : (a b : ℕ) → distance a b < psns
unfolding distance
distance-below a b = omega arith

-- b − a modulo 2^24: the one number below 2^24 that leads from a to b
pub distance-leads : (a b : ℕ) → plus a (distance a b) ≡ b % psns
distance-leads a b = omega (arith, distance_is a b)

pub distance-only : (a b d : ℕ) → d < psns → plus a d ≡ b % psns → d ≡ distance a b
distance-only a b d h e = omega (arith, distance_is a b)

pub distance-same : (a : ℕ) → distance a a ≡ 0
distance-same a = omega (arith, distance_is a a)

-- what a record holds counts modulo 2^24 alone
pub distance-reduced : (a b : ℕ) → distance (a % psns) (b % psns) ≡ distance a b
distance-reduced a b =
    distance-only a b (distance (a % psns) (b % psns)) (distance-below (a % psns) (b % psns))
    (omega (arith, distance-leads (a % psns) (b % psns)))

-- ---- the distance of a sum

pub distance-plus : (a k : ℕ) → k < psns → distance a (plus a k) ≡ k
distance-plus a k h = omega (arith, distance_is a (plus a k))

pub distance-step : (u a k : ℕ) → distance u a + k < psns → distance u (plus a k) ≡ distance u a + k
distance-step u a k h = omega (arith, distance_is u a, distance_is u (plus a k))

pub plus-below : (a k : ℕ) → plus a k < psns
plus-below a k = omega arith

pub plus-plus : (a j k : ℕ) → plus (plus a j) k ≡ plus a (j + k)
plus-plus a j k = omega arith

pub plus-distance : (a b : ℕ) → b < psns → plus a (distance a b) ≡ b
plus-distance a b h = omega (arith, distance_is a b)

-- ---- order by distance

-- plain comparison is wrong where the numbers run around: 16,777,215 is before 0
pub around : before 16777214 16777215 0 ≡ true
unfolding distance
around = refl

pub distance-inj : (u a b : ℕ) → a < psns → b < psns → distance u a ≡ distance u b → a ≡ b
distance-inj u a b h l e = omega (arith, distance_is u a, distance_is u b)

pub distance-zero : (u a : ℕ) → u < psns → a < psns → distance u a ≡ 0 → a ≡ u
distance-zero u a h l e = distance-inj u a u l h (e ∙ sym (distance-same u))

-- from a, where a is no further from u than b
pub distance-from : (u a b : ℕ) → distance u a ≤ distance u b → distance a b ≡ distance u b - distance u a
distance-from u a b e = omega (arith, distance_is u a, distance_is u b, distance_is a b)

-- there and back is once around
pub distance-round : (u a : ℕ) → 1 ≤ distance u a → distance u a + distance a u ≡ psns
distance-round u a e = omega (arith, distance_is u a, distance_is a u)

pub before-irreflexive : (u a : ℕ) → before u a a ≡ false
before-irreflexive u a = le-ltb (distance u a) (distance u a) (omega arith)

pub before-transitive : (u a b c : ℕ) → before u a b ≡ true → before u b c ≡ true → before u a c ≡ true
before-transitive u a b c p q =
    lt-ltb (distance u a) (distance u c)
    (omega (arith, ltb-true (distance u a) (distance u b) p, ltb-true (distance u b) (distance u c) q))

-- of two numbers below 2^24 one is before the other, or they are one
pub before-total : (u a b : ℕ) → a < psns → b < psns → before u a b ≡ false → before u b a ≡ false → a ≡ b
before-total u a b h l p q =
    distance-inj u a b h l
    (omega (arith, ltb-false (distance u a) (distance u b) p, ltb-false (distance u b) (distance u a) q))

-- what follows is after, up to a whole round
pub before-next : (u a : ℕ) → distance u a + 1 < psns → before u a (next a) ≡ true
before-next u a h = lt-ltb (distance u a) (distance u (next a)) (omega (arith, distance-step u a 1 h))
