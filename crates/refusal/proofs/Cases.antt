-- Proofs by the two outcomes of a test. Assumes nothing.
use Rattle.std.specs.Prelude.{if◌then◌else◌}
use mathlib.Core.Path.{◌≡◌, refl}
use mathlib.Core.Bool.{Bool, true, false, ◌&&◌, ◌||◌, false≢true, true≢false}

-- each outcome with its equation
pub by-test {ℓ} : {P : Type ℓ} (t : Bool) → (t ≡ true → P) → (t ≡ false → P) → P
by-test true f g = f refl
by-test false f g = g refl

-- of a choice
pub if-case {κ} : {A : Type 0} (P : A → Type κ) (t : Bool) {a b : A} → (t ≡ true → P a) → (t ≡ false → P b) → P (if t then a else b)
if-case P true f g = f refl
if-case P false f g = g refl

-- no test is both
pub not-both {ℓ} : {P : Type ℓ} (t : Bool) → t ≡ true → t ≡ false → P
not-both true e f = absurd (true≢false f)
not-both false e f = absurd (false≢true e)

-- where one of two fails, both do
pub or_left : (s t : Bool) → s || t ≡ false → s ≡ false
or_left true t e = e
or_left false t e = refl

pub or_right : (s t : Bool) → s || t ≡ false → t ≡ false
or_right true t e = absurd (true≢false e)
or_right false t e = e

pub or-any : (t : Bool) → t || true ≡ true
or-any true = refl
or-any false = refl

pub or-none : (t : Bool) → t || false ≡ t
or-none true = refl
or-none false = refl

-- where both of two hold, each does
pub and_left : (s t : Bool) → s && t ≡ true → s ≡ true
and_left true t e = refl
and_left false t e = e

pub and_right : (s t : Bool) → s && t ≡ true → t ≡ true
and_right true t e = e
and_right false t e = absurd (false≢true e)

pub and_none : (t : Bool) → t && false ≡ false
and_none true = refl
and_none false = refl
