-- What no refusal tells: each line of the table fails. Assumes nothing.
use mathlib.Core.Path.{◌≡◌, refl, ap}
use mathlib.Core.Bool.{false, true≢false}
use mathlib.Core.List.{List, [], ◌∷◌}
use Rattle.std.specs.Prelude.{Option, None, Some, is_some, Ok, Err, is_ok}
use Rattle.refusal.specs.declared.Refusal.{Refusal}
use Rattle.refusal.specs.Choice.{Each}
use Rattle.refusal.specs.Refusals.{Row, first_given}
use Rattle.refusal.proofs.Cases.{by-test}

abbrev pub NoneHolds : List Row → Type 0
NoneHolds ls = Each (λ (l : Row). l.holds ≡ false) ls

-- what is there is not none
pub some-not-none {ℓ} : {A : Type 0} {P : Type ℓ} {x : A} → Some x ≡ None → P
some-not-none e = absurd (true≢false (ap is_some e))

-- what went well is no error
pub ok-not-err {ℓ} : {A B : Type 0} {P : Type ℓ} {x : A} {y : B} → Ok x ≡ Err y → P
ok-not-err e = absurd (true≢false (ap is_ok e))

-- a refusal, or none
pub by-given {ℓ} : {P : Type ℓ} (o : Option Refusal) → (o ≡ None → P) → ((r : Refusal) → o ≡ Some r → P) → P
by-given None f g = f refl
by-given (Some r) f g = g r refl

-- where none comes out, none holds
pub none-given : (ls : List Row) → first_given ls ≡ None → NoneHolds ls
none-given [] e = tt
none-given (l ∷ ls) e =
    by-test l.holds
    (λ h. some-not-none (rw h at e))
    (λ h. (h, none-given ls (rw h at e)))
