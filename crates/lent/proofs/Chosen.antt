-- What a choice comes to where its test is known. Assumes nothing.
use Rattle.std.specs.Prelude.{if◌then◌else◌}
use mathlib.Core.Path.{◌≡◌, refl}
use mathlib.Core.Bool.{Bool, true, false, not}
use lib.Dec.{T as Holds}

pub chosen : {X : Type 0} (t : Bool) (x y : X) → Holds t → (if t then x else y) ≡ x
chosen true x y h = refl
chosen false x y h = absurd h

pub passed_over : {X : Type 0} (t : Bool) (x y : X) → Holds (not t) → (if t then x else y) ≡ y
passed_over true x y h = absurd h
passed_over false x y h = refl
