-- Each byte leaves fewer bytes.
use mathlib.Core.List.{List}
use Prim.Native.Nat.{ℕ, ◌-◌, ◌<◌}
use native.Mathlib.Omega.{arith}
use lib.Dec.{ltb}
use lib.ListN.{get_or}
use Rattle.refusal.proofs.Cases.{if-case}
use Rattle.replay.specs.declared.desk.Desk.{Desk}
use Rattle.replay.specs.Kept.{half, is_end}
use Rattle.replay.specs.Serving.{answered, kept_in, fed}

-- a line's end takes a byte as well, and all that is left where many answers wait
answered_less : (d : Desk) → 0 < d.place.left → (answered d).place.left < d.place.left
unfolding answered
answered_less d l =
    if-case (λ (n : ℕ). n < d.place.left) (ltb half (answered d).place.at) {a = 0} {b = d.place.left - 1} (λ m. l) (λ m. omega (arith, l))

pub fed-less : (input : List ℕ) (d : Desk) → 0 < d.place.left → (fed input d).place.left < d.place.left
fed-less input d l =
    let b = get_or input d.place.from 0 in
    if-case (λ (x : Desk). x.place.left < d.place.left) (is_end b) {a = answered d} {b = kept_in b d} (λ e. answered_less d l) (λ e. omega (arith, l))
