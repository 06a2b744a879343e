-- A ready pair's record: its bounds, then its times; and what the bounds say of its settings.
use Rattle.std.specs.Prelude.{if◌then◌else◌}
use mathlib.Core.Path.{◌≡◌, refl, ap, ◌∙◌}
use mathlib.Core.Bool.{Bool, true, false}
use Prim.Native.Nat.{ℕ}
use lib.Dec.{leb, eqb}
use borrow.Author.Tests.{not-true}
use Rattle.refusal.proofs.Cases.{by-test, not-both}
use Rattle.rules.specs.declared.Standing.{Standing}
use Rattle.rules.specs.Card.{small}
use Rattle.rules.specs.Ranges.{bad_settings}
use Rattle.rules.specs.Passes.Record.{bound_tests, timed_tests, record_passes}
use Rattle.rules.specs.Passes.Tests.{◌and◌, all_of}
use Rattle.rules.proofs.Passes.Tests.{all_hold}

module _ (t : Standing) (held : ℕ) where
  abbrev bounds : Bool
  bounds = all_of (bound_tests small t held)

  abbrev times : Bool
  times = all_of (timed_tests t)

  pub ready-record : t.state ≡ 1 → record_passes small t held ≡ (if bounds then times else false)
  unfolding record_passes ◌and◌
  ready-record e =
      ap (λ (n : ℕ). leb n 2 and (if eqb n 0 then true else bounds) and (if eqb n 1 then times else eqb held 0)) e ∙ go bounds times
    where
      go : (a b : Bool) → a and b ≡ (if a then b else false)
      go true b = refl
      go false b = refl

  pub bound-settings : bounds ≡ true → bad_settings small t.settings ≡ false
  bound-settings e = not-true (bad_settings small t.settings) (all_hold (bound_tests small t held) e).0

  pub ready-settings : record_passes small t held ≡ true → t.state ≡ 1 → bad_settings small t.settings ≡ false
  ready-settings e q =
      by-test bounds bound-settings
      (λ f. not-both (record_passes small t held) e (ready-record q ∙ ap (λ (b : Bool). if b then times else false) f))
