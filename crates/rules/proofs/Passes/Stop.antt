-- Where a queue need not be walked: its pair fails whatever the walk would find.
use Rattle.std.specs.Prelude.{Option, None, Some}
use mathlib.Core.Path.{refl, ◌≡◌, sym, ◌∙◌}
use mathlib.Core.Bool.{Bool, false, false≢true}
use Prim.Native.Nat.{ℕ, ◌+◌, ◌<◌}
use lib.Dec.{leb}
use borrow.Author.Tests.{lt-leb}
use Rattle.rules.specs.declared.carried.Tally.{Tally}
use Rattle.rules.specs.Passes.Tables.{Entry, tally_fits, tally_step}
use Rattle.rules.specs.Passes.Tests.{◌and◌}
use Rattle.refusal.proofs.Cases.{by-test}
use Rattle.rules.proofs.Passes.Tests.{both}

pub and-fails : (a b : Bool) → a ≡ false → a and b ≡ false
and-fails a b e = by-test (a and b) (λ t. absurd (false≢true (sym e ∙ (both t).0))) (λ t. t)

not_right : (a b : Bool) → b ≡ false → a and b ≡ false
not_right a b e = by-test (a and b) (λ t. absurd (false≢true (sym e ∙ (both t).1))) (λ t. t)

module _ (slots : ℕ) where
  -- what does not fit fails, whatever else was to be looked at
  unfit : (t : Tally) (e : Entry) → tally_fits slots t e ≡ false → tally_step slots (Some t) e ≡ None
  unfit t e r = rw r

  -- a pair whose record fails, so that its queue need not be walked
  pub not-passed : (t : Option Tally) (e : Entry) → e.passed ≡ false → tally_step slots t e ≡ None
  not-passed None e r = refl
  not-passed (Some t) e r = unfit t e (and-fails e.passed _ r)

  -- a queue that holds more than is left of the table need not be walked
  pub too_many : (t : Tally) (e : Entry) → slots < t.held + e.queue.held → tally_step slots (Some t) e ≡ None
  too_many t e h =
      unfit t e (not_right e.passed _ (and-fails (leb (t.held + e.queue.held) slots) _ (lt-leb (t.held + e.queue.held) slots h)))

  -- nor one whose pair claims more than is left
  pub too_much : (t : Tally) (e : Entry) → slots < t.claimed + e.claim → tally_step slots (Some t) e ≡ None
  too_much t e h =
      unfit t e (not_right e.passed _ (not_right (leb (t.held + e.queue.held) slots) (leb (t.claimed + e.claim) slots) (lt-leb (t.claimed + e.claim) slots h)))
