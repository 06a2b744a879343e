-- The steps along the tables answer exactly whether the audit holds, and how many slots the open pairs claim.
use Rattle.std.specs.Prelude.{Option, None, Some, is_some, if◌then◌else◌}
use Rattle.std.specs.Option.{option_map}
use mathlib.Core.Path.{◌≡◌, refl, sym, ap, ◌∙◌}
use mathlib.Core.Bool.{Bool, true, false}
use mathlib.Core.Logic.{◌↔◌}
use Prim.Native.Nat.{ℕ}
use native.Mathlib.Omega.{arith}
use lib.Dec.{eqb}
use borrow.Author.Tests.{eqb-true, eq-eqb}
use lib.ListN.{length}
use Rattle.refusal.proofs.Cases.{by-test}
use Rattle.rules.specs.declared.carried.Tally.{Tally}
use Rattle.rules.specs.Card.{small}
use Rattle.rules.specs.Slots.{Tables, sides}
use Rattle.rules.specs.Pool.{claimed, claims}
use Rattle.rules.specs.Audit.{Audit}
use Rattle.rules.specs.Passes.Links.{links_pass}
use Rattle.rules.specs.Passes.Tables.{tally_from, tallied, pairs_tally, free_step, whole_tally, passes}
use Rattle.rules.specs.Passes.Tests.{◌and◌}
use Rattle.rules.proofs.Passes.Tests.{both, joined}
use Rattle.rules.proofs.Passes.Bits.{none-room}
use Rattle.rules.proofs.Passes.Tally.{counted}
use Rattle.rules.proofs.Passes.Decided.{there, entries, asked-all, start, whole_is, decided}
use Rattle.audit.specs.Loops.{trace, audit_pairs, audited}
use Rattle.audit.specs.Steps.{begin_audit, open_free, join_free}
use Rattle.audit.specs.declared.Auditing.{Auditing}
use Rattle.audit.proofs.Walks.{traced, trace-is}
use Rattle.audit.proofs.Pairs.{pairs-done, pairs_is}

-- what is said of a tally
abbrev answer : Option Tally → Option ℕ
answer w = option_map (λ x. x.claimed) w

answers : (w : Option Tally) → is_some (answer w) ≡ is_some w
answers None = refl
answers (Some x) = refl

-- before the first pair, by the tables' lengths
abbrev full : Auditing
full = record { left = small.pairs; tally = tally_from small.slots }

abbrev empty : Auditing
empty = record { left = 0; tally = None }

module _ (t : Tables) where
  abbrev finished : Auditing → Option ℕ
  finished v = join_free v t.ends (trace t.slots (open_free v t.ends))

  -- the free queue's turn is the definition's
  free-is : length t.slots ≡ small.slots → (v : Auditing) → finished v ≡ answer (free_step small t v.tally)
  unfolding links_pass
  free-is size v = ap (join_free v t.ends) (trace-is t.slots size (open_free v t.ends)) ∙ go v.tally
    where
      go : (w : Option Tally) → join_free (record { left = v.left; tally = w }) t.ends (traced t.slots size (open_free (record { left = v.left; tally = w }) t.ends)) ≡ answer (free_step small t w)
      go None = refl
      go (Some w) = refl

  whole : length t.pairs ≡ small.pairs → length t.slots ≡ small.slots → audited t ≡ answer (whole_tally small t)
  unfolding audited
  whole np ns = free-is ns run ∙ ap (λ (w : Option Tally). answer (free_step small t w)) tally
    where
      run : Auditing
      run = audit_pairs t.pairs t.slots (begin_audit (length t.pairs) (length t.slots))

      tally : run.tally ≡ pairs_tally small t
      tally =
          ap (λ (b : Bool). (audit_pairs t.pairs t.slots (if b then full else empty)).tally)
          (joined (eq-eqb (length t.pairs) small.pairs np) (eq-eqb (length t.slots) small.slots ns))
          ∙ pairs_is t.pairs t.slots np ns full (omega arith)

  -- other lengths: no record is looked at
  misfit : (eqb (length t.pairs) small.pairs and eqb (length t.slots) small.slots) ≡ false → is_some (audited t) ≡ false
  unfolding audited
  misfit e =
      ap (λ (b : Bool). is_some (finished (audit_pairs t.pairs t.slots (if b then full else empty)))) e
      ∙ ap (λ (v : Auditing). is_some (finished v)) (pairs-done t.pairs t.slots empty refl)

  sized : passes small t ≡ true → (length t.pairs ≡ small.pairs) × (length t.slots ≡ small.slots)
  unfolding passes
  sized e = (eqb-true (length t.pairs) small.pairs (both e).0, eqb-true (length t.slots) small.slots (both (both e).1).0)

  -- "The audit passes exactly if"
  pub audited-is : is_some (audited t) ≡ passes small t
  unfolding passes ◌and◌
  audited-is =
      let np = length t.pairs in
      let ns = length t.slots in
      let ok = is_some (whole_tally small t) in
      by-test (eqb np small.pairs)
      (λ a.
      by-test (eqb ns small.slots)
      (λ b.
      ap is_some (whole (eqb-true np small.pairs a) (eqb-true ns small.slots b)) ∙ answers (whole_tally small t) ∙ (λ j. sym a j and sym b j and ok))
      (λ b. misfit (λ j. a j and b j) ∙ (λ j. sym a j and sym b j and ok)))
      (λ a. misfit (λ j. a j and eqb ns small.slots) ∙ (λ j. sym a j and eqb ns small.slots and ok))

  pub decided-by-code : is_some (audited t) ≡ true ↔ Audit small t
  decided-by-code = (λ e. (decided small t).0 (sym audited-is ∙ e), λ a. audited-is ∙ (decided small t).1 a)

  pub claimed-is : is_some (audited t) ≡ true → audited t ≡ Some (claimed (claims (sides t)))
  unfolding passes
  claimed-is e =
      let p = sym audited-is ∙ e in
      let n = sized p in
      let ok = (both (both p).1).1 in
      let all = whole_is small t n.1 in
      let end = there (tallied small.slots (tally_from small.slots) (entries small t)) (ap is_some (sym all) ∙ ok) in
      whole n.0 n.1
      ∙ ap answer (all ∙ end.1)
      ∙ ap Some
      ((counted small.slots (start small t) end.0 (entries small t) (none-room small.slots) end.1).claimed
      ∙ omega arith
      ∙ asked-all small t)
