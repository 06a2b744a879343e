-- The tally over all queues passes exactly if each passed, the last slots of those that hold something differ, and the counts add up.
use Rattle.std.specs.Prelude.{Option, None, Some, is_some, if◌then◌else◌}
use mathlib.Core.Path.{◌≡◌, refl, sym, ap, ◌∙◌}
use mathlib.Core.Logic.{◌≢◌}
use mathlib.Core.Bool.{Bool, true, false, false≢true}
use mathlib.Core.List.{List, [], ◌∷◌, ◌++◌}
use Prim.Native.Nat.{ℕ, ◌+◌, ◌*◌, ◌≤◌, ◌<◌}
use native.Mathlib.Omega.{arith}
use lib.Dec.{eqb}
use borrow.Author.Tests.{ltb-true, eqb-true, eqb-false, eq-eqb, ne_eqb, lt-ltb, leb-true, le-leb, not-true}
use lib.ListN.{length}
use Rattle.refusal.proofs.Each.{each-so, each_both}
use Rattle.rules.specs.declared.carried.Tally.{Tally}
use Rattle.refusal.specs.Choice.{Each}
use Rattle.rules.specs.Passes.Tables.{has, put, Entry, add_claim, add_queue, is_new, tally_fits, tally_step, tallied}
use Rattle.std.proofs.lemmas.Option.{same_Some}
use Rattle.refusal.proofs.Cases.{by-test}
use Rattle.refusal.proofs.Given.{some-not-none}
use Rattle.rules.proofs.Passes.Tests.{both, joined}
use Rattle.rules.proofs.Passes.Bits.{has-put-same, has-put-other, length-put}

abbrev pub Passed : Entry → Type 0
Passed e = e.passed ≡ true

-- no other than z is its last
abbrev pub NotLast : ℕ → Entry → Type 0
NotLast z e = 0 < e.queue.held → z ≢ e.queue.last

abbrev pub Differ : List Entry → Type 0
Differ [] = Unit {0}
Differ (e ∷ es) = (0 < e.queue.held → Each (NotLast e.queue.last) es) × Differ es

-- what they hold together, and what they claim
abbrev pub total : List Entry → ℕ
total [] = 0
total (e ∷ es) = e.queue.held + total es

abbrev pub asked : List Entry → ℕ
asked [] = 0
asked (e ∷ es) = e.claim + asked es

module _ (slots : ℕ) where
  -- its last slot is in the table and not in the set
  abbrev pub New : List ℕ → Entry → Type 0
  New m e = 0 < e.queue.held → (e.queue.last < slots) × (has m e.queue.last ≡ false)

  pub none-stays : (es : List Entry) → tallied slots None es ≡ None
  none-stays [] = refl
  none-stays (e ∷ es) = none-stays es

  kept : (b : Bool) (o : Option Tally) (end : Tally) (es : List Entry) → tallied slots (if b then o else None) es ≡ Some end
      → (b ≡ true) × (tallied slots o es ≡ Some end)
  kept true o end es e = (refl, e)
  kept false o end es e = some-not-none (sym e ∙ none-stays es)

  -- the set after z is put in
  new-before : (m : List ℕ) (z : ℕ) → z < slots → slots ≤ 64 * length m → has m z ≡ false → (e : Entry) → New (put m z) e → New m e
  new-before m z l big h e n k =
      let a = n k in
      (a.0, sym (has-put-other m z e.queue.last (omega arith) h (λ q. false≢true (sym (rw q at a.1) ∙ has-put-same m z (omega arith) h))) ∙ a.1)

  new-other : (m : List ℕ) (z : ℕ) → z < slots → slots ≤ 64 * length m → has m z ≡ false → (e : Entry) → New (put m z) e → NotLast z e
  new-other m z l big h e n k q = false≢true (sym (rw (← q) at (n k).1) ∙ has-put-same m z (omega arith) h)

  new-after : (m : List ℕ) (z : ℕ) → z < slots → slots ≤ 64 * length m → has m z ≡ false → (e : Entry) → New m e → NotLast z e → New (put m z) e
  new-after m z l big h e n d k =
      ((n k).0, has-put-other m z e.queue.last (omega arith) h (λ q. d k (sym q)) ∙ (n k).1)

  pub record Counted (t end : Tally) (es : List Entry) : Type 0 where
    pub passed : Each Passed es
    pub new : Each (New t.words) es
    pub differ : Differ es
    pub held : end.held ≡ t.held + total es
    pub claimed : end.claimed ≡ t.claimed + asked es
    pub room : t.held ≤ slots → t.held + total es ≤ slots
    pub shares : t.claimed ≤ slots → t.claimed + asked es ≤ slots

  module _ (t : Tally) (e : Entry) (fits : tally_fits slots t e ≡ true) where
    step-none : e.queue.held ≡ 0 → tally_step slots (Some t) e ≡ Some (add_claim t e)
    step-none z = rw (fits, eq-eqb e.queue.held 0 z)

    step-some : 0 < e.queue.held → tally_step slots (Some t) e ≡ (if is_new slots t.words e.queue then Some (add_queue t e) else None)
    step-some h = rw (fits, ne_eqb e.queue.held 0 (λ z. omega (arith, z, h)))

  pub counted : (t end : Tally) (es : List Entry) → slots ≤ 64 * length t.words → tallied slots (Some t) es ≡ Some end → Counted t end es
  counted t end [] big r =
      let q = same_Some t end r in
      record {
        passed = tt;
        new = tt;
        differ = tt;
        held = omega (arith, ap (λ (x : Tally). x.held) q);
        claimed = omega (arith, ap (λ (x : Tally). x.claimed) q);
        room = λ h. omega (arith, h);
        shares = λ h. omega (arith, h);
      }
  counted t end (e ∷ es) big r =
      by-test (eqb e.queue.held 0)
      (λ z.
      let h = eqb-true e.queue.held 0 z in
      none h (counted (add_claim t e) end es big (sym (ap (λ (x : Option Tally). tallied slots x es) (step-none t e fits h)) ∙ r)))
      (λ z.
      let h : 0 < e.queue.held = omega (arith, eqb-false e.queue.held 0 z) in
      let n = kept (is_new slots t.words e.queue) (Some (add_queue t e)) end es (sym (ap (λ (x : Option Tally). tallied slots x es) (step-some t e fits h)) ∙ r) in
      some h n.0 (counted (add_queue t e) end es (rw length-put big) n.1))
    where
      fits : tally_fits slots t e ≡ true
      fits = (kept (tally_fits slots t e) _ end es r).0

      room : t.held + e.queue.held ≤ slots
      room = leb-true (t.held + e.queue.held) slots (both (both fits).1).0

      shares : t.claimed + e.claim ≤ slots
      shares = leb-true (t.claimed + e.claim) slots (both (both fits).1).1

      none : e.queue.held ≡ 0 → Counted (add_claim t e) end es → Counted t end (e ∷ es)
      none z c =
          record {
            passed = ((both fits).0, c.passed);
            new = (λ h. absurd (omega (arith, z, h)), c.new);
            differ = (λ h. absurd (omega (arith, z, h)), c.differ);
            held = c.held ∙ omega (arith, z);
            claimed = c.claimed ∙ omega arith;
            room = λ h. omega (arith, c.room h, z);
            shares = λ _. omega (arith, c.shares shares);
          }

      some : 0 < e.queue.held → is_new slots t.words e.queue ≡ true → Counted (add_queue t e) end es → Counted t end (e ∷ es)
      some h n c =
          let z = e.queue.last in
          let l = ltb-true e.queue.last slots (both n).0 in
          let out = not-true (has t.words e.queue.last) (both n).1 in
          record {
            passed = ((both fits).0, c.passed);
            new = (λ _. (l, out), each-so (New (put t.words z)) (New t.words) (new-before t.words z l big out) es c.new);
            differ = (λ _. each-so (New (put t.words z)) (NotLast z) (new-other t.words z l big out) es c.new, c.differ);
            held = c.held ∙ omega arith;
            claimed = c.claimed ∙ omega arith;
            room = λ _. omega (arith, c.room room);
            shares = λ _. omega (arith, c.shares shares);
          }

  pub adds : (t : Tally) (es : List Entry) → slots ≤ 64 * length t.words
      → Each Passed es → Each (New t.words) es → Differ es → t.held + total es ≤ slots → t.claimed + asked es ≤ slots → is_some (tallied slots (Some t) es) ≡ true
  adds t [] big p n d l c = refl
  adds t (e ∷ es) big p n d l c =
      by-test (eqb e.queue.held 0)
      (λ z.
      let h = eqb-true e.queue.held 0 z in
      ap (λ (x : Option Tally). is_some (tallied slots x es)) (step-none t e fits h)
      ∙ adds (add_claim t e) es big p.1 n.1 d.1 (omega (arith, l)) (omega (arith, c)))
      (λ z.
      let h : 0 < e.queue.held = omega (arith, eqb-false e.queue.held 0 z) in
      let b = n.0 h in
      ap (λ (x : Option Tally). is_some (tallied slots x es)) (step-some t e fits h ∙ rw (new h))
      ∙ adds (add_queue t e) es (rw length-put big) p.1
      (each_both (New t.words) (NotLast e.queue.last) (New (put t.words e.queue.last)) (new-after t.words e.queue.last b.0 big b.1) es n.1 (d.0 h))
      d.1 (omega (arith, l)) (omega (arith, c)))
    where
      fits : tally_fits slots t e ≡ true
      fits =
          joined p.0 (joined (le-leb (t.held + e.queue.held) slots (omega (arith, l))) (le-leb (t.claimed + e.claim) slots (omega (arith, c))))

      new : 0 < e.queue.held → is_new slots t.words e.queue ≡ true
      new h = joined (lt-ltb e.queue.last slots (n.0 h).0) (rw (n.0 h).1)

  -- one queue more
  pub tally-more : (t : Option Tally) (es : List Entry) (e : Entry) → tallied slots t (es ++ (e ∷ [])) ≡ tally_step slots (tallied slots t es) e
  tally-more t [] e = refl
  tally-more t (x ∷ es) e = tally-more (tally_step slots t x) es e
