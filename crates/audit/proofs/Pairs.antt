-- The loop over the pairs: a pair's turn brings to the tally what the definition brings, so the loop's tally is the definition's.
use Rattle.std.specs.Prelude.{Option, None, Some, is_some, if◌then◌else◌}
use Rattle.std.specs.Option.{option_map}
use mathlib.Core.Path.{◌≡◌, refl, sym, ap, ◌∙◌}
use mathlib.Core.Bool.{Bool, true, false, true≢false, false≢true}
use mathlib.Core.List.{List, map}
use Prim.Native.Nat.{ℕ, zero, suc, ◌+◌, ◌-◌, ◌≤◌, ◌<◌}
use native.Mathlib.Omega.{arith}
use lib.Dec.{leb, eqb}
use borrow.Author.Tests.{leb-false, eqb-true}
use lib.ListN.{length, drop}
use Rattle.refusal.proofs.Cases.{by-test, if-case}
use Rattle.rules.specs.declared.Pair.{Pair}
use Rattle.rules.specs.declared.Slot.{Slot}
use Rattle.rules.specs.declared.Standing.{Standing}
use Rattle.rules.specs.declared.carried.Tally.{Tally}
use Rattle.rules.specs.declared.carried.Walk.{Walk}
use Rattle.rules.specs.Card.{small}
use Rattle.rules.specs.Slots.{pair_at}
use Rattle.rules.specs.Passes.Queue.{walk_from, walked, walk_ends, queue_passes}
use Rattle.rules.specs.Passes.Record.{record_passes}
use Rattle.rules.specs.Passes.Tables.{Entry, claim_by, pair_passes, entry_of, tally_step, tallied}
use Rattle.rules.specs.Passes.Tests.{◌and◌}
use Rattle.rules.proofs.Passes.Tests.{both, joined}
use Rattle.rules.proofs.Passes.Tally.{none-stays}
use Rattle.rules.proofs.Passes.Loops.{tally-turn, tally-last}
use Rattle.rules.proofs.Passes.Stop.{and-fails, not-passed, too_many, too_much}
use Rattle.message.specs.Capped.{tidy}
use Rattle.message.proofs.Cuts.{tidy-same}
use Rattle.refusal.proofs.Loop.{loop-done, loop-more}
use Rattle.audit.specs.Loops.{follow, audit_turn, audit_pairs}
use Rattle.audit.specs.Steps.{next_pair, walkable, open_queue, walked_entry}
use Rattle.audit.specs.declared.Following.{Following}
use Rattle.audit.specs.declared.Auditing.{Auditing}
use Rattle.audit.proofs.Both.{true_first}
use Rattle.audit.proofs.Ready.{ready-settings}
use Rattle.audit.proofs.Walks.{follow-is}

-- ---- one pair

-- the walk of a pair whose record passes: its settings are in range, or it holds none
pub tidy-walk : (s : List Slot) (t : Standing) (held : ℕ) (w : Walk) → record_passes small t held ≡ true → walked (tidy t) s w held ≡ walked t s w held
unfolding record_passes
tidy-walk s t held w e =
    by-test (eqb t.state 1)
    (λ q. ap (λ (x : Standing). walked x s w held) (tidy-same t (ready-settings t held e (eqb-true t.state 1 q))))
    (λ q. let z = eqb-true held 0 (rw q at (both (both e).1).1) in ap (walked (tidy t) s w) z ∙ ap (walked t s w) (sym z))

module _ (s : List Slot) (size : length s ≡ small.slots) (v : Auditing) (p : Pair) where
  abbrev start : Walk
  start = walk_from small.none p.queue

  recorded : (t : Option Tally) → walkable t p ≡ true → record_passes small p.standing p.queue.held ≡ true
  recorded None e = absurd (false≢true e)
  recorded (Some t) e = (both e).0

  abbrev opened : Following
  opened = record { left = p.queue.held; standing = p.standing; walk = start }

  -- what a pair brings that is walked, or is not
  abbrev brought : Bool → Entry
  brought b = walked_entry p (option_map (follow s) (if b then Some opened else None))

  walked-pair : walkable v.tally p ≡ true → brought (walkable v.tally p) ≡ entry_of small s p
  unfolding pair_passes queue_passes
  walked-pair e =
      ap brought e
      ∙ ap (λ (w : Following). walked_entry p (Some w)) (follow-is s size opened)
      ∙ (λ j. record { passed = same j; queue = p.queue; claim = claim_by p })
    where
      passes : record_passes small p.standing p.queue.held ≡ true
      passes = recorded v.tally e

      same : walk_ends small.none p.standing p.queue (walked (tidy p.standing) s start p.queue.held) ≡ pair_passes small s p
      same =
          sym (true_first _)
          ∙ (λ j. sym passes j and walk_ends small.none p.standing p.queue (tidy-walk s p.standing p.queue.held start passes j))

  unwalked-pair : (t : Option Tally) → walkable t p ≡ false → tally_step small.slots t (entry_of small s p) ≡ None
  unfolding pair_passes
  unwalked-pair None e = refl
  unwalked-pair (Some t) e =
      let x = entry_of small s p in
      by-test (record_passes small p.standing p.queue.held)
      (λ a.
      by-test (leb (t.held + p.queue.held) small.slots)
      (λ b.
      by-test (leb (t.claimed + claim_by p) small.slots)
      (λ c. absurd (true≢false (sym (joined a (joined b c)) ∙ e)))
      (λ c. too_much small.slots t x (leb-false (t.claimed + claim_by p) small.slots c)))
      (λ b. too_many small.slots t x (leb-false (t.held + p.queue.held) small.slots b)))
      (λ a. not-passed small.slots (Some t) x (and-fails _ _ a))

  pub entry-is : tally_step small.slots v.tally (walked_entry p (option_map (follow s) (open_queue v p))) ≡ tally_step small.slots v.tally (entry_of small s p)
  entry-is =
      by-test (walkable v.tally p)
      (λ e. ap (tally_step small.slots v.tally) (walked-pair e))
      (λ e.
      ap (λ (b : Bool). tally_step small.slots v.tally (brought b)) e
      ∙ not-passed small.slots v.tally (brought false) refl
      ∙ sym (unwalked-pair v.tally e))

absent : {A : Type 0} (o : Option A) → is_some o ≡ false → o ≡ None
absent None e = refl
absent (Some x) e = absurd (true≢false e)

-- ---- all pairs

module _ (ps : List Pair) (s : List Slot) where
  pub join-less : (v : Auditing) → 0 < v.left → (audit_turn ps s v).left < v.left
  join-less v l = if-case (λ (n : ℕ). n < v.left) (is_some (audit_turn ps s v).tally) {a = v.left - 1} {b = 0} (λ _. omega (arith, l)) (λ _. l)

  pub pairs-done : (v : Auditing) → v.left ≡ 0 → audit_pairs ps s v ≡ v
  pairs-done v e = loop-done (λ (x : Auditing). x.left) (audit_turn ps s) join-less v e

  pub pairs-more : (v : Auditing) → 0 < v.left → audit_pairs ps s v ≡ audit_pairs ps s (audit_turn ps s v)
  pairs-more v l = loop-more (λ (x : Auditing). x.left) (audit_turn ps s) join-less v l

module _ (ps : List Pair) (s : List Slot) (many : length ps ≡ small.pairs) (size : length s ≡ small.slots) where
  -- the tally after the pairs from number k on
  abbrev after : ℕ → Option Tally → Option Tally
  after k t = tallied small.slots t (map (entry_of small s) (drop k ps))

  -- a turn, and whether another comes
  turned : (v : Auditing) → 0 < v.left → v.left ≤ small.pairs → after (next_pair v) v.tally ≡ after (suc (next_pair v)) (audit_turn ps s v).tally
  turned v some l =
      tally-turn small.slots (entry_of small s) v.tally ps (next_pair v) (omega (arith, some, l, many))
      ∙ ap (after (suc (next_pair v))) (sym (entry-is s size v (pair_at ps (next_pair v))))

  stopped : (v : Auditing) (k : ℕ) → is_some (audit_turn ps s v).tally ≡ false → (audit_pairs ps s (audit_turn ps s v)).tally ≡ after k (audit_turn ps s v).tally
  stopped v k q =
      let lost = absent (audit_turn ps s v).tally q in
      ap (λ (x : Auditing). x.tally) (pairs-done ps s (audit_turn ps s v) (ap (λ (b : Bool). if b then v.left - 1 else 0) q))
      ∙ lost
      ∙ sym (none-stays small.slots (map (entry_of small s) (drop k ps)))
      ∙ ap (after k) (sym lost)

  -- the loop's tally is the definition's, from any pair on
  pub pairs_is : (v : Auditing) → v.left ≤ small.pairs → (audit_pairs ps s v).tally ≡ after (next_pair v) v.tally
  pairs_is v l = go v.left v refl l
    where
      go : (n : ℕ) (v : Auditing) → v.left ≡ n → v.left ≤ small.pairs → (audit_pairs ps s v).tally ≡ after (next_pair v) v.tally
      go zero v e l =
          let end : length ps ≡ next_pair v = omega (arith, many, e) in
          ap (λ (x : Auditing). x.tally) (pairs-done ps s v e)
          ∙ sym (tally-last small.slots (entry_of small s) v.tally ps)
          ∙ ap (λ (k : ℕ). after k v.tally) end
      go (suc n) v e l =
          let some : 0 < v.left = omega (arith, e) in
          let next = audit_turn ps s v in
          ap (λ (x : Auditing). x.tally) (pairs-more ps s v some)
          ∙ by-test (is_some next.tally)
          (λ q.
          let fewer : next.left ≡ v.left - 1 = ap (λ (b : Bool). if b then v.left - 1 else 0) q in
          let on : next_pair next ≡ suc (next_pair v) = omega (arith, fewer, some, l) in
          go n next (omega (arith, fewer, e)) (omega (arith, fewer, l)) ∙ ap (λ (k : ℕ). after k next.tally) on)
          (stopped v (suc (next_pair v)))
          ∙ sym (turned v some l)
