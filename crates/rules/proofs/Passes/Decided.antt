-- The test gives the audit's answer, for any number of pairs and slots.
use Rattle.std.specs.Prelude.{Option, None, Some, is_some}
use mathlib.Core.Path.{◌≡◌, refl, sym, ap, ◌∙◌, subst}
use mathlib.Core.Bool.{true, false≢true}
use mathlib.Core.Logic.{◌↔◌}
use mathlib.Core.List.{List, [], ◌∷◌, ◌++◌, map}
use Prim.Native.Nat.{ℕ, zero, suc, ◌+◌, ◌-◌, ◌<◌, suc-le-suc}
use native.Mathlib.Omega.{arith}
use native.Mathlib.Nat.{not-suc-le-zero, le_of_suc-le-suc}
use lib.Dec.{eqb}
use borrow.Author.Tests.{eqb-true, eq-eqb}
use lib.ListN.{length}
use Rattle.refusal.specs.Choice.{Each}
use Rattle.refusal.proofs.Each.{each_append, each-so}
use Rattle.refusal.proofs.Cases.{by-test}
use Rattle.rules.specs.declared.Pair.{Pair}
use Rattle.rules.specs.declared.Queue.{Queue}
use Rattle.rules.specs.declared.Slot.{Slot}
use Rattle.rules.specs.declared.carried.Tally.{Tally}
use Rattle.rules.specs.Card.{Card}
use Rattle.rules.specs.Slots.{Tables, pair_at, spelled, times, concat, queues, held_by, free_record, free, side_of, side, sides, Below}
use Rattle.rules.specs.Pool.{claimed, claims}
use Rattle.rules.specs.Audit.{Audit}
use Rattle.rules.specs.Passes.Links.{links_pass}
use Rattle.rules.specs.Passes.Tables.{none_of, Entry, claim_by, entry_of, tally_from, tally_step, tallied, leftover, pairs_tally, free_step, whole_tally, passes}
use Rattle.rules.proofs.Sides.InOrder.{ordered, audited-order}
use Rattle.rules.proofs.Slots.Links.{times-append}
use Rattle.rules.proofs.Slots.Queues.{length-follow, all_slots}
use Rattle.rules.proofs.Slots.Disjoint.{once-of}
use Rattle.rules.proofs.Sides.Good.{Good}
use Rattle.rules.proofs.Calls.Moves.{idle-side}
use Rattle.rules.proofs.Sides.Fits.{claim_of_pair, claims-of, held-is}
use Rattle.rules.proofs.Passes.Tests.{both, joined}
use Rattle.rules.proofs.Passes.Links.{spells-passes}
use Rattle.rules.proofs.Passes.Pair.{Right, pair-passes}
use Rattle.rules.proofs.Passes.Bits.{has-none, none-room}
use Rattle.rules.proofs.Passes.Tally.{Passed, total, asked, New, Counted, counted, adds, tally-more}
use Rattle.rules.proofs.Passes.Lists.{lists, Runs, all-linked, all-below, join-below, join-length, lasts-of, last-low, differ_of, times_more}

-- what there is of an Option that is not none
pub there : {A : Type 0} (o : Option A) → is_some o ≡ true → (x : A) × (o ≡ Some x)
there None e = absurd (false≢true e)
there (Some x) e = (x, refl)

-- ---- each pair by its number, and the last entry

module _ (f : Pair → Entry) (P : Entry → Type 0) where
  at_pair : (ps : List Pair) → Each P (map f ps) → (p : ℕ) → p < length ps → P (f (pair_at ps p))
  unfolding pair_at
  at_pair [] h p l = absurd (not-suc-le-zero l)
  at_pair (x ∷ ps) h zero l = h.0
  at_pair (x ∷ ps) h (suc p) l = at_pair ps h.1 p (le_of_suc-le-suc l)

  of-pairs : (ps : List Pair) → ((p : ℕ) → p < length ps → P (f (pair_at ps p))) → Each P (map f ps)
  unfolding pair_at
  of-pairs [] h = tt
  of-pairs (x ∷ ps) h = (h 0 (omega arith), of-pairs ps (λ p l. h (suc p) (suc-le-suc l)))

module _ (P : Entry → Type 0) where
  each_more : (es : List Entry) (e : Entry) → Each P es → P e → Each P (es ++ (e ∷ []))
  each_more es e h k = each_append P es (e ∷ []) h (k, tt)

  each-front : (es : List Entry) (e : Entry) → Each P (es ++ (e ∷ [])) → Each P es
  each-front [] e h = tt
  each-front (x ∷ es) e h = (h.0, each-front es e h.1)

  each_back : (es : List Entry) (e : Entry) → Each P (es ++ (e ∷ [])) → P e
  each_back [] e h = h.0
  each_back (x ∷ es) e h = each_back es e h.1

total-more : (es : List Entry) (e : Entry) → total (es ++ (e ∷ [])) ≡ total es + e.queue.held
total-more [] e = omega arith
total-more (x ∷ es) e = omega (arith, total-more es e)

asked-more : (es : List Entry) (e : Entry) → asked (es ++ (e ∷ [])) ≡ asked es + e.claim
asked-more [] e = omega arith
asked-more (x ∷ es) e = omega (arith, asked-more es e)

module _ (card : Card) (s : List Slot) where
  lists-are : (ps : List Pair) → lists card.none s (map (entry_of card s) ps) ≡ map (λ p. spelled s p.queue) ps
  lists-are [] = refl
  lists-are (p ∷ ps) = ap (λ (l : List (List ℕ)). spelled s p.queue ∷ l) (lists-are ps)

  total-is : (ps : List Pair) → total (map (entry_of card s) ps) ≡ held_by ps
  total-is [] = refl
  total-is (p ∷ ps) = ap (λ (n : ℕ). p.queue.held + n) (total-is ps)

  claim-is : (p : Pair) → claimed (claim_of_pair p ∷ []) ≡ claim_by p
  claim-is p = by-test (eqb p.standing.state 0) (λ e. rw e) (λ e. rw e (omega arith))

  asked_is : (ps : List Pair) → asked (map (entry_of card s) ps) ≡ claimed (map claim_of_pair ps)
  asked_is [] = refl
  asked_is (p ∷ ps) = omega (arith, claim-is p, asked_is ps)

-- ---- the tables

module _ (card : Card) (t : Tables) where
  abbrev pub of_pairs : List Entry
  of_pairs = map (entry_of card t.slots) t.pairs

  abbrev pub of_free : Entry
  of_free = record { passed = links_pass card.none t.slots (free_record t); queue = free_record t; claim = 0 }

  abbrev pub entries : List Entry
  entries = of_pairs ++ (of_free ∷ [])

  pub asked-all : asked entries ≡ claimed (claims (sides t))
  asked-all =
      asked-more of_pairs of_free ∙ omega arith ∙ asked_is card t.slots t.pairs ∙ ap claimed (sym (claims-of t.slots t.pairs))

  times-all : (i : ℕ) → times i (concat (lists card.none t.slots entries)) ≡ times i (free t ++ concat (queues t))
  times-all i =
      times_more card.none t.slots i of_pairs of_free
      ∙ ap (λ (l : List (List ℕ)). times i (concat l) + times i (free t)) (lists-are card t.slots t.pairs)
      ∙ omega (arith, times-append i (free t) (concat (queues t)))

  -- before the first queue
  abbrev pub start : Tally
  start = record { words = none_of card.slots; held = 0; claimed = 0 }

  count-pairs : (w : Tally) → pairs_tally card t ≡ Some w → Counted card.slots start w of_pairs
  count-pairs w e = counted card.slots start w of_pairs (none-room card.slots) e

  -- what the pairs leave is the free queue
  left_is : length t.slots ≡ card.slots → (w : Tally) → pairs_tally card t ≡ Some w → leftover card.slots t w ≡ free_record t
  left_is ns w e = λ j. record { first = t.ends.first; last = t.ends.last; held = held j }
    where
      held : card.slots - w.held ≡ length t.slots - held_by t.pairs
      held = omega (arith, ns, (count-pairs w e).held, total-is card t.slots t.pairs)

  pub whole_is : length t.slots ≡ card.slots → whole_tally card t ≡ tallied card.slots (tally_from card.slots) entries
  whole_is ns = go (pairs_tally card t) refl ∙ sym (tally-more card.slots (tally_from card.slots) of_pairs of_free)
    where
      go : (o : Option Tally) → pairs_tally card t ≡ o → free_step card t o ≡ tally_step card.slots (pairs_tally card t) of_free
      go None e = ap (λ (x : Option Tally). tally_step card.slots x of_free) (sym e)
      go (Some w) e =
          ap (λ (q : Queue). tally_step card.slots (Some w) (record { passed = links_pass card.none t.slots q; queue = q; claim = 0 })) (left_is ns w e)
          ∙ ap (λ (x : Option Tally). tally_step card.slots x of_free) (sym e)

  runs_of : Each Passed entries → Each (Runs card.none t.slots) entries
  runs_of h =
      each_more (Runs card.none t.slots) of_pairs of_free
      (of-pairs (entry_of card t.slots) (Runs card.none t.slots) t.pairs
      (λ p l.
      ((pair-passes card t.slots (pair_at t.pairs p)).0
      (at_pair (entry_of card t.slots) Passed t.pairs (each-front Passed of_pairs of_free h) p l)).spells))
      ((spells-passes card.none t.slots (free_record t)).0 (each_back Passed of_pairs of_free h))

  pub sound : passes card t ≡ true → Audit card t
  unfolding passes side side_of
  sound e =
      record {
        whole =
            record {
              pair-records = np;
              slot-records = ns;
              pairs-run = λ p l. (right p l).spells;
              free-runs = (spells-passes card.none t.slots (free_record t)).0 (each_back Passed of_pairs of_free c.passed);
              once = once;
              others-empty = λ p l n. sym (held_of p) ∙ (right p l).good.idle n;
            };
        states = λ p l. (right p l).good.state;
        bounded = λ p l. (right p l).good.bounded;
        ordered = λ p l e. ordered ((right p l).good.ordered e);
        messages = λ p l. (right p l).good.messages;
        timed = λ p l. (right p l).good.timed;
        shares = omega (arith, c.shares (omega arith), asked-all);
      }
    where
      np : length t.pairs ≡ card.pairs
      np = eqb-true (length t.pairs) card.pairs (both e).0

      ns : length t.slots ≡ card.slots
      ns = eqb-true (length t.slots) card.slots (both (both e).1).0

      end : (w : Tally) × (tallied card.slots (tally_from card.slots) entries ≡ Some w)
      end = there (tallied card.slots (tally_from card.slots) entries) (ap is_some (sym (whole_is ns)) ∙ (both (both e).1).1)

      c : Counted card.slots start end.0 entries
      c = counted card.slots start end.0 entries (none-room card.slots) end.1

      runs : Each (Runs card.none t.slots) entries
      runs = runs_of c.passed

      right : (p : ℕ) → p < card.pairs → Right card t.slots (pair_at t.pairs p)
      right p l =
          (pair-passes card t.slots (pair_at t.pairs p)).0
          (at_pair (entry_of card t.slots) Passed t.pairs (each-front Passed of_pairs of_free c.passed) p (rw np l))

      held_of : (p : ℕ) → length (side t p).packets ≡ (pair_at t.pairs p).queue.held
      held_of p = held-is t p

      sum : total entries ≡ card.slots
      sum = omega (arith, total-more of_pairs of_free, total-is card t.slots t.pairs, c.room (omega arith), ns)

      once : (i : ℕ) → i < card.slots → times i (free t ++ concat (queues t)) ≡ 1
      once i l =
          sym (times-all i)
          ∙ once-of card.none t.slots card.slots (lists card.none t.slots entries) (all-linked card.none t.slots entries runs)
          (all-below card.none t.slots (omega (arith, ns, card.apart)) entries runs)
          (lasts-of card.none t.slots entries runs c.differ)
          (subst (λ (n : ℕ). Below n (concat (lists card.none t.slots entries))) ns (join-below card.none t.slots entries runs))
          (join-length card.none t.slots entries ∙ sum) i l

  pub complete : Audit card t → passes card t ≡ true
  unfolding passes side
  complete a =
      joined (eq-eqb (length t.pairs) card.pairs np)
      (joined (eq-eqb (length t.slots) card.slots ns) (ap is_some (whole_is ns) ∙ all))
    where
      np : length t.pairs ≡ card.pairs
      np = a.whole.pair-records

      ns : length t.slots ≡ card.slots
      ns = a.whole.slot-records

      good : (p : ℕ) → p < card.pairs → Good card (side t p)
      good p l =
          record {
            state = a.states p l;
            idle = idle-side card t a.whole p l;
            bounded = a.bounded p l;
            ordered = audited-order a p l;
            messages = a.messages p l;
            timed = a.timed p l;
          }

      passed : Each Passed entries
      passed =
          each_more Passed of_pairs of_free
          (of-pairs (entry_of card t.slots) Passed t.pairs
          (λ p l.
          let k : p < card.pairs = omega (arith, np, l) in
          (pair-passes card t.slots (pair_at t.pairs p)).1 (record { spells = a.whole.pairs-run p k; good = good p k })))
          ((spells-passes card.none t.slots (free_record t)).1 a.whole.free-runs)

      runs : Each (Runs card.none t.slots) entries
      runs = runs_of passed

      once : (i : ℕ) → i < card.slots → times i (concat (lists card.none t.slots entries)) ≡ 1
      once i l = times-all i ∙ a.whole.once i l

      sum : total entries ≡ card.slots
      sum = omega (arith, total-more of_pairs of_free, total-is card t.slots t.pairs, all_slots card t a.whole, ns, length-free)
        where
          length-free : length (free t) ≡ (free_record t).held
          length-free = length-follow t.slots (free_record t).first (free_record t).held

      new : Each (New card.slots start.words) entries
      new =
          each-so (Runs card.none t.slots) (New card.slots start.words)
          (λ e k h. (omega (arith, ns, last-low card.none t.slots e k h), has-none card.slots e.queue.last)) entries runs

      all : is_some (tallied card.slots (tally_from card.slots) entries) ≡ true
      all =
          adds card.slots start entries (none-room card.slots) passed new
          (differ_of card.none t.slots entries runs (λ i l. omega (arith, once i (omega (arith, ns, l))))) (omega (arith, sum)) (omega (arith, asked-all, a.shares))

  -- "The audit passes exactly if": the test that code computes and the record of 01's bullets say the same, on any tables
  pub decided : passes card t ≡ true ↔ Audit card t
  decided = (sound, complete)
