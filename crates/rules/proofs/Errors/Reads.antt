-- The third error of the trade, shut out: no acknowledgement frees a read or passes over one of its responses, unless it ends the pair.
use mathlib.Core.Path.{◌≡◌, refl, sym, ap, ◌∙◌, subst}
use mathlib.Core.Logic.{◌≢◌}
use mathlib.Core.Bool.{true, false, not, ◌&&◌, true≢false}
use mathlib.Core.List.{List, [], ◌∷◌, map}
use Prim.Native.Nat.{ℕ, ◌+◌, ◌≤◌, ◌<◌}
use native.Mathlib.Omega.{arith}
use native.Mathlib.Nat.{add-zero}
use lib.Dec.{eqb, ltb, leb}
use borrow.Author.Tests.{ltb-true, ltb-false, le-ltb, leb-false, not-false}
use lib.ListN.{length, get_or, take, drop}
use Rattle.refusal.specs.Choice.{Each}
use Rattle.refusal.proofs.Cases.{by-test, if-case, or_left}
use Rattle.refusal.proofs.Each.{each-so}
use Rattle.rules.specs.declared.Packet.{Packet}
use Rattle.rules.specs.declared.Standing.{Standing}
use Rattle.rules.specs.declared.Answer.{Answer}
use Rattle.rules.specs.declared.Answer.TheVariants.{Ended}
use Rattle.psn.specs.Psn.{psns, half, distance, plus, before}
use Rattle.rules.specs.declared.Reply.TheVariants.{Answered}
use Rattle.rules.specs.Card.{Card}
use Rattle.rules.specs.Account.{Side, U, H, N, no_packet, ahead}
use Rattle.rules.specs.Message.{is_read, span, unanswered}
use Rattle.rules.specs.Ranges.{top_bits, low_bits, bad_psn}
use Rattle.rules.specs.declared.Outcome.{Outcome}
use Rattle.rules.specs.Release.{passed_by, advanced, release}
use Rattle.rules.specs.Acknowledge.{inside, acknowledge}
use Rattle.rules.specs.Slots.{Tables, slot_at, queue, times, side_of, side, sides, freed}
use Rattle.rules.specs.Order.{◌or◌, left, right}
use Rattle.rules.specs.Audit.{Whole}
use Rattle.rules.specs.Calls.{call}
use Rattle.rules.specs.Errors.{ReadsStay, AckKeepsReads}
use Rattle.rules.specs.Passes.Tables.{passes}
use Rattle.rules.specs.Refusals.{side_at, refusals}
use Rattle.rules.specs.Requests.{acknowledging, on}
use Rattle.rules.proofs.Slots.Lists.{map-take}
use Rattle.rules.proofs.Sides.After.{leaving}
use Rattle.rules.proofs.Sides.InOrder.{RunsLow, InOrder, audited-order}
use Rattle.rules.proofs.Passes.Decided.{sound}
use Rattle.std.specs.Prelude.{Ok}
use Rattle.refusal.specs.Refusals.{first_given}
use Rattle.refusal.proofs.Given.{by-given, ok-not-err}
use Rattle.rules.proofs.Slots.Links.{times-parts}
use Rattle.rules.proofs.Slots.Freed.{freed-queue, freed-side}
use Rattle.rules.proofs.Slots.Queues.{pair-and-free}
use Rattle.psn.proofs.Laws.{distance-from, distance-zero}
use Rattle.rules.proofs.Sides.Order.{runs-end, unanswered-is, all-before, halted, none_passed, none_before, Part, whole-or-part, part-at-u, part-stops, part-some}
use Rattle.rules.specs.Release.{stays}
use Rattle.rules.proofs.Sides.Scan.{released-is}
use Rattle.rules.proofs.Calls.Accepted.{accepted, is-ready}
use Rattle.rules.proofs.Calls.Moves.{side-at}
use Rattle.rules.proofs.Errors.Before.{ahead-fails}
use Rattle.rules.proofs.Errors.Acked.{next-is, each_in, side-drop}

-- ---- no read is released, stopped or not

pub no-read-released : (s : Side) → InOrder s → (b : ℕ) → Each (λ p. is_read p ≡ false) (take (release b s).released s.packets)
no-read-released s o b =
    rw (released-is s o b)
    (each-so (λ p. stays b s.standing p ≡ false) (λ p. is_read p ≡ false)
    (λ p. or_left (is_read p) (not (before (U s) p.psn b)))
    (take (ahead (stays b s.standing) s.packets) s.packets)
    (ahead-fails (stays b s.standing) s.packets))

-- ---- no packet that is left changes its first unanswered PSN

-- it is under n what it was under t
abbrev Same : Standing → Standing → Packet → Type 0
Same t n q = unanswered n q ≡ unanswered t q

-- U stays
all_same : (t : Standing) (ps : List Packet) → Each (Same t t) ps
all_same t [] = tt
all_same t (p ∷ ps) = (refl, all_same t ps)

-- all that are left start at the new U or after it
run-same : (t : Standing) → t.line.u < psns → (a : ℕ) → a < psns → (n : ℕ) → distance t.line.u n ≤ half
    → (o : ℕ) (ps : List Packet) → RunsLow (span t.settings) t.line.u o ps n → distance t.line.u a ≤ o → Each (Same t (advanced a t)) ps
run-same t u-low a a-low n near o [] run h = tt
run-same t u-low a a-low n near o (p ∷ ps) run h = (
  unanswered-is (advanced a t) a-low 0 p run.0 (omega (arith, room, run.1, distance-from t.line.u a p.psn (omega (arith, run.1))))
      ∙ sym (unanswered-is t u-low 0 p run.0 room),
  run-same t u-low a a-low n near (o + span t.settings p) ps run.2 (omega arith),
)
  where
    room : distance t.line.u p.psn + span t.settings p ≤ half
    room = omega (arith, runs-end (span t.settings) t.line.u u-low (o + span t.settings p) ps n run.2, run.1)

module _ (s : Side) (o : InOrder s) (b : ℕ) (low : b < psns) (near : distance (U s) b ≤ distance (U s) (H s)) where
  abbrev Left : Type 0
  Left = Each (Same s.standing (release b s).standing) (drop (release b s).released s.packets)

  -- from the start of a record
  left-whole : RunsLow (span s.standing.settings) (U s) 0 s.packets (N s) → Left
  unfolding release
  left-whole run =
      by-test (ltb (ahead (passed_by b s.standing) s.packets) (length s.packets))
      (λ e.
      let c = halted s.standing o.u-low b 0 s.packets (N s) run o.near (ltb-true _ _ e) in
      let k = ahead (passed_by b s.standing) s.packets in
      let a = (get_or s.packets k no_packet).psn in
      rw (e, c.first) (run-same s.standing o.u-low a c.low (N s) o.near (distance (U s) a) (drop k s.packets) c.runs (omega arith)))
      (λ e.
      rw e
      (run-same s.standing o.u-low b low (N s) o.near (distance (U s) b)
      (drop (ahead (λ p. not (before (U s) p.psn b)) s.packets) s.packets)
      (all-before s.standing o.u-low b 0 s.packets (N s) run (omega arith) (omega (arith, near, o.u-h-n)) o.near (ltb-false _ _ e))
      (omega arith)))

  -- from inside a read: U does not move
  left-part : Part s.standing.settings (U s) s.packets → Left
  unfolding release
  left-part c =
      by-test (ltb 0 (distance (U s) b))
      (λ e. rw (part-stops s c b e, part-some s c, head, part-at-u s c) (all_same s.standing s.packets))
      (λ e.
      let z : distance (U s) b ≡ 0 = omega (arith, ltb-false) in
      rw (le-ltb _ _ (none_passed s.standing b z s.packets), none_before s.standing b z s.packets)
      (rw (distance-zero (U s) b o.u-low low z) (all_same s.standing s.packets)))
    where
      head : get_or s.packets 0 no_packet ≡ c.head
      head = rw c.is

  left-same : Left
  left-same = go (whole-or-part s.standing.settings (U s) (N s) o.u-low s.packets o.starts)
    where
      go : RunsLow (span s.standing.settings) (U s) 0 s.packets (N s) or Part s.standing.settings (U s) s.packets → Left
      go (left run) = left-whole run
      go (right c) = left-part c

-- ---- an acknowledgement that does not end the pair

record Gentle (s : Side) (o : Outcome) : Type 0 where
  no_read : Each (λ q. is_read q ≡ false) (take (leaving o) s.packets)
  same : Each (Same s.standing o.standing) (drop (leaving o) s.packets)

gentle : (r y : ℕ) (s : Side) → InOrder s → r < psns → (acknowledge r y s).answer ≢ Ended → Gentle s (acknowledge r y s)
unfolding acknowledge
gentle r y s o low =
    if-case P (not (inside r s)) (λ _ _. record { no_read = tt; same = all_same s.standing s.packets }) (λ e.
    if-case P (eqb (top_bits y) 0)
    (λ _. if-case P (release (plus r 1) s).stopped
    (λ _ _. record { no_read = none (plus r 1); same = up_to e })
    (λ _ _. record { no_read = none (plus r 1); same = up_to e })) (λ _.
    if-case P (eqb (top_bits y) 1)
    (λ _. if-case P (ltb s.standing.settings.rnr 7 && eqb (release r s).standing.clock.rnrs 0)
    (λ _ d. absurd (d refl))
    (λ _ _. record { no_read = none r; same = ahead_of e })) (λ _.
    if-case P (leb (low_bits y) 2) (λ _ _. record { no_read = none r; same = ahead_of e }) (λ _ d. absurd (d refl)))))
  where
    P : Outcome → Type 0
    P x = x.answer ≢ Ended → Gentle s x

    none : (b : ℕ) → Each (λ q. is_read q ≡ false) (take ((release b s).released + 0) s.packets)
    none b = rw (add-zero (release b s).released) (no-read-released s o b)

    same : (b : ℕ) → b < psns → distance (U s) b ≤ distance (U s) (H s)
        → Each (Same s.standing (release b s).standing) (drop ((release b s).released + 0) s.packets)
    same b l e = rw (add-zero (release b s).released) (left-same s o b l e)

    lt : not (inside r s) ≡ false → distance (U s) r < distance (U s) (H s)
    lt e = ltb-true (distance (U s) r) (distance (U s) (H s)) (not-false (inside r s) e)

    ahead_of : not (inside r s) ≡ false → Each (Same s.standing (release r s).standing) (drop ((release r s).released + 0) s.packets)
    ahead_of e = same r low (omega (arith, lt e))

    up_to : not (inside r s) ≡ false → Each (Same s.standing (release (plus r 1) s).standing) (drop ((release (plus r 1) s).released + 0) s.packets)
    up_to e = same (plus r 1) (omega arith) (omega (arith, lt e, next-is s o r (not-false (inside r s) e)))

-- ---- on the tables

side-take : (t : Tables) (p k : ℕ) → take k (side t p).packets ≡ map (λ j. (slot_at t.slots j).packet) (take k (queue t p))
unfolding side side_of
side-take t p k = map-take (λ j. (slot_at t.slots j).packet) k (queue t p)

module _ (card : Card) (t : Tables) (w : Whole card t) (p : ℕ) (low : p < card.pairs) (o : Outcome) (g : Gentle (side t p) o) where
  -- a slot that holds a read is not among those that leave
  keeps-read : (i : ℕ) → 1 ≤ times i (queue t p) → is_read (slot_at t.slots i).packet ≡ true → times i (drop (leaving o) (queue t p)) ≡ 1
  keeps-read i m read =
      let gone : times i (take (leaving o) (queue t p)) ≡ 0 =
      by-test (ltb 0 (times i (take (leaving o) (queue t p))))
      (λ e.
      absurd (true≢false (sym read
      ∙ each_in (λ q. is_read q ≡ false) (λ j. (slot_at t.slots j).packet) i (take (leaving o) (queue t p))
      (subst (Each (λ q. is_read q ≡ false)) (side-take t p (leaving o)) g.no_read)
      (ltb-true 0 (times i (take (leaving o) (queue t p))) e))))
      (λ e. omega (arith, ltb-false)) in
      omega (arith, times-parts i (leaving o) (queue t p), pair-and-free card t w p i)

  stay-freed : ReadsStay p t (freed card.none p o.standing (leaving o) t)
  stay-freed =
      record {
        stay = λ i m read. ap (times i) (freed-queue card t w p low o.standing (leaving o)) ∙ keeps-read i m read;
        unanswered-kept = λ i m read.
            ap (λ (s : Side). unanswered s.standing (slot_at t.slots i).packet) (freed-side card t w p low o.standing (leaving o))
            ∙ each_in (Same (side t p).standing o.standing) (λ j. (slot_at t.slots j).packet) i (drop (leaving o) (queue t p))
            (subst (Each (Same (side t p).standing o.standing)) (side-drop t p (leaving o)) g.same)
            (omega (arith, keeps-read i m read));
      }

module _ (card : Card)
    (t : Tables) (p r y : ℕ) (b : List ℕ) (answer : Answer) (messages place : ℕ) where
  -- a slot that holds a read stays in its pair's queue, and the read's first unanswered PSN is what it was
  stay-when : (call card (on p (acknowledging r y b)) t).said.reply ≡ Ok (Answered answer messages place) → answer ≢ Ended
      → ReadsStay p t (call card (on p (acknowledging r y b)) t).next
  unfolding call
  stay-when =
      by-test (passes card t)
      (λ e. rw e (by-given (first_given (refusals card (acknowledging r y b) p (sides t)))
      (λ q. rw q (λ d n.
      let h = accepted card (acknowledging r y b) p (sides t) q in
      let a = sound card t e in
      let ready = rw (side-at t p) at (is-ready {x = (side_at (sides t) p).standing.state} h.state) in
      let order = audited-order a p h.pair ready in
      let psn = leb-false psns r (or_left (bad_psn r) _ h.range) in
      subst (λ (s : Side). (acknowledge r y s).answer ≢ Ended → ReadsStay p t (freed card.none p (acknowledge r y s).standing (leaving (acknowledge r y s)) t))
      (sym (side-at t p))
      (λ z. stay-freed card t a.whole p h.pair (acknowledge r y (side t p)) (gentle r y (side t p) order psn z))
      (λ z. n (cc))))
      (λ k q. rw q (λ d. ok-not-err (sym d)))))
      (λ e. rw e (λ d. ok-not-err (sym d)))

pub reads-stay : (card : Card) → AckKeepsReads card
reads-stay = stay-when
