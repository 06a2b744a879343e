-- Retry counts and times: what a moved U gives back, what a retry takes, and how an ended pair stands.
use Rattle.std.specs.Prelude.{if◌then◌else◌}
use mathlib.Core.Path.{◌≡◌, refl, ap}
use mathlib.Core.Logic.{◌≢◌}
use mathlib.Core.Bool.{Bool, false, not, ◌&&◌, ◌||◌}
use Prim.Native.Nat.{ℕ, suc, ◌+◌, ◌-◌, ◌≤◌, ◌<◌}
use native.Mathlib.Omega.{arith}
use lib.Dec.{eqb, ltb, leb}
use borrow.Author.Tests.{eqb-true, eqb-false, le-ltb, lt-ltb}
use lib.ListN.{length}
use Rattle.refusal.proofs.Cases.{by-test, if-case}
use Rattle.psn.specs.Psn.{next}
use Rattle.rules.specs.declared.Settings.{Settings}
use Rattle.rules.specs.declared.Line.{Line}
use Rattle.rules.specs.declared.Clock.{Clock}
use Rattle.rules.specs.declared.Standing.{Standing}
use Rattle.rules.specs.declared.Answer.{Answer}
use Rattle.rules.specs.declared.Answer.TheVariants.{Done, Resending, Held, Resumed, Idle, Ended}
use Rattle.rules.specs.Account.{Side, U, H, N, ended, ahead}
use Rattle.rules.specs.Ranges.{top_bits, low_bits}
use Rattle.rules.specs.declared.Outcome.{Outcome}
use Rattle.rules.specs.Outcome.{dropped, ending}
use Rattle.rules.specs.declared.Release.{Release}
use Rattle.rules.specs.Release.{release, advanced, passed_by}
use Rattle.rules.specs.Acknowledge.{inside, back_to_u, resending, ended_after, wait_of, acknowledge, answered}
use Rattle.rules.specs.Response.{read_at, at_last, taken, response}
use Rattle.rules.specs.Timer.{timeout_of, ticked, retried, timer, timed}
use Rattle.rules.specs.Order.{◌or◌, left, right}
use Rattle.rules.specs.Requests.{word_of}
use Rattle.rules.proofs.Sides.After.{leaving}
use Rattle.rules.proofs.Sides.Order.{ahead-most}

-- "both retry counts return to their settings and elapsed time to 0"
pub record Restored (s : Settings) (c : Clock) : Type 0 where
  pub retries : c.retries ≡ s.retry
  pub rnrs : c.rnrs ≡ s.rnr
  pub elapsed : c.elapsed ≡ 0

-- an answer has one word
unlike : {A : Type 0} {a b : Answer} → a ≡ b → word_of a ≢ word_of b → A
unlike e n = absurd (n (ap word_of e))

neither : {A : Type 0} {a b c : Answer} → (a ≡ b) or (a ≡ c) → word_of a ≢ word_of b → word_of a ≢ word_of c → A
neither (left e) n m = unlike e n
neither (right e) n m = unlike e m

-- ---- a release

-- what it leaves as it was, and at most what is held leaves
record Released (s : Side) (g : Release) : Type 0 where
  settings : g.standing.settings ≡ s.standing.settings
  n : g.standing.line.n ≡ N s
  most : g.released ≤ length s.packets
  counts : g.standing.line.u ≢ U s → Restored s.standing.settings g.standing.clock

advanced-counts : (a : ℕ) (t : Standing) → a ≢ t.line.u → Restored t.settings (advanced a t).clock
advanced-counts a t moved = by-test (eqb a t.line.u) (λ e. absurd (moved (eqb-true a t.line.u e))) (λ e. rw e (record { retries = refl; rnrs = refl; elapsed = refl }))

released : (b : ℕ) (s : Side) → Released s (release b s)
unfolding release
released b s =
    if-case (Released s) (ltb (ahead (passed_by b s.standing) s.packets) (length s.packets))
    (λ e. record { settings = refl; n = refl; most = ahead-most _ s.packets; counts = advanced-counts _ s.standing })
    (λ e. record { settings = refl; n = refl; most = ahead-most _ s.packets; counts = advanced-counts b s.standing })

-- "If U moved, both retry counts return to their settings and elapsed time to 0."
pub counts-return : (b : ℕ) (s : Side) → (release b s).standing.line.u ≢ U s → Restored s.standing.settings (release b s).standing.clock
counts-return b s = (released b s).counts

-- ---- acknowledgements and responses

abbrev delivered : Release → Outcome
delivered g = record { answer = Done; released = g.released; flushed = 0; standing = g.standing }

abbrev counted : Side → Bool
counted s = ltb s.standing.settings.rnr 7

abbrev delayed : ℕ → ℕ → Side → Outcome
delayed r wait s =
    let g = release r s in
    let c = g.standing.clock in
    record { answer = Held; released = g.released; flushed = 0; standing = back_to_u c.retries (if counted s then c.rnrs - 1 else c.rnrs) wait g.standing }

abbrev answered_at : ℕ → ℕ → Side → Outcome
answered_at r last s =
    let g = release r s in
    record { answer = Done; released = g.released + last; flushed = 0; standing = taken (U s) (next r) g.standing }

module _ (P : Outcome → Type 0) (s : Side) where
  -- what an acknowledgement may come to
  by-acknowledge : (r y : ℕ) → P (dropped s) → ((b : ℕ) → P (delivered (release b s))) → ((b : ℕ) → P (resending (release b s)))
      → ((wait : ℕ) → counted s && eqb (release r s).standing.clock.rnrs 0 ≡ false → P (delayed r wait s))
      → P (ended_after (length s.packets) (release r s)) → P (acknowledge r y s)
  unfolding acknowledge
  by-acknowledge r y drop done again held end =
      if-case P (not (inside r s)) (λ _. drop) (λ _.
      if-case P (eqb (top_bits y) 0) (λ _. if-case P (release (next r) s).stopped (λ _. again (next r)) (λ _. done (next r))) (λ _.
      if-case P (eqb (top_bits y) 1)
      (λ _. if-case P (counted s && eqb (release r s).standing.clock.rnrs 0) (λ _. end) (λ e. held (wait_of (low_bits y)) e)) (λ _.
      if-case P (leb (low_bits y) 2) (λ _. again r) (λ _. end))))

  -- a response
  by-response : (r : ℕ) → P (dropped s) → P (resending (release r s)) → ((last : ℕ) → P (answered_at r last s)) → P (response r s)
  unfolding response
  by-response r drop again done =
      if-case P (not (inside r s)) (λ _. drop) (λ _. if-case P (release r s).stopped (λ _. again) (λ _. done (if at_last s.standing.settings r (read_at r s) then 1 else 0)))

  -- a timer step
  by-timer : (e : ℕ) → ((elapsed hold : ℕ) → P (ticked Resumed elapsed hold s.standing)) → ((elapsed hold : ℕ) → P (ticked Idle elapsed hold s.standing))
      → P (ending (length s.packets) s.standing) → (s.standing.clock.retries ≢ 0 → P (retried s.standing)) → P (timer e s)
  unfolding timer
  by-timer e resumed idle end again =
      if-case P (ltb 0 s.standing.clock.hold)
      (λ _. if-case P (leb s.standing.clock.hold e) (λ _. resumed _ _) (λ _. idle _ _)) (λ _.
      if-case P (eqb (U s) (H s) || eqb s.standing.settings.timeout 0) (λ _. idle _ _) (λ _.
      if-case P (ltb (s.standing.clock.elapsed + e) (timeout_of s.standing.settings)) (λ _. idle _ _) (λ _.
      if-case P (eqb s.standing.clock.retries 0) (λ _. end) (λ z. again (eqb-false s.standing.clock.retries 0 z)))))

-- an ACK or a NAK that does not end the pair
pub ack-restores : (r y : ℕ) (s : Side) → ((acknowledge r y s).answer ≡ Done) or ((acknowledge r y s).answer ≡ Resending)
    → (acknowledge r y s).standing.line.u ≢ U s → Restored s.standing.settings (acknowledge r y s).standing.clock
ack-restores r y s =
    by-acknowledge (λ o. (o.answer ≡ Done) or (o.answer ≡ Resending) → o.standing.line.u ≢ U s → Restored s.standing.settings o.standing.clock) s r y
    (λ _ moved. absurd (moved refl))
    (λ b _. counts-return b s)
    (λ b _ moved. let c = counts-return b s moved in record { retries = c.retries; rnrs = c.rnrs; elapsed = refl })
    (λ wait _ d. neither d (λ z. omega arith) (λ z. omega arith))
    (λ d. neither d (λ z. omega arith) (λ z. omega arith))

-- "U becomes R + 1, counts and elapsed return"
pub response-restores : (r : ℕ) (s : Side) → (response r s).answer ≡ Done → Restored s.standing.settings (response r s).standing.clock
response-restores r s =
    by-response (λ o. o.answer ≡ Done → Restored s.standing.settings o.standing.clock) s r
    (λ d. unlike d (λ z. omega arith))
    (λ d. unlike d (λ z. omega arith))
    (λ last _.
    let same = (released r s).settings in
    record { retries = ap (λ (st : Settings). st.retry) same; rnrs = ap (λ (st : Settings). st.rnr) same; elapsed = refl })

-- one that stopped, if U moved
pub stopped-restores : (r : ℕ) (s : Side) → (response r s).answer ≡ Resending → (response r s).standing.line.u ≢ U s
    → Restored s.standing.settings (response r s).standing.clock
stopped-restores r s =
    by-response (λ o. o.answer ≡ Resending → o.standing.line.u ≢ U s → Restored s.standing.settings o.standing.clock) s r
    (λ d. unlike d (λ z. omega arith))
    (λ _ moved. let c = counts-return r s moved in record { retries = c.retries; rnrs = c.rnrs; elapsed = refl })
    (λ last d. unlike d (λ z. omega arith))

-- ---- RNR

-- "With RNR retry set below 7: .. a higher one drops by one."
pub rnr-takes : (r y : ℕ) (s : Side) → s.standing.settings.rnr < 7 → (acknowledge r y s).answer ≡ Held
    → suc (acknowledge r y s).standing.clock.rnrs ≡ (release r s).standing.clock.rnrs
rnr-takes r y s low =
    by-acknowledge (λ o. o.answer ≡ Held → suc o.standing.clock.rnrs ≡ (release r s).standing.clock.rnrs) s r y
    (λ d. unlike d (λ z. omega arith))
    (λ b d. unlike d (λ z. omega arith))
    (λ b d. unlike d (λ z. omega arith))
    (λ wait e d.
    let counts = lt-ltb s.standing.settings.rnr 7 low in
    let some = eqb-false (release r s).standing.clock.rnrs 0 (rw counts at e) in
    rw counts (omega (arith, some)))
    (λ d. unlike d (λ z. omega arith))

-- so after a moved U the setting drops by one; the other count returns
pub rnr-restores : (r y : ℕ) (s : Side) → (acknowledge r y s).answer ≡ Held → (acknowledge r y s).standing.line.u ≢ U s
    → ((acknowledge r y s).standing.clock.retries ≡ s.standing.settings.retry) × ((release r s).standing.clock.rnrs ≡ s.standing.settings.rnr)
rnr-restores r y s =
    by-acknowledge (λ o. o.answer ≡ Held → o.standing.line.u ≢ U s
    → (o.standing.clock.retries ≡ s.standing.settings.retry) × ((release r s).standing.clock.rnrs ≡ s.standing.settings.rnr)) s r y
    (λ d. unlike d (λ z. omega arith))
    (λ b d. unlike d (λ z. omega arith))
    (λ b d. unlike d (λ z. omega arith))
    (λ wait _ _ moved. let c = counts-return r s moved in (c.retries, c.rnrs))
    (λ d. unlike d (λ z. omega arith))

-- set to 7, it is not counted
pub rnr-keeps : (r y : ℕ) (s : Side) → 7 ≤ s.standing.settings.rnr → (acknowledge r y s).answer ≡ Held
    → (acknowledge r y s).standing.clock.rnrs ≡ (release r s).standing.clock.rnrs
rnr-keeps r y s high =
    by-acknowledge (λ o. o.answer ≡ Held → o.standing.clock.rnrs ≡ (release r s).standing.clock.rnrs) s r y
    (λ d. unlike d (λ z. omega arith))
    (λ b d. unlike d (λ z. omega arith))
    (λ b d. unlike d (λ z. omega arith))
    (λ wait _ d. rw (le-ltb s.standing.settings.rnr 7 high))
    (λ d. unlike d (λ z. omega arith))

-- nor ends the pair
pub rnr-never-ends : (r y : ℕ) (s : Side) → top_bits y ≡ 1 → 7 ≤ s.standing.settings.rnr → (acknowledge r y s).answer ≢ Ended
unfolding acknowledge
rnr-never-ends r y s top high =
    if-case (λ (o : Outcome). o.answer ≢ Ended) (not (inside r s))
    (λ _ d. unlike d (λ z. omega arith))
    (λ _. rw (top, le-ltb s.standing.settings.rnr 7 high) (λ d. unlike d (λ z. omega arith)))

-- ---- the end of a pair

-- "An ended pair keeps its share until closed; its U, X and H become N, its hold and elapsed 0." "Ending or closing a pair flushes all it holds."
pub record EndedAs (s : Side) (o : Outcome) : Type 0 where
  pub state : o.standing.state ≡ ended
  pub settings : o.standing.settings ≡ s.standing.settings
  pub line : o.standing.line ≡ record { u = N s; x = N s; h = N s; n = N s }
  pub hold : o.standing.clock.hold ≡ 0
  pub elapsed : o.standing.clock.elapsed ≡ 0
  pub all-leave : leaving o ≡ length s.packets

pub ended-by-ack : (r y : ℕ) (s : Side) → (acknowledge r y s).answer ≡ Ended → EndedAs s (acknowledge r y s)
ended-by-ack r y s =
    by-acknowledge (λ o. o.answer ≡ Ended → EndedAs s o) s r y
    (λ d. unlike d (λ z. omega arith))
    (λ b d. unlike d (λ z. omega arith))
    (λ b d. unlike d (λ z. omega arith))
    (λ wait _ d. unlike d (λ z. omega arith))
    (λ _.
    let g = released r s in
    record {
      state = refl;
      settings = g.settings;
      line = ap {B = Line} (λ (n : ℕ). record { u = n; x = n; h = n; n = n }) g.n;
      hold = refl;
      elapsed = refl;
      all-leave = omega (arith, g.most);
    })

pub ended-by-timer : (e : ℕ) (s : Side) → (timer e s).answer ≡ Ended → EndedAs s (timer e s)
ended-by-timer e s =
    by-timer (λ o. o.answer ≡ Ended → EndedAs s o) s e
    (λ _ _ d. unlike d (λ z. omega arith))
    (λ _ _ d. unlike d (λ z. omega arith))
    (λ _. record { state = refl; settings = refl; line = refl; hold = refl; elapsed = refl; all-leave = omega arith })
    (λ _ d. unlike d (λ z. omega arith))

-- ---- a timer step's retries

-- "else take one": exactly one
pub timer-takes : (e : ℕ) (s : Side) → (timer e s).answer ≡ Resending → suc (timer e s).standing.clock.retries ≡ s.standing.clock.retries
timer-takes e s =
    by-timer (λ o. o.answer ≡ Resending → suc o.standing.clock.retries ≡ s.standing.clock.retries) s e
    (λ _ _ d. unlike d (λ z. omega arith))
    (λ _ _ d. unlike d (λ z. omega arith))
    (λ d. unlike d (λ z. omega arith))
    (λ some _. omega (arith, some))

-- "idle" and "resumed" take none
pub timer-keeps : (e : ℕ) (s : Side) → ((timer e s).answer ≡ Idle) or ((timer e s).answer ≡ Resumed)
    → (timer e s).standing.clock.retries ≡ s.standing.clock.retries
timer-keeps e s =
    by-timer (λ o. (o.answer ≡ Idle) or (o.answer ≡ Resumed) → o.standing.clock.retries ≡ s.standing.clock.retries) s e
    (λ _ _ _. refl)
    (λ _ _ _. refl)
    (λ _. refl)
    (λ some d. neither d (λ z. omega arith) (λ z. omega arith))

-- ---- at most what is held leaves

pub answered-few : (s : Settings) (r y held : ℕ) (before : ℕ → Release) → ((b : ℕ) → (before b).released ≤ held) → leaving (answered s r y held before) ≤ held
answered-few s r y held before few =
    if-case (λ (o : Outcome). leaving o ≤ held) (eqb (top_bits y) 0)
    (λ _. if-case (λ (o : Outcome). leaving o ≤ held) (before (next r)).stopped (λ _. omega (arith, few (next r))) (λ _. omega (arith, few (next r))))
    (λ _. if-case (λ (o : Outcome). leaving o ≤ held) (eqb (top_bits y) 1)
    (λ _. if-case (λ (o : Outcome). leaving o ≤ held) (ltb s.rnr 7 && eqb (before r).standing.clock.rnrs 0) (λ _. omega (arith, few r)) (λ _. omega (arith, few r)))
    (λ _. if-case (λ (o : Outcome). leaving o ≤ held) (leb (low_bits y) 2) (λ _. omega (arith, few r)) (λ _. omega (arith, few r))))

pub ack-most : (r y : ℕ) (s : Side) → leaving (acknowledge r y s) ≤ length s.packets
unfolding acknowledge
ack-most r y s =
    if-case (λ (o : Outcome). leaving o ≤ length s.packets) (not (inside r s))
    (λ _. omega arith)
    (λ _. answered-few s.standing.settings r y (length s.packets) (λ b. release b s) (λ b. (released b s).most))

pub timed-few : (e held : ℕ) (t : Standing) → leaving (timed e held t) ≤ held
timed-few e held t =
    if-case (λ (o : Outcome). leaving o ≤ held) (ltb 0 t.clock.hold)
    (λ _. if-case (λ (o : Outcome). leaving o ≤ held) (leb t.clock.hold e) (λ _. omega arith) (λ _. omega arith))
    (λ _. if-case (λ (o : Outcome). leaving o ≤ held) (eqb t.line.u t.line.h || eqb t.settings.timeout 0)
    (λ _. omega arith)
    (λ _. if-case (λ (o : Outcome). leaving o ≤ held) (ltb (t.clock.elapsed + e) (timeout_of t.settings))
    (λ _. omega arith)
    (λ _. if-case (λ (o : Outcome). leaving o ≤ held) (eqb t.clock.retries 0) (λ _. omega arith) (λ _. omega arith))))
