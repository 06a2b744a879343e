-- What waits is exactly the records that end after X, so an emission's count is 01's; and it leaves exactly those that did not go.
use Rattle.std.specs.Prelude.{if◌then◌else◌}
use mathlib.Core.Path.{◌≡◌, refl, sym, ap, ◌∙◌}
use mathlib.Core.List.{List, [], ◌∷◌}
use Prim.Native.Nat.{ℕ, zero, suc, ◌+◌, ◌-◌, ◌≤◌, ◌<◌, min}
use native.Mathlib.Omega.{arith}
use lib.Dec.{ltb}
use borrow.Author.Tests.{ltb-true, ltb-false, lt-ltb, le-ltb}
use lib.ListN.{length, take, drop}
use Rattle.refusal.proofs.Cases.{by-test, if-case}
use Rattle.psn.specs.Psn.{psns, half, distance, before}
use Rattle.rules.specs.declared.Packet.{Packet}
use Rattle.rules.specs.declared.Settings.{Settings}
use Rattle.rules.specs.Card.{Card}
use Rattle.rules.specs.Account.{Side, U, X, N, ahead}
use Rattle.rules.specs.Message.{span}
use Rattle.rules.specs.Emission.{ends, waiting, going, ends_at, emitted}
use Rattle.rules.specs.Slots.{Tables, side}
use Rattle.rules.specs.Audit.{Audit}
use Rattle.rules.specs.Demands.{ends_after_x, ending_after}
use Rattle.psn.proofs.Laws.{distance-step}
use Rattle.rules.proofs.Sides.InOrder.{RunsLow, StartsLow, InOrder, audited-order}
use Rattle.rules.proofs.Sides.Order.{runs-end, span_pos}
use Rattle.rules.proofs.Sides.Emitted.{stop, first_ends, moved}

module _ (s : Side) (u-low : U s < psns) (n : ℕ) (n-low : n < psns) (near : distance (U s) n ≤ half) where
  abbrev st : Settings
  st = s.standing.settings

  abbrev u : ℕ
  u = U s

  -- a record of a run ends where the next starts
  next-starts : (o : ℕ) (p : Packet) (ps : List Packet) → RunsLow (span st) u o (p ∷ ps) n → distance u (ends st p) ≡ o + span st p
  next-starts o p ps r =
      omega (arith, r.1, distance-step u p.psn (span st p) (omega (arith, r.1, near, runs-end (span st) u u-low (o + span st p) ps n r.2)))

  -- behind X, all end after X
  all_after : (o : ℕ) (ps : List Packet) → RunsLow (span st) u o ps n → distance u (X s) ≤ o → ends_after_x s ps ≡ ps
  all_after o [] r h = refl
  all_after o (p ∷ ps) r h =
      rw (lt-ltb (distance u (X s)) (distance u (ends st p)) (omega (arith, next-starts o p ps r, span_pos st p)))
      (ap (λ (l : List Packet). p ∷ l) (all_after (o + span st p) ps r.2 (omega arith)))

  -- so the first that does is followed by such alone
  one_by_one : (o : ℕ) (p : Packet) (ps : List Packet) → distance u (ends st p) ≡ o → RunsLow (span st) u o ps n
      → drop (ahead (λ q. before u (X s) (ends st q)) ps) ps ≡ ends_after_x s ps
      → drop (ahead (λ q. before u (X s) (ends st q)) (p ∷ ps)) (p ∷ ps) ≡ ends_after_x s (p ∷ ps)
  one_by_one o p ps e r rest =
      by-test (before u (X s) (ends st p))
      (λ t. rw t (ap (λ (l : List Packet). p ∷ l) (sym (all_after o ps r (omega (arith, e, ltb-true (distance u (X s)) (distance u (ends st p)) t))))))
      (λ t. rw t rest)

  runs_after : (o : ℕ) (ps : List Packet) → RunsLow (span st) u o ps n → drop (ahead (λ q. before u (X s) (ends st q)) ps) ps ≡ ends_after_x s ps
  runs_after o [] r = refl
  runs_after o (p ∷ ps) r = one_by_one (o + span st p) p ps (next-starts o p ps r) r.2 (runs_after (o + span st p) ps r.2)

  starts-after : (ps : List Packet) → StartsLow (span st) u ps n → drop (ahead (λ q. before u (X s) (ends st q)) ps) ps ≡ ends_after_x s ps
  starts-after [] h = refl
  starts-after (p ∷ ps) h =
      let o = span st p - distance p.psn u in
      one_by_one o p ps (first_ends st u u-low n n-low near p ps h) h.2 (runs_after o ps h.2)

  -- ---- X has moved past k records of those that ended after x

  -- a record that ends at or before X is not among those that end after it
  gone : (p : Packet) (ps : List Packet) → distance u (ends st p) ≤ distance u (X s) → ends_after_x s (p ∷ ps) ≡ ends_after_x s ps
  gone p ps h = rw (le-ltb (distance u (X s)) (distance u (ends st p)) h)

  -- x is where a run starts
  runs-left : (k x o : ℕ) (ps : List Packet) → x < psns → distance u x ≡ o → RunsLow (span st) u o ps n → X s ≡ ends_at st x (take k ps)
      → ends_after_x s ps ≡ drop k ps
  runs-left zero x o ps low e r at = all_after o ps r (omega (arith, e, ap (distance u) at))
  runs-left (suc k) x o [] low e r at = refl
  runs-left (suc k) x o (p ∷ ps) low e r at =
      let there = next-starts o p ps r in
      let past = (stop st u u-low n n-low near k (ends st p) (omega arith) (o + span st p) ps there r.2).past in
      gone p ps (omega (arith, there, past, ap (distance u) at)) ∙ runs-left k (ends st p) (o + span st p) ps (omega arith) there r.2 at

  -- the record p, which ends at o, and then a run; all of these end after x
  first-left : (k x o : ℕ) (p : Packet) (ps : List Packet) → distance u (ends st p) ≡ o → RunsLow (span st) u o ps n
      → distance u x < o → X s ≡ ends_at st x (take k (p ∷ ps)) → ends_after_x s (p ∷ ps) ≡ drop k (p ∷ ps)
  first-left zero x o p ps e r h at =
      let here = ap (distance u) at in
      rw (lt-ltb (distance u (X s)) (distance u (ends st p)) (omega (arith, e, h, here)))
      (ap (λ (l : List Packet). p ∷ l) (all_after o ps r (omega (arith, h, here))))
  first-left (suc k) x o p ps e r h at =
      let past = (stop st u u-low n n-low near k (ends st p) (omega arith) o ps e r).past in
      gone p ps (omega (arith, e, past, ap (distance u) at)) ∙ runs-left k (ends st p) o ps (omega arith) e r at

  module _ (x : ℕ) (up : distance u x ≤ distance u (X s)) where
    -- "the records ending after" x
    abbrev waited : List Packet → List Packet
    waited ps = drop (ahead (λ q. before u x (ends st q)) ps) ps

    one_left : (k o : ℕ) (p : Packet) (ps : List Packet) → distance u (ends st p) ≡ o → RunsLow (span st) u o ps n
        → (X s ≡ ends_at st x (take k (waited ps)) → ends_after_x s ps ≡ drop k (waited ps))
        → X s ≡ ends_at st x (take k (waited (p ∷ ps))) → ends_after_x s (p ∷ ps) ≡ drop k (waited (p ∷ ps))
    one_left k o p ps e r rest =
        if-case (λ (j : ℕ). X s ≡ ends_at st x (take k (drop j (p ∷ ps))) → ends_after_x s (p ∷ ps) ≡ drop k (drop j (p ∷ ps)))
        (before u x (ends st p))
        (λ t. first-left k x o p ps e r (omega (arith, e, ltb-true (distance u x) (distance u (ends st p)) t)))
        (λ t at. gone p ps (omega (arith, up, ltb-false (distance u x) (distance u (ends st p)) t)) ∙ rest at)

    after-left : (k o : ℕ) (ps : List Packet) → RunsLow (span st) u o ps n → X s ≡ ends_at st x (take k (waited ps)) → ends_after_x s ps ≡ drop k (waited ps)
    after-left zero o [] r at = refl
    after-left (suc k) o [] r at = refl
    after-left k o (p ∷ ps) r at = one_left k (o + span st p) p ps (next-starts o p ps r) r.2 (after-left k (o + span st p) ps r.2) at

    starts-left : (k : ℕ) (ps : List Packet) → StartsLow (span st) u ps n → X s ≡ ends_at st x (take k (waited ps)) → ends_after_x s ps ≡ drop k (waited ps)
    starts-left zero [] h at = refl
    starts-left (suc k) [] h at = refl
    starts-left k (p ∷ ps) h at =
        let o = span st p - distance p.psn u in
        one_left k o p ps (first_ends st u u-low n n-low near p ps h) h.2 (after-left k o ps h.2) at

pub waiting-is : (s : Side) → InOrder s → waiting s ≡ ending_after s
waiting-is s o = starts-after s o.u-low (N s) o.n-low o.near s.packets o.starts

-- "the number of packets written equals the smaller of the budget and the records ending after X; a held pair writes 0"
pub going-is : (budget : ℕ) (s : Side) → InOrder s
    → going budget s ≡ (if ltb 0 s.standing.clock.hold then 0 else min budget (length (ending_after s)))
going-is budget s o = ap (λ (l : List Packet). if ltb 0 s.standing.clock.hold then 0 else min budget (length l)) (waiting-is s o)

-- what waits after an emission is what waited, less those that went
pub left_is : (budget : ℕ) (s : Side) → InOrder s → ending_after (emitted budget s) ≡ drop (going budget s) (ending_after s)
unfolding emitted
left_is budget s o =
    starts-left (emitted budget s) o.u-low (N s) o.n-low o.near (X s) (moved s o (going budget s)).past (going budget s) s.packets o.starts refl
    ∙ ap (drop (going budget s)) (waiting-is s o)

-- from audited tables
pub audited-waiting : (card : Card) (t : Tables) → Audit card t → (p : ℕ) → p < card.pairs → (side t p).standing.state ≡ 1
    → waiting (side t p) ≡ ending_after (side t p)
audited-waiting card t a p h ready = waiting-is (side t p) (audited-order a p h ready)
