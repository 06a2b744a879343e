-- An emission keeps the order: X comes to stand at a record's start or at N.
use mathlib.Core.Path.{◌≡◌, refl, sym, ◌∙◌, subst}
use mathlib.Core.Bool.{Bool, true}
use mathlib.Core.List.{List, [], ◌∷◌}
use Prim.Native.Nat.{ℕ, zero, suc, ◌+◌, ◌-◌, ◌≤◌, ◌<◌}
use native.Mathlib.Omega.{arith}
use borrow.Author.Tests.{ltb-true, ltb-false}
use lib.ListN.{take, drop}
use Rattle.refusal.proofs.Cases.{if-case}
use Rattle.rules.specs.declared.Packet.{Packet}
use Rattle.rules.specs.declared.Settings.{Settings}
use Rattle.psn.specs.Psn.{psns, half, distance, before}
use Rattle.rules.specs.Account.{Side, U, X, H, N, ahead, further}
use Rattle.rules.specs.Message.{span}
use Rattle.rules.specs.Emission.{ends, waiting, going, ends_at, emitted}
use Rattle.rules.specs.Order.{◌or◌, left, right, Past, Start}
use Rattle.rules.proofs.Sides.InOrder.{RunsLow, StartsLow, InOrder}
use Rattle.psn.proofs.Laws.{distance_is, distance-step, distance-inj}
use Rattle.rules.proofs.Sides.Order.{runs-end}

module _ (s : Settings) (u : ℕ) (u-low : u < psns) (n : ℕ) (n-low : n < psns) (near : distance u n ≤ half) where
  -- y is at the place where a run starts
  stands_at : (y : ℕ) → y < psns → (o : ℕ) (ps : List Packet) → distance u y ≡ o → RunsLow (span s) u o ps n → (y ≡ n) or Start y ps
  stands_at y low o [] e r = left (distance-inj u y n low n-low (e ∙ r))
  stands_at y low o (p ∷ ps) e r = right (left (distance-inj u y p.psn low r.0 (e ∙ sym r.1)))

  -- where X comes to stand, from the place o
  pub record Stop (o : ℕ) (ps : List Packet) (y : ℕ) : Type 0 where
    pub low : y < psns
    pub past : o ≤ distance u y
    pub within : distance u y ≤ distance u n
    pub at : (y ≡ n) or Start y ps

  pub stop : (k x : ℕ) → x < psns → (o : ℕ) (ps : List Packet) → distance u x ≡ o → RunsLow (span s) u o ps n → Stop o ps (ends_at s x (take k ps))
  stop zero x low o ps e r =
      record { low = low; past = omega arith; within = omega (arith, runs-end (span s) u u-low o ps n r); at = stands_at x low o ps e r }
  stop (suc k) x low o [] e r =
      record { low = low; past = omega arith; within = omega (arith, runs-end (span s) u u-low o [] n r); at = stands_at x low o [] e r }
  stop (suc k) x low o (p ∷ ps) e r =
      let c = stop k (ends s p) (omega arith) (o + span s p) ps
      (omega (arith, r.1, distance-step u p.psn (span s p) (omega (arith, r.1, runs-end (span s) u u-low (o + span s p) ps n r.2))))
      r.2 in
      record { low = c.low; past = omega (arith, c.past); within = c.within; at = later c.at }
    where
      later : {y : ℕ} → (y ≡ n) or Start y ps → (y ≡ n) or Start y (p ∷ ps)
      later (left e) = left e
      later (right q) = right (right q)

  -- the record at U: it ends at the place where the next starts
  pub first_ends : (p : Packet) (ps : List Packet) → StartsLow (span s) u (p ∷ ps) n → distance u (ends s p) ≡ span s p - distance p.psn u
  first_ends p ps h =
      omega (
        arith,
        h.1,
        runs-end (span s) u u-low (span s p - distance p.psn u) ps n h.2,
        distance_is p.psn u,
        distance_is u (ends s p),
        near,
      )

  -- behind a record, the run goes on from its end
  abbrev After : List Packet → Type 0
  After [] = Unit {0}
  After (p ∷ ps) = RunsLow (span s) u (distance u (ends s p)) ps n

  after-runs : (j o : ℕ) (ps : List Packet) → RunsLow (span s) u o ps n → After (drop j ps)
  after-runs zero o [] r = tt
  after-runs zero o (p ∷ ps) r =
      subst (λ (d : ℕ). RunsLow (span s) u d ps n)
      (omega (arith, r.1, distance-step u p.psn (span s p) (omega (arith, r.1, near, runs-end (span s) u u-low (o + span s p) ps n r.2))))
      r.2
  after-runs (suc j) o [] r = tt
  after-runs (suc j) o (p ∷ ps) r = after-runs j (o + span s p) ps r.2

  after-starts : (j : ℕ) (ps : List Packet) → StartsLow (span s) u ps n → After (drop j ps)
  after-starts zero [] h = tt
  after-starts zero (p ∷ ps) h = subst (λ (d : ℕ). RunsLow (span s) u d ps n) (sym (first_ends p ps h)) h.2
  after-starts (suc j) [] h = tt
  after-starts (suc j) (p ∷ ps) h = after-runs j _ ps h.2

-- the first record behind those ahead passes the test
abbrev Hit : (Packet → Bool) → List Packet → Type 0
Hit t [] = Unit {0}
Hit t (p ∷ ps) = t p ≡ true

hit : (t : Packet → Bool) (ps : List Packet) → Hit t (drop (ahead t ps) ps)
hit t [] = tt
hit t (p ∷ ps) = if-case (λ (k : ℕ). Hit t (drop k (p ∷ ps))) (t p) (λ e. e) (λ e. hit t ps)

start-drop : (y j : ℕ) (ps : List Packet) → Start y (drop j ps) → Start y ps
start-drop y zero ps q = q
start-drop y (suc j) [] q = q
start-drop y (suc j) (p ∷ ps) q = right (start-drop y j ps q)

-- X after: where it was, or further on, at a record's start or at N
pub record Moved (s : Side) (y : ℕ) : Type 0 where
  pub low : y < psns
  pub past : distance (U s) (X s) ≤ distance (U s) y
  pub within : distance (U s) y ≤ distance (U s) (N s)
  pub at : (y ≡ U s) or (y ≡ N s) or Start y s.packets

pub moved : (s : Side) → InOrder s → (k : ℕ) → Moved s (ends_at s.standing.settings (X s) (take k (waiting s)))
moved s o k = go k (waiting s) (hit after s.packets) (after-starts st (U s) o.u-low (N s) o.n-low o.near (ahead after s.packets) s.packets o.starts) (λ y. start-drop y (ahead after s.packets) s.packets)
  where
    st : Settings
    st = s.standing.settings

    after : Packet → Bool
    after p = before (U s) (X s) (ends st p)

    same : Moved s (X s)
    same = record { low = o.x-low; past = omega arith; within = omega (arith, o.u-x-h, o.u-h-n); at = o.x-stands }

    go : (k : ℕ) (ps : List Packet) → Hit after ps → After st (U s) o.u-low (N s) o.n-low o.near ps → ((y : ℕ) → Start y ps → Start y s.packets)
        → Moved s (ends_at st (X s) (take k ps))
    go zero ps h r f = same
    go (suc k) [] h r f = same
    go (suc k) (p ∷ ps) h r f =
        let c = stop st (U s) o.u-low (N s) o.n-low o.near k (ends st p) (omega arith) (distance (U s) (ends st p)) ps refl r in
        record { low = c.low; past = omega (arith, c.past, ltb-true (distance (U s) (X s)) (distance (U s) (ends st p)) h); within = c.within; at = there c.at }
      where
        there : {y : ℕ} → (y ≡ N s) or Start y ps → (y ≡ U s) or (y ≡ N s) or Start y s.packets
        there (left e) = right (left e)
        there {y} (right q) = right (right (f y (right q)))

past_up : (size : Packet → ℕ) (u h h' : ℕ) (ps : List Packet) → distance u h ≤ distance u h' → Past size u h ps → Past size u h' ps
past_up size u h h' [] l x = tt
past_up size u h h' (p ∷ ps) l x = λ e. omega (arith, x e, l)

pub ordered-emitted : (s : Side) → InOrder s → (budget : ℕ) → InOrder (emitted budget s)
unfolding emitted
ordered-emitted s o budget = with-y _ (moved s o (going budget s))
  where
    with-y : (y : ℕ) → Moved s y
        → InOrder (record {
          standing = record { state = s.standing.state; settings = s.standing.settings; line = record { u = U s; x = y; h = further (U s) (H s) y; n = N s }; clock = s.standing.clock };
          packets = s.packets;
        })
    with-y y c =
        if-case (λ (h : ℕ). InOrder (record {
          standing = record { state = s.standing.state; settings = s.standing.settings; line = record { u = U s; x = y; h = h; n = N s }; clock = s.standing.clock };
          packets = s.packets;
        }))
        (before (U s) (H s) y)
        (λ e. record {
          u-low = o.u-low;
          x-low = c.low;
          h-low = c.low;
          n-low = o.n-low;
          starts = o.starts;
          u-x-h = omega arith;
          u-h-n = c.within;
          near = o.near;
          x-stands = c.at;
          h-stands = c.at;
          h-past = past_up (span s.standing.settings) (U s) (H s) y s.packets (omega (arith, ltb-true (distance (U s) (H s)) (distance (U s) y) e)) o.h-past;
        })
        (λ e. record {
          u-low = o.u-low;
          x-low = c.low;
          h-low = o.h-low;
          n-low = o.n-low;
          starts = o.starts;
          u-x-h = ltb-false (distance (U s) (H s)) (distance (U s) y) e;
          u-h-n = o.u-h-n;
          near = o.near;
          x-stands = c.at;
          h-stands = o.h-stands;
          h-past = o.h-past;
        })
