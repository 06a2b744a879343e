-- A scan finds the first packet that is sought, wherever it stops.
use Rattle.std.specs.Prelude.{Option, None, Some, is_some, if◌then◌else◌}
use mathlib.Core.Path.{◌≡◌, refl, sym, ap, ◌∙◌}
use mathlib.Core.Bool.{Bool, true, false, ◌||◌, true≢false}
use mathlib.Core.List.{List, [], ◌∷◌, map}
use Prim.Native.Nat.{ℕ, zero, suc, ◌-◌, ◌<◌}
use native.Mathlib.Omega.{arith}
use lib.Dec.{ltb}
use borrow.Author.Tests.{ltb-true, ltb-false, lt-ltb, le-ltb}
use lib.ListN.{length, get_or, length-map}
use Rattle.refusal.proofs.Cases.{by-test, if-case, or_left, or_right}
use Rattle.rules.specs.declared.Packet.{Packet}
use Rattle.rules.specs.declared.Pair.{Pair}
use Rattle.rules.specs.declared.Slot.{Slot}
use Rattle.rules.specs.declared.Standing.{Standing}
use Rattle.rules.specs.Card.{small}
use Rattle.rules.specs.Account.{ahead, no_packet}
use Rattle.rules.specs.Slots.{slot_at, follow, spelled, side_of}
use Rattle.rules.proofs.Slots.Queues.{length-follow}
use Rattle.refusal.proofs.Loop.{loop-done, loop-more}
use Rattle.message.specs.Capped.{tidy}
use Rattle.engine.specs.declared.Ask.{Ask}
use Rattle.engine.specs.declared.Seek.{Seek}
use Rattle.outcomes.specs.declared.Found.{Found}
use Rattle.engine.specs.declared.Search.{Search}
use Rattle.engine.specs.declared.Scan.{Scan}
use Rattle.engine.specs.Scanning.{sought, seek_step, wants, search_for, main_seek, read_seek, begin_scan, scan_turn, scanned}
use Rattle.outcomes.specs.Finding.{found_in}

-- each step leaves fewer slots to look at
pub scan-less : (s : List Slot) (w : Scan) → 0 < w.left → (scan_turn s w).left < w.left
scan-less s w l =
    if-case (λ (n : ℕ). n < w.left) (wants (scan_turn s w).main || wants (scan_turn s w).read) (λ _. omega arith) (λ _. l)

less_one : (a b : ℕ) → suc a - suc b ≡ a - b
less_one a b = omega arith

below-one : (a b : ℕ) → ltb (suc a) (suc b) ≡ ltb a b
below-one a b =
    by-test (ltb a b)
    (λ h. lt-ltb (suc a) (suc b) (omega (arith, ltb-true a b h)) ∙ sym h)
    (λ h. le-ltb (suc a) (suc b) (omega (arith, ltb-false a b h)) ∙ sym h)

-- a packet that is not sought is passed over
skips : (test : Packet → Bool) (a : ℕ) (l : List ℕ) (p : Packet) (ps : List Packet) → test p ≡ false → found_in test (a ∷ l) (p ∷ ps) ≡ found_in test l ps
skips test a l p ps e =
    rw e
    (λ i.
    if below-one (ahead test ps) (length ps) i
    then Some (record { left = less_one (length ps) (ahead test ps) i; slot = get_or l (ahead test ps) small.none; packet = get_or ps (ahead test ps) no_packet })
    else None)

-- the first that is sought is found
hits : (test : Packet → Bool) (a : ℕ) (l : List ℕ) (p : Packet) (ps : List Packet) → test p ≡ true
    → found_in test (a ∷ l) (p ∷ ps) ≡ Some (record { left = suc (length ps); slot = a; packet = p })
hits test a l p ps e =
    rw e (λ i. if lt-ltb 0 (suc (length ps)) (omega arith) i then Some (record { left = all i; slot = a; packet = p }) else None)
  where
    all : suc (length ps) - 0 ≡ suc (length ps)
    all = omega arith

-- where nothing is sought nothing is found
none-passes : (ps : List Packet) → ahead (λ _. false) ps ≡ length ps
none-passes [] = refl
none-passes (p ∷ ps) = ap suc (none-passes ps)

idle-finds : (l : List ℕ) (ps : List Packet) → found_in (λ _. false) l ps ≡ None
idle-finds l ps = rw (le-ltb (ahead (λ _. false) ps) (length ps) (omega (arith, none-passes ps)))

abbrev search : Option Seek → Option Found → Search
search q f = record { seek = q; found = f }

-- what was found before, else what is found now
abbrev or_else : Option Found → Option Found → Option Found
or_else None g = g
or_else (Some f) g = Some f

module _ (s : List Slot) (t : Standing) where
  abbrev packets : ℕ → ℕ → List Packet
  packets at k = map (λ i. (slot_at s i).packet) (follow s at k)

  many : (at k : ℕ) → length (packets at k) ≡ k
  many at k = length-map (follow s at k) (λ i. (slot_at s i).packet) ∙ length-follow s at k

  -- what a search comes to over the next k slots
  abbrev ran : ℕ → ℕ → Search → Search
  ran k at c = search c.seek (or_else c.found (found_in (sought t c.seek) (follow s at k) (packets at k)))

  ran-none : (at : ℕ) (q : Option Seek) (f : Option Found) → ran 0 at (search q f) ≡ search q f
  ran-none at q None = refl
  ran-none at q (Some f) = refl

  -- a search that wants nothing stays as it is
  ran-idle : (k at : ℕ) (q : Option Seek) (f : Option Found) → wants (search q f) ≡ false → ran k at (search q f) ≡ search q f
  ran-idle k at q (Some f) e = refl
  ran-idle k at None None e = ap (search None) (idle-finds (follow s at k) (packets at k))
  ran-idle k at (Some q) None e = absurd (true≢false e)

  ran-step : (k at : ℕ) (q : Option Seek) (f : Option Found)
      → ran (suc k) at (search q f) ≡ ran k (slot_at s at).link (seek_step t (suc k) at (slot_at s at).packet (search q f))
  ran-step k at q (Some f) = refl
  ran-step k at q None =
      by-test (sought t q (slot_at s at).packet)
      (λ e.
      ap (search q) (hits (sought t q) at (follow s (slot_at s at).link k) (slot_at s at).packet (packets (slot_at s at).link k) e)
      ∙ (λ i. search q (Some (record { left = suc (many (slot_at s at).link k i); slot = at; packet = (slot_at s at).packet })))
      ∙ sym (rw e))
      (λ e.
      ap (search q) (skips (sought t q) at (follow s (slot_at s at).link k) (slot_at s at).packet (packets (slot_at s at).link k) e)
      ∙ sym (rw e))

  -- both searches of a scan come to this, over as many slots as are left
  abbrev Runs : ℕ → Type 0
  Runs k =
      (w : Scan) → w.left ≡ k → tidy w.standing ≡ t → ((scanned s w).main ≡ ran k w.at w.main) × ((scanned s w).read ≡ ran k w.at w.read)

  scan-none : Runs 0
  scan-none w z o =
      let e = loop-done (λ (x : Scan). x.left) (scan_turn s) (scan-less s) w z in
      (ap (λ (x : Scan). x.main) e ∙ sym (ran-none w.at w.main.seek w.main.found), ap (λ (x : Scan). x.read) e ∙ sym (ran-none w.at w.read.seek w.read.found))

  scan-more : (k : ℕ) → Runs k → Runs (suc k)
  scan-more k ih w z o =
      (ap (λ (x : Scan). x.main) more ∙ ends.0 ∙ sym (stepped w.main), ap (λ (x : Scan). x.read) more ∙ ends.1 ∙ sym (stepped w.read))
    where
      more : scanned s w ≡ scanned s (scan_turn s w)
      more = loop-more (λ (x : Scan). x.left) (scan_turn s) (scan-less s) w (omega (arith, z))

      moved : Search → Search
      moved c = seek_step (tidy w.standing) w.left w.at (slot_at s w.at).packet c

      moved-is : (c : Search) → moved c ≡ seek_step t (suc k) w.at (slot_at s w.at).packet c
      moved-is c = λ i. seek_step (o i) (z i) w.at (slot_at s w.at).packet c

      stepped : (c : Search) → ran (suc k) w.at c ≡ ran k (slot_at s w.at).link (moved c)
      stepped c = ran-step k w.at c.seek c.found ∙ ap (ran k (slot_at s w.at).link) (sym (moved-is c))

      idle : (c : Search) → wants c ≡ false → c ≡ ran k (slot_at s w.at).link c
      idle c e = sym (ran-idle k (slot_at s w.at).link c.seek c.found e)

      ends : ((scanned s (scan_turn s w)).main ≡ ran k (slot_at s w.at).link (moved w.main))
          × ((scanned s (scan_turn s w)).read ≡ ran k (slot_at s w.at).link (moved w.read))
      ends =
          by-test (wants (moved w.main) || wants (moved w.read))
          (λ e. ih (scan_turn s w) (rw e (omega (arith, z))) o)
          (λ e.
          let d = loop-done (λ (x : Scan). x.left) (scan_turn s) (scan-less s) (scan_turn s w) (rw e) in (
            ap (λ (x : Scan). x.main) d ∙ idle (moved w.main) (or_left (wants (moved w.main)) (wants (moved w.read)) e),
            ap (λ (x : Scan). x.read) d ∙ idle (moved w.read) (or_right (wants (moved w.main)) (wants (moved w.read)) e),
          ))

  runs : (k : ℕ) → Runs k
  runs zero = scan-none
  runs (suc k) = scan-more k (runs k)

-- what a call's scan has found, where the audit passed: the first such packets of its pair
module _ (s : List Slot) (v : Option ℕ) (p : Pair) (ask : Ask) (ok : is_some v ≡ true) where
  abbrev first : Search
  first = search_for (main_seek p.standing ask)

  abbrev second : Search
  second = search_for (read_seek p.standing ask)

  abbrev over : Search → Search
  over c = ran s (tidy p.standing) p.queue.held p.queue.first c

  both_run : ((scanned s (begin_scan v p ask)).main ≡ over first) × ((scanned s (begin_scan v p ask)).read ≡ over second)
  both_run =
      by-test (wants first || wants second)
      (λ e. runs s (tidy p.standing) p.queue.held (begin_scan v p ask) (rw (ok, e)) refl)
      (λ e.
      let d = loop-done (λ (x : Scan). x.left) (scan_turn s) (scan-less s) (begin_scan v p ask) (rw (ok, e)) in (
        ap (λ (x : Scan). x.main) d ∙ sym (ran-idle s (tidy p.standing) p.queue.held p.queue.first first.seek None (or_left (wants first) (wants second) e)),
        ap (λ (x : Scan). x.read) d ∙ sym (ran-idle s (tidy p.standing) p.queue.held p.queue.first second.seek None (or_right (wants first) (wants second) e)),
      ))

  pub scan-is : ((scanned s (begin_scan v p ask)).main.found ≡ found_in (sought (tidy p.standing) (main_seek p.standing ask)) (spelled s p.queue) (side_of s p).packets)
      × ((scanned s (begin_scan v p ask)).read.found ≡ found_in (sought (tidy p.standing) (read_seek p.standing ask)) (spelled s p.queue) (side_of s p).packets)
  unfolding side_of
  scan-is = (ap (λ (c : Search). c.found) both_run.0, ap (λ (c : Search). c.found) both_run.1)
