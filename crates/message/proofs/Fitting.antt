-- A post's places are its split, and nothing is cut of a post that is allowed or of what an audited pair holds.
use Rattle.std.specs.Prelude.{if◌then◌else◌}
use mathlib.Core.Path.{◌≡◌, refl, sym}
use mathlib.Core.Bool.{Bool, true, false}
use mathlib.Core.List.{[], ◌∷◌, map, append-nil}
use Prim.Native.Nat.{ℕ, zero, suc, ◌+◌, ◌*◌, ◌%◌, ◌^◌, ◌≤◌, ◌<◌}
use native.Mathlib.Omega.{arith}
use native.Mathlib.Nat.{zero-add, add-zero, add-suc, suc-add, le_of_suc-le-suc, not-suc-le-zero, mod-eq_of_lt}
use lib.Dec.{eqb}
use borrow.Author.Tests.{eq-eqb, eqb-true, eqb-false}
use Rattle.refusal.specs.Choice.{Each}
use Rattle.refusal.proofs.Cases.{by-test, if-case}
use Rattle.psn.specs.Psn.{distance}
use Rattle.rules.specs.declared.Packet.{Packet}
use Rattle.rules.specs.declared.Settings.{Settings}
use Rattle.rules.specs.declared.Standing.{Standing}
use Rattle.rules.specs.declared.Post.{Post}
use Rattle.rules.specs.Message.{asks_read, is_read, pmtu, slots_for, psns_for, read_request, made, packet_at, from, packets_of, unanswered}
use Rattle.rules.specs.Order.{◌or◌, left, right}
use Rattle.rules.specs.Emission.{sent}
use Rattle.rules.specs.WholeMessages.{Allowed, Remaining, rear, no_more}
use Rattle.rules.proofs.Sides.Good.{length-packets}
use Rattle.rules.proofs.Sides.Headers.{held-ask}
use Rattle.rules.proofs.Sides.Fits as fits
use Rattle.rules.proofs.Sides.Fits.{Fits, packets-fit, sent-inside}
use Rattle.message.specs.Capped.{cut}
use Rattle.message.specs.Places.{place_at, sent_by}
use Rattle.message.proofs.Cuts.{cut-same}

pub split-is : (s : Settings) (m : Post) (first : ℕ) → map (place_at s m first) (from 0 (slots_for s m)) ≡ packets_of s m first
unfolding packets_of
split-is s m first = go (asks_read m) (made read_request m first m.offset m.length) (packet_at s m first) (psns_for s m)
  where
    go : (b : Bool) (p : Packet) (f : ℕ → Packet) (n : ℕ)
        → map (λ (i : ℕ). if b then p else f i) (from 0 (if b then 1 else n)) ≡ (if b then p ∷ [] else map f (from 0 n))
    go true p f n = refl
    go false p f n = refl

-- ---- one place

each-place : (P : Packet → Type 0) (f : ℕ → Packet) (a n : ℕ) → Each P (map f (from a n)) → (i : ℕ) → i < n → P (f (a + i))
each-place P f a zero h i l = absurd (not-suc-le-zero l)
each-place P f a (suc n) h zero l = rw add-zero h.0
each-place P f a (suc n) h (suc i) l = rw (add-suc, ← suc-add) (each-place P f (suc a) n h.1 i (le_of_suc-le-suc l))

module _ (s : Settings) (m : Post) (first i : ℕ) (ok : Allowed s m) (h : i < slots_for s m) where
  -- what holds of all packets holds of this one
  at_place : (P : Packet → Type 0) → Each P (packets_of s m first) → P (place_at s m first i)
  at_place P e = rw zero-add at (each-place P (place_at s m first) 0 (slots_for s m) (rw (split-is s m first) e) i h)

  whole : Remaining s (packets_of s m first)
  whole = rear m first 0 [] ok (rw (length-packets s m first) (omega arith)) (sym (append-nil (packets_of s m first))) no_more

  pub place-fits : cut (place_at s m first i) ≡ place_at s m first i
  place-fits =
      cut-same (place_at s m first i) (omega (arith, at_place (λ p. p.opcode ≤ read_request) (held-ask s whole)))
      (at_place Fits (packets-fit s m first ok)).offset

-- ---- what goes out

-- an address that stays, or that fits, is not cut
kept : (a b : ℕ) → (a ≡ b) or (a < 2 ^ 64) → (if eqb a b then b else a % 2 ^ 64) ≡ a
kept a b (left e) = rw (eq-eqb a b e) (sym e)
kept a b (right l) = if-case (λ (x : ℕ). x ≡ a) (eqb a b) (λ e. sym (eqb-true a b e)) (λ _. mod-eq_of_lt l)

-- "A read emitted at U after k responses carries .. address + k × PMTU": inside the read, or the address itself
stands : (t : Standing) (p : Packet) → Fits p
    → ((sent t p).opcode ≡ p.opcode) × ((sent t p).offset < 2 ^ 32) × (((sent t p).address ≡ p.address) or ((sent t p).address < 2 ^ 64))
stands t p f =
    if-case (λ (q : Packet). (q.opcode ≡ p.opcode) × (q.offset < 2 ^ 32) × ((q.address ≡ p.address) or (q.address < 2 ^ 64))) (is_read p)
    (λ e. (
      refl,
      (inside e).0,
      by-test (eqb done 0) (λ none. left (rw (eqb-true done 0 none) (omega arith))) (λ some. right ((inside e).1 (omega (arith, eqb-false done 0 some)))),
    ))
    (λ _. (refl, f.offset, left refl))
  where
    done : ℕ
    done = distance p.psn (unanswered t p)

    inside : is_read p ≡ true
        → (p.offset + done * pmtu t.settings < 2 ^ 32) × (0 < done → p.address + done * pmtu t.settings < 2 ^ 64)
        × (done * pmtu t.settings ≤ p.total)
    inside e = fits.place-fits t.settings p f e done (sent-inside t p)

pub sent-fits : (t : Standing) (p : Packet) → Fits p → p.opcode ≤ read_request → sent_by t p ≡ sent t p
unfolding sent_by cut
sent-fits t p f op =
    let is = stands t p f in
    let low : (sent t p).opcode < 2 ^ 8 = rw is.0 (omega arith) in
    rw (mod-eq_of_lt low, mod-eq_of_lt is.1, kept (sent t p).address p.address is.2)
