-- What a request writes fits the lent buffer, which keeps its length; and the count in the answer is the messages'.
use mathlib.Core.Path.{◌≡◌, refl}
use mathlib.Core.Bool.{false, not}
use mathlib.Core.List.{List, [], ◌∷◌}
use Prim.Native.Nat.{ℕ, ◌*◌, ◌≤◌, ◌<◌}
use native.Mathlib.Omega.{arith}
use lib.Dec.{eqb, ltb}
use borrow.Author.Tests.{ltb-false, eqb-false}
use lib.ListN.{length, drop, length-append, length-drop, length-take}
use Rattle.refusal.proofs.Cases.{by-test, if-case}
use Rattle.rules.specs.declared.Packet.{Packet}
use Rattle.rules.specs.declared.Standing.{Standing}
use Rattle.wire.proofs.Bytes.{bytes-length}
use Rattle.wire.proofs.Writing.{bytes_whole}
use Rattle.rules.specs.Card.{Card}
use Rattle.rules.specs.Account.{Side}
use Rattle.rules.specs.Emission.{waiting, going, outgoing, sent, header_of, record_bytes, emission, emissions}
use Rattle.rules.specs.declared.Outcome.{Outcome}
use Rattle.rules.specs.Outcome.{departures, completions, closing_all}
use Rattle.rules.specs.Acknowledge.{acknowledge}
use Rattle.rules.specs.Response.{response}
use Rattle.rules.specs.Timer.{timer}
use Rattle.rules.specs.Slots.{Tables, sides}
use Rattle.rules.specs.Calls.{overlaid, effect, call}
use Rattle.rules.specs.Passes.Tables.{passes}
use Rattle.rules.specs.Refusals.{side_at, refusals}
use Rattle.rules.specs.Requests.{Request, opening, posting, emitting, acknowledging, responding, ticking, closing, on, lent}
use Rattle.rules.proofs.Passes.Decided.{sound}
use Rattle.refusal.specs.Refusals.{first_given}
use Rattle.refusal.proofs.Given.{by-given}
use Rattle.rules.proofs.Calls.Completions.{completions-most}
use Rattle.rules.proofs.Ranges.{in-range}
use Rattle.rules.proofs.Calls.Accepted.{Accepted, accepted, is-ready}
use Rattle.rules.proofs.Calls.Well.{Well}
use Rattle.rules.proofs.Calls.Moves.{well-of}

-- ---- emissions

length-written : (new old : List ℕ) → length new ≤ length old → length (overlaid new old) ≡ length old
length-written new old h = omega (arith, length-append new (drop (length new) old), length-drop (length new) old)

pub going-most : (budget : ℕ) (s : Side) → going budget s ≤ budget
going-most budget s = if-case (λ (n : ℕ). n ≤ budget) (ltb 0 s.standing.clock.hold) (λ _. omega arith) (λ _. omega arith)

length-emission : (t : Standing) (p : Packet) → length (emission t p) ≡ record_bytes
length-emission t p =
    let q = sent t p in
    simp (length-append, bytes-length, bytes_whole (header_of t.settings q)) refl

pub length-emissions : (t : Standing) (ps : List Packet) → length (emissions t ps) ≡ record_bytes * length ps
length-emissions t [] = refl
length-emissions t (p ∷ ps) = omega (arith, length-append (emission t p) (emissions t ps), length-emission t p, length-emissions t ps)

-- ---- the lent buffer

module _ (card : Card) (a : List Side) (w : Well card a) (p : ℕ) where
  ready : not (eqb (side_at a p).standing.state 1) ≡ false → (side_at a p).standing.state ≡ 1
  ready e = is-ready e

  events : (o : Outcome) (b : List ℕ) → p < card.pairs → 0 < (side_at a p).standing.state → ltb (length b) (2 * card.slots) ≡ false → length (overlaid (completions (departures o.released o.flushed (side_at a p).packets)) b) ≡ length b
  events o b hp up long =
      let f = (w.good p hp).bounded up in
      length-written (completions (departures o.released o.flushed (side_at a p).packets)) b
      (omega (arith, ltb-false (length b) (2 * card.slots) long, completions-most o.released o.flushed (side_at a p).packets, f.held, (in-range f.settings).ceiling))

  pub buffer-kept : (q : Request) → Accepted card q p a → length (effect q (side_at a p)).buffer ≡ length (lent q)
  buffer-kept (opening st psn) h = refl
  buffer-kept (posting m) h = refl
  buffer-kept (emitting budget b) h =
      let s = side_at a p in
      length-written (emissions s.standing (outgoing budget s)) b
      (omega (
        arith,
        ltb-false (length b) (record_bytes * budget) h.buffer,
        length-emissions s.standing (outgoing budget s),
        length-take (going budget s) (waiting s),
        going-most budget s,
      ))
  buffer-kept (acknowledging r y b) h = events (acknowledge r y (side_at a p)) b h.pair (omega (arith, ready h.state)) h.buffer
  buffer-kept (responding r o l b) h = events (response r (side_at a p)) b h.pair (omega (arith, ready h.state)) h.buffer
  buffer-kept (ticking e b) h = events (timer e (side_at a p)) b h.pair (omega (arith, ready h.state)) h.buffer
  buffer-kept (closing b) h = events (closing_all (length (side_at a p).packets)) b h.pair (omega (arith, eqb-false (side_at a p).standing.state 0 h.state)) h.buffer

-- whatever the tables, a call leaves the buffer as long as it was
pub call_buffer : (card : Card)
    → (t : Tables) (p : ℕ) (q : Request) → length (call card (on p q) t).said.buffer ≡ length (lent q)
unfolding call
call_buffer card t p q =
    by-test (passes card t)
    (λ e. rw e
    (by-given (first_given (refusals card q p (sides t)))
    (λ z. rw z (buffer-kept card (sides t) (well-of card t (sound card t e)) p q (accepted card q p (sides t) z)))
    (λ k z. rw z)))
    (λ e. rw e)
