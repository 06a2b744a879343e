-- What goes out is a written header, never the 32 zeros of a refused one: every field is in its range.
use Rattle.std.specs.Prelude.{Ok, if◌then◌else◌}
use mathlib.Core.Path.{◌≡◌, refl, subst}
use mathlib.Core.Bool.{false}
use mathlib.Core.List.{List, ◌++◌}
use Prim.Native.Nat.{ℕ, suc, ◌+◌, ◌-◌, ◌*◌, ◌%◌, ◌≤◌, ◌<◌}
use native.Mathlib.Omega.{arith}
use lib.Dec.{eqb, ltb}
use borrow.Author.Tests.{eqb-false, le-ltb, lt-leb, le-leb}
use lib.ListN.{replicate}
use Rattle.refusal.proofs.Each.{each-drop, each_map, each_both}
use Rattle.refusal.specs.Choice.{Each}
use Rattle.refusal.proofs.Cases.{if-case}
use Rattle.psn.specs.Psn.{psns, distance, before}
use Rattle.wire.specs.Opcodes.{header_length}
use Rattle.wire.specs.Header.{header_bytes, written, is_out_of_range, write_of}
use Rattle.wire.proofs.Writing.{write-whole}
use Rattle.rules.specs.declared.Packet.{Packet}
use Rattle.rules.specs.declared.Settings.{Settings}
use Rattle.rules.specs.declared.Standing.{Standing}
use Rattle.rules.specs.declared.Post.{Post}
use Rattle.rules.specs.Card.{Card}
use Rattle.rules.specs.Account.{U, X, ahead}
use Rattle.rules.specs.Message.{psns_for, opcode_at, read_request, packet_at, from, packets_of, is_read, span}
use Rattle.rules.specs.Emission.{ends, waiting, sent, pad_for, header_of}
use Rattle.rules.specs.Slots.{Tables, side}
use Rattle.rules.specs.WholeMessages.{Remaining}
use Rattle.rules.specs.Audit.{Audit}
use Rattle.rules.proofs.Ranges.{in-range, permitted}
use Rattle.rules.proofs.Sides.Messages.{remaining-each}

-- "emission's pad fills the payload to a multiple of 4"
pub pad-fills : (n : ℕ) → (n + pad_for n) % 4 ≡ 0
pad-fills n = omega arith

-- "pad over 3 .. is 3": never here
pub pad-small : (n : ℕ) → pad_for n ≤ 3
pad-small n = omega arith

-- ---- the opcodes of what a pair holds

abbrev Asks : Packet → Type 0
Asks p = p.opcode ≤ read_request

opcode-low : (m : Post) (n i : ℕ) → m.kind ≤ 1 → opcode_at m n i ≤ read_request
opcode-low m n i k =
    place (if m.immediate then 1 else 0) (if-case (λ (late : ℕ). late ≤ 1) m.immediate (λ _. omega arith) (λ _. omega arith))
  where
    P : ℕ → Type 0
    P x = 6 * m.kind + x ≤ 12

    place : (late : ℕ) → late ≤ 1 → P (if eqb n 1 then 4 + late else if eqb (suc i) n then 2 + late else if eqb i 0 then 0 else 1)
    place late l =
        if-case P (eqb n 1) (λ _. omega arith) (λ _.
        if-case P (eqb (suc i) n) (λ _. omega arith) (λ _.
        if-case P (eqb i 0) (λ _. omega arith) (λ _. omega arith)))

packets-ask : (s : Settings) (m : Post) (first : ℕ) → m.kind ≤ 2 → Each Asks (packets_of s m first)
unfolding packets_of
packets-ask s m first k =
    if-case (Each Asks) (eqb m.kind 2)
    (λ _. (omega arith, tt))
    (λ e. each_map Asks (packet_at s m first) (from 0 (psns_for s m)) (λ i. opcode-low m (psns_for s m) i (omega (arith, eqb-false m.kind 2 e))))

-- "Send First 0" to "Read Request 12", nothing else
pub held-ask : (s : Settings) {ps : List Packet} → Remaining s ps → Each (λ p. p.opcode ≤ read_request) ps
held-ask s = remaining-each s Asks (λ m a f. packets-ask s m a (permitted f).kind)

-- ---- a header in range

-- "pad over 3, or far pair, PSN or MSN of 2^24 or more, is 3": none of them
in-its-range : (s : Settings) (q : Packet) → s.far < psns → q.psn < psns → is_out_of_range (header_of s q) ≡ false
in-its-range s q far low = rw (le-ltb 3 (pad_for q.length) (pad-small q.length), lt-leb psns s.far far, lt-leb psns q.psn low)

-- the written header has its opcode's length, and zeros follow it
pub record Headed (t : Standing) (p : Packet) : Type 0 where
  pub whole : write_of (header_of t.settings (sent t p))
      ≡ record { size = Ok (header_length p.opcode); bytes = written (header_of t.settings (sent t p)) ++ replicate (header_bytes - header_length p.opcode) 0 }

module _ (t : Standing) (far : t.settings.far < psns) (u-low : t.line.u < psns) where
  sent-opcode : (p : Packet) → (sent t p).opcode ≡ p.opcode
  sent-opcode p = if-case (λ (q : Packet). q.opcode ≡ p.opcode) (is_read p) (λ _. refl) (λ _. refl)

  sent-low : (p : Packet) → p.psn < psns → (sent t p).psn < psns
  sent-low p low =
      if-case (λ (q : Packet). q.psn < psns) (is_read p)
      (λ _. if-case (λ (n : ℕ). n < psns) (ltb (distance p.psn t.line.u) (span t.settings p)) (λ _. u-low) (λ _. low))
      (λ _. low)

  header-written : (p : Packet) → p.psn < psns → p.opcode ≤ read_request → Headed t p
  header-written p low asks =
      let q = sent t p in
      let same = sent-opcode p in
      let is = write-whole (header_of t.settings q) (in-its-range t.settings q far (sent-low p low)) (le-leb q.opcode 17 (omega arith)) in
      record {
        whole =
            subst
            (λ (op : ℕ). write_of (header_of t.settings q)
            ≡ record { size = Ok (header_length op); bytes = written (header_of t.settings q) ++ replicate (header_bytes - header_length op) 0 })
            same is;
      }

-- ---- what an audited pair emits

-- "A header goes out as 32 bytes by value": whatever waits is written whole, and emission's header length is the written one's
pub headers-written : (card : Card) (t : Tables) → Audit card t → (p : ℕ) → p < card.pairs → (side t p).standing.state ≡ 1
    → Each (Headed (side t p).standing) (waiting (side t p))
headers-written card t a p h ready =
    let s = side t p in
    let b = a.bounded p h (omega arith) in
    each-drop (Headed s.standing) (ahead (λ q. before (U s) (X s) (ends s.standing.settings q)) s.packets) s.packets
    (each_both (λ q. q.psn < psns) Asks (Headed s.standing) (header-written s.standing (in-range b.settings).far b.u-low) s.packets
    b.packets-low (held-ask s.standing.settings (a.messages p h)))
