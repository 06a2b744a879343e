-- The split covers a message exactly: its packets' lengths add up to it, offsets and PSNs run on, and the last packet alone ends it.
use Rattle.std.specs.Prelude.{if◌then◌else◌}
use mathlib.Core.Path.{◌≡◌, refl, sym, ap, ◌∙◌}
use mathlib.Core.Bool.{Bool, true, false, not, false≢true}
use mathlib.Core.List.{List, [], ◌∷◌, map}
use Prim.Native.Nat.{ℕ, zero, suc, ◌+◌, ◌-◌, ◌*◌, ◌%◌, ◌≤◌, ◌<◌}
use native.Mathlib.Omega.{arith}
use native.Mathlib.Nat.{lt-div-mul-add, not-suc-le-zero, le_of_suc-le-suc}
use lib.Pow.{pow_pos}
use lib.Dec.{eqb, leb}
use borrow.Author.Tests.{eqb-true, eqb-false, eq-eqb, ne_eqb, le-leb, lt-leb}
use lib.ListN.{length, get_or, take}
use Rattle.refusal.proofs.Below.{below-every}
use Rattle.refusal.proofs.Cases.{by-test, if-case}
use Rattle.psn.specs.Psn.{plus}
use Rattle.wire.specs.Opcodes as opcodes
use Rattle.rules.specs.declared.Packet.{Packet}
use Rattle.rules.specs.declared.Settings.{Settings}
use Rattle.rules.specs.declared.Post.{Post}
use Rattle.rules.specs.Account.{no_packet}
use Rattle.rules.specs.Message.{pmtu, packets_for, psns_for, read_request, length_at, made, packet_at, from, packets_of, span, is_last}
use Rattle.rules.specs.Outcome.{left_with, completions}
use Rattle.rules.specs.Response.{differ}
use Rattle.rules.specs.Order.{◌or◌, left, right}
use Rattle.rules.proofs.Sides.Order.{packets-pos}
use Rattle.rules.proofs.Sides.Good.{length-packets}
use Rattle.rules.proofs.Sides.Fits.{ahead_of}

-- how many bytes some packets carry
abbrev pub bytes_of : List Packet → ℕ
bytes_of [] = 0
bytes_of (p ∷ ps) = p.length + bytes_of ps

-- ---- numbers

-- full packets, as many as there are, reach the message's end
reached : (mtu len : ℕ) → 1 ≤ mtu → len ≤ packets_for mtu len * mtu
reached mtu len pos =
    if-case (λ (n : ℕ). len ≤ n * mtu) (eqb len 0)
    (λ e. omega (arith, eqb-true len 0 e))
    (λ _. omega (arith, lt-div-mul-add {a = len + (mtu - 1)} pos))

-- those ahead of a place do not pass it
not-past : (mtu len i : ℕ) → 1 ≤ mtu → i < packets_for mtu len → i * mtu ≤ len
not-past mtu len i pos h = by (ahead_of mtu len i pos h)
  where
    by : (i * mtu < len) or ((i ≡ 0) × (len ≡ 0)) → i * mtu ≤ len
    by (left x) = omega arith
    by (right x) = rw x.0 (omega arith)

-- Last and Only are the opcodes from 2 on of each six
agree : (a b : Bool) → not (differ a b) ≡ true → a ≡ b
agree true true e = refl
agree true false e = absurd (false≢true e)
agree false true e = absurd (false≢true e)
agree false false e = refl

last-from-two : (kind x : ℕ) → kind ≤ 1 → x ≤ 5 → opcodes.is_last (6 * kind + x) ≡ leb 2 x
last-from-two kind x k h =
    let place : (6 * kind + x) % 6 ≡ x = omega arith in
    agree _ _ (below-every (λ op. not (differ (opcodes.is_last op) (leb 2 (op % 6)))) 12 refl (6 * kind + x) (omega arith))
    ∙ ap (leb 2) place

-- an entry of a made list
place-from : (f : ℕ → Packet) (a k i : ℕ) → i < k → get_or (map f (from a k)) i no_packet ≡ f (a + i)
place-from f a zero i h = absurd (not-suc-le-zero h)
place-from f a (suc k) zero h = let e : a ≡ a + 0 = omega arith in ap f e
place-from f a (suc k) (suc i) h = let e : suc a + i ≡ a + suc i = omega arith in place-from f (suc a) k i (le_of_suc-le-suc h) ∙ ap f e

-- ---- a Send or Write

module _ (s : Settings) (m : Post) (first : ℕ) (plain : m.kind ≤ 1) where
  mtu-pos : 1 ≤ pmtu s
  mtu-pos = pow_pos (7 + s.pmtu)

  -- place i is the last, or is not
  at-end : (i : ℕ) → suc i ≡ psns_for s m → length_at (pmtu s) m.length (psns_for s m) i ≡ m.length - i * pmtu s
  at-end i e = rw (eq-eqb (suc i) (psns_for s m) e)

  before-end : (i : ℕ) → suc i < psns_for s m → length_at (pmtu s) m.length (psns_for s m) i ≡ pmtu s
  before-end i h = rw (ne_eqb (suc i) (psns_for s m) (λ e. omega arith))

  whole_split : packets_of s m first ≡ map (packet_at s m first) (from 0 (psns_for s m))
  unfolding packets_of
  whole_split = rw (ne_eqb m.kind 2 (λ e. omega arith))

  -- the packet at place i
  abbrev pub packet : ℕ → Packet
  packet i = get_or (packets_of s m first) i no_packet

  pub packet-is : (i : ℕ) → i < psns_for s m → packet i ≡ packet_at s m first i
  packet-is i h =
      let e : 0 + i ≡ i = omega arith in
      ap (λ (l : List Packet). get_or l i no_packet) whole_split ∙ place-from (packet_at s m first) 0 (psns_for s m) i h ∙ ap (packet_at s m first) e

  -- "A Send or Write takes that many slots and PSNs"
  pub as_many : length (packets_of s m first) ≡ psns_for s m
  as_many = length-packets s m first ∙ rw (ne_eqb m.kind 2 (λ e. omega arith))

  -- "that many .. PSNs": one each, from the first on
  pub psns-run : (i : ℕ) → i < psns_for s m → (packet i).psn ≡ plus first i
  psns-run i h = ap (λ (p : Packet). p.psn) (packet-is i h)

  -- "All packets but the last carry PMTU bytes."
  pub all_but_last : (i : ℕ) → suc i < psns_for s m → (packet i).length ≡ pmtu s
  all_but_last i h = ap (λ (p : Packet). p.length) (packet-is i (omega arith)) ∙ before-end i h

  -- "length divided by PMTU rounded up": the last carries no more
  pub at-most-pmtu : (i : ℕ) → i < psns_for s m → (packet i).length ≤ pmtu s
  at-most-pmtu i h =
      let is = ap (λ (p : Packet). p.length) (packet-is i h) in
      by-test (eqb (suc i) (psns_for s m))
      (λ e.
      let last = eqb-true (suc i) (psns_for s m) e in
      omega (arith, is, at-end i last, reached (pmtu s) m.length mtu-pos, ap (λ (n : ℕ). n * pmtu s) last))
      (λ e. omega (arith, is, before-end i (omega (arith, eqb-false (suc i) (psns_for s m) e))))

  adds : (i k : ℕ) → i + suc k ≡ psns_for s m → bytes_of (map (packet_at s m first) (from i (suc k))) ≡ m.length - i * pmtu s
  adds i zero e = omega (arith, at-end i (omega arith))
  adds i (suc k) e =
      omega (arith, before-end i (omega arith), adds (suc i) k (omega arith), not-past (pmtu s) m.length (suc i) mtu-pos (omega arith))

  -- "Packets of a message": together they carry it, no byte more or less
  pub lengths-add : bytes_of (packets_of s m first) ≡ m.length
  lengths-add =
      let some : psns_for s m ≡ suc (psns_for s m - 1) = omega (arith, packets-pos s m.length) in
      ap bytes_of (whole_split ∙ ap (λ (n : ℕ). map (packet_at s m first) (from 0 n)) some)
      ∙ omega (arith, adds 0 (psns_for s m - 1) (omega arith))

  front : (a k i : ℕ) → a + k ≡ psns_for s m → i < k → bytes_of (take i (map (packet_at s m first) (from a k))) ≡ i * pmtu s
  front a k zero e h = omega arith
  front a zero (suc i) e h = absurd (not-suc-le-zero h)
  front a (suc k) (suc i) e h = omega (arith, before-end a (omega arith), front (suc a) k i (omega arith) (omega arith))

  -- "payload offset, payload length": each packet's bytes start where those before it end
  pub offsets_run : (i : ℕ) → i < psns_for s m → (packet i).offset ≡ m.offset + bytes_of (take i (packets_of s m first))
  offsets_run i h =
      omega (arith, ap (λ (p : Packet). p.offset) (packet-is i h), ap (λ (l : List Packet). bytes_of (take i l)) whole_split, front 0 (psns_for s m) i (omega arith) h)

  last-at : (n i late : ℕ) → late ≤ 1 → i < n
      → opcodes.is_last (6 * m.kind + (if eqb n 1 then 4 + late else if eqb (suc i) n then 2 + late else if eqb i 0 then 0 else 1)) ≡ eqb (suc i) n
  last-at n i late l h =
      if-case P (eqb n 1) (λ e. ends (4 + late) (omega arith) (omega arith) (eq-eqb (suc i) n (omega (arith, eqb-true n 1 e)))) (λ _.
      if-case P (eqb (suc i) n) (λ e. ends (2 + late) (omega arith) (omega arith) e) (λ e.
      if-case P (eqb i 0) (λ _. goes_on 0 (omega arith) e) (λ _. goes_on 1 (omega arith) e)))
    where
      P : ℕ → Type 0
      P x = opcodes.is_last (6 * m.kind + x) ≡ eqb (suc i) n

      ends : (x : ℕ) → 2 ≤ x → x ≤ 5 → eqb (suc i) n ≡ true → P x
      ends x low high e = last-from-two m.kind x plain high ∙ le-leb 2 x low ∙ sym e

      goes_on : (x : ℕ) → x < 2 → eqb (suc i) n ≡ false → P x
      goes_on x low e = last-from-two m.kind x plain (omega arith) ∙ lt-leb 2 x low ∙ sym e

  last-is : (i : ℕ) → i < psns_for s m → is_last (packet_at s m first i) ≡ eqb (suc i) (psns_for s m)
  last-is i h = last-at (psns_for s m) i (if m.immediate then 1 else 0) (if-case (λ (n : ℕ). n ≤ 1) m.immediate (λ _. omega arith) (λ _. omega arith)) h

  -- "its last packet", by opcode, is the one at the last place and no other
  pub one_last : (i : ℕ) → i < psns_for s m → is_last (packet i) ≡ eqb (suc i) (psns_for s m)
  one_last i h = ap is_last (packet-is i h) ∙ last-is i h

  completes : (status i k : ℕ) → i + suc k ≡ psns_for s m → completions (left_with status (map (packet_at s m first) (from i (suc k)))) ≡ m.ticket ∷ status ∷ []
  completes status i zero e = rw (last-is i (omega arith) ∙ eq-eqb (suc i) (psns_for s m) (omega arith))
  completes status i (suc k) e =
      rw (last-is i (omega arith) ∙ ne_eqb (suc i) (psns_for s m) (λ q. omega arith)) (completes status (suc i) k (omega arith))

  split-completes : (status : ℕ) → completions (left_with status (packets_of s m first)) ≡ m.ticket ∷ status ∷ []
  split-completes status =
      let some : psns_for s m ≡ suc (psns_for s m - 1) = omega (arith, packets-pos s m.length) in
      ap (λ (l : List Packet). completions (left_with status l)) (whole_split ∙ ap (λ (n : ℕ). map (packet_at s m first) (from 0 n)) some)
      ∙ completes status 0 (psns_for s m - 1) (omega arith)

-- ---- a read

-- "Read Request 12", of the whole message
abbrev pub request : Post → ℕ → Packet
request m first = made read_request m first m.offset m.length

module _ (s : Settings) (m : Post) (first : ℕ) where
  -- "a read one slot"
  pub read_one : m.kind ≡ 2 → packets_of s m first ≡ request m first ∷ []
  unfolding packets_of
  read_one read = rw (eq-eqb m.kind 2 read)

  -- "and that many PSNs"
  pub read-span : span s (request m first) ≡ psns_for s m
  read-span = refl

  -- "its last packet"
  pub read-last : is_last (request m first) ≡ true
  read-last = refl

-- "each message yields its ticket, then its status, once"
pub one-completion : (s : Settings) (m : Post) (first status : ℕ) → m.kind ≤ 2 → completions (left_with status (packets_of s m first)) ≡ m.ticket ∷ status ∷ []
one-completion s m first status k =
    by-test (eqb m.kind 2)
    (λ e. ap (λ (l : List Packet). completions (left_with status l)) (read_one s m first (eqb-true m.kind 2 e)))
    (λ e. split-completes s m first (omega (arith, eqb-false m.kind 2 e)) status)
