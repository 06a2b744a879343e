-- What is held passes: the walk over the messages takes the records of any allowed post, and of the first any rear part.
use Rattle.std.specs.Prelude.{Option, Some, if◌then◌else◌}
use mathlib.Core.Path.{◌≡◌, refl, sym, ap, ◌∙◌}
use mathlib.Core.Bool.{Bool, true, false, false≢true}
use mathlib.Core.List.{List, [], ◌∷◌, ◌++◌, map}
use Prim.Native.Nat.{ℕ, zero, suc, ◌+◌, ◌-◌, ◌*◌, ◌/◌, ◌%◌, ◌^◌, ◌≤◌, ◌<◌}
use native.Mathlib.Omega.{arith}
use native.Mathlib.Nat.{mul-le-mul_right}
use lib.Dec.{eqb, leb}
use borrow.Author.Tests.{leb-true, eqb-true, eqb-false, eq-eqb, ne_eqb, le-leb}
use lib.ListN.{length, drop}
use Rattle.rules.specs.declared.Packet.{Packet}
use Rattle.rules.specs.declared.Settings.{Settings}
use Rattle.rules.specs.declared.Post.{Post}
use Rattle.rules.specs.declared.carried.Stage.{Stage}
use Rattle.rules.specs.declared.carried.Stage.TheVariants.{Start, Between, Inside}
use Rattle.psn.specs.Psn.{psns, plus}
use Rattle.wire.specs.Opcodes.{has_reth, has_immediate}
use Rattle.rules.specs.Message.{pmtu, packets_for, is_read, from, opcode_at, length_at, made, packet_at, packets_of}
use Rattle.rules.specs.WholeMessages.{Allowed, Messages, no_more, message, Remaining, none_left, rear}
use Rattle.rules.specs.Passes.Stage.{alone, single, heading, begun, opens, new_message, inner, is_rear, behind, stage_step, stage_ends}
use Rattle.refusal.proofs.Cases.{by-test, if-case}
use Rattle.rules.proofs.Sides.Order.{packets-pos}
use Rattle.rules.proofs.Ranges.{permitted, allow}
use Rattle.rules.proofs.Sides.Good.{length-packets}
use Rattle.rules.proofs.Passes.Tests.{both, joined, same_true, same_self, allowed-is}
use Rattle.rules.proofs.Passes.StageSound.{run, opcode-first, opcode-middle, opcode-last, split-is}
use Rattle.rules.proofs.Passes.StageInside.{slots-is, late, late-low, Stands, inner-complete}

-- ---- opcodes

opcode-only : (m : Post) (n : ℕ) → n ≡ 1 → opcode_at m n 0 ≡ 6 * m.kind + (4 + late m)
opcode-only m n e = rw (eq-eqb n 1 e)

immediate-only : (k : ℕ) → k ≤ 1 → (b : Bool) → has_immediate (6 * k + (4 + (if b then 1 else 0))) ≡ b
immediate-only zero h true = refl
immediate-only zero h false = refl
immediate-only (suc zero) h true = refl
immediate-only (suc zero) h false = refl
immediate-only (suc (suc k)) h b = absurd (omega arith)

-- a record that is neither a read nor an Only is no message
not-single : (s : Settings) (p : Packet) → is_read p ≡ false → p.opcode % 6 < 4 → single s p ≡ false
unfolding single
not-single s p r h =
    by-test (single s p)
    (λ t.
    let a = both (rw r at (both t).1) in
    let b = both a.1 in
    let e = ap (λ (q : Packet). q.opcode) (same_true p (packet_at s (alone p) p.psn 0) b.1) in
    absurd (omega (arith, e, opcode-only (alone p) (packets_for (pmtu s) p.length) (eqb-true (packets_for (pmtu s) p.length) 1 b.0), late-low (alone p))))
    (λ t. t)

module _ (s : Settings) (m : Post) (kd : m.kind ≤ 1) (first : ℕ) where
  -- ---- the first record of a message of several

  head-self : (k : ℕ) → k ≤ 1 → (psn offset length : ℕ) → psn % psns ≡ psn
      → made (6 * k) m psn offset length
      ≡ made (6 * (6 * k / 6)) (heading (made (6 * k) m psn offset length)) (psn % psns) offset length
  head-self zero h psn offset length e = rw e
  head-self (suc zero) h psn offset length e = rw e
  head-self (suc (suc k)) h psn offset length e = absurd (omega arith)

  module _ (many : 1 < packets_for (pmtu s) m.length) where
    a : Packet
    a = packet_at s m first 0

    a-is : a ≡ made (6 * m.kind) m (plus first 0) m.offset (pmtu s)
    unfolding a
    a-is = λ j. made (op j) m (plus first 0) (off j) (len j)
      where
        op : opcode_at m (packets_for (pmtu s) m.length) 0 ≡ 6 * m.kind
        op = opcode-first m (packets_for (pmtu s) m.length) many ∙ omega arith

        off : m.offset + 0 * pmtu s ≡ m.offset
        off = omega arith

        len : length_at (pmtu s) m.length (packets_for (pmtu s) m.length) 0 ≡ pmtu s
        len = rw (ne_eqb 1 (packets_for (pmtu s) m.length) (λ e. omega arith))

    a-opens : opens s a ≡ true
    unfolding opens
    a-opens =
        rw a-is
        (joined (le-leb (6 * m.kind) 6 (omega arith))
        (same_self (made (6 * m.kind) m (plus first 0) m.offset (pmtu s)) _ (head-self m.kind kd (plus first 0) m.offset (pmtu s) (omega arith))))

    a-stands : Stands s m kd first 1 (begun a)
    a-stands =
        record {
          kind = omega (arith, op);
          ticket = ap (λ (q : Packet). q.ticket) a-is;
          some = omega arith;
          most = omega arith;
          psn = omega (arith, ap (λ (q : Packet). q.psn) a-is);
          offset = omega (arith, ap (λ (q : Packet). q.offset) a-is);
          address = rw (ap (λ (q : Packet). q.address) a-is) (if-case (λ (x : ℕ). x ≤ m.address) (has_reth (6 * m.kind)) (λ _. omega arith) (λ _. omega arith));
          exact = λ _. refl;
          total = λ _ k. total (omega (arith, op, k));
        }
      where
        op : a.opcode ≡ 6 * m.kind
        op = ap (λ (q : Packet). q.opcode) a-is

        total : m.kind ≡ 1 → a.total ≡ m.length
        total k = ap (λ (q : Packet). q.total) a-is ∙ rw k

    a-opcode : a.opcode ≡ 6 * m.kind
    a-opcode = ap (λ (q : Packet). q.opcode) a-is

    a-fresh : new_message s a ≡ Some (Inside (begun a))
    a-fresh = rw (not-single s a (ne_eqb a.opcode 12 (λ e. omega (arith, a-opcode, e))) (omega (arith, a-opcode)), a-opens)

  -- ---- a message of one record

  made-alone : (op psn offset : ℕ) → made op m psn offset m.length ≡ made op (alone (made op m psn offset m.length)) psn offset m.length
  made-alone op psn offset =
      by-test (has_reth op)
      (λ r. by-test (has_immediate op) (λ i. rw (r, i)) (λ i. rw (r, i)))
      (λ r. by-test (has_immediate op) (λ i. rw (r, i)) (λ i. rw (r, i)))

  module _ (allowed : Allowed s m) (lone : packets_for (pmtu s) m.length ≡ 1) where
    op : ℕ
    op = 6 * m.kind + (4 + late m)

    b : Packet
    b = made op m (plus first 0) m.offset m.length

    b-is : packet_at s m first 0 ≡ b
    unfolding b op
    b-is = λ j. made (opcode-only m (packets_for (pmtu s) m.length) lone j) m (plus first 0) (off j) (len j)
      where
        off : m.offset + 0 * pmtu s ≡ m.offset
        off = omega arith

        len : length_at (pmtu s) m.length (packets_for (pmtu s) m.length) 0 ≡ m.length
        len = rw (eq-eqb 1 (packets_for (pmtu s) m.length) (sym lone)) (omega arith)

    b-kind : op / 6 ≡ m.kind
    unfolding op
    b-kind = omega (arith, late-low m)

    b-low : op ≤ 11
    unfolding op
    b-low = omega (arith, late-low m)

    b-allowed : Allowed s (alone b)
    unfolding b
    b-allowed =
        allow (record {
          kind = omega (arith, b-kind);
          plain-read = λ e. absurd (omega (arith, b-kind, e));
          short = (permitted allowed).short;
          offset = (permitted allowed).offset;
          fits = (permitted allowed).fits;
          reach = λ k l. reach ((permitted allowed).reach (omega (arith, b-kind, k)) l);
          room = omega (arith, length-packets s (alone b) 0, length-packets s m 0, slots-is s (alone b) (omega (arith, b-kind)) 0, slots-is s m kd 0, (permitted allowed).room);
        })
      where
        reach : m.address + m.length ≤ 2 ^ 64 → (if has_reth op then m.address else 0) + m.length ≤ 2 ^ 64
        reach h = if-case (λ (x : ℕ). x + m.length ≤ 2 ^ 64) (has_reth op) (λ _. h) (λ _. omega arith)

    b-opcode : opcode_at (alone b) (packets_for (pmtu s) m.length) 0 ≡ op
    unfolding b op
    b-opcode =
        opcode-only (alone b) (packets_for (pmtu s) m.length) lone
        ∙ (λ j. 6 * b-kind j + (4 + (if immediate-only m.kind kd m.immediate j then 1 else 0)))

    b-same : b ≡ packet_at s (alone b) b.psn 0
    unfolding b
    b-same =
        made-alone op (plus first 0) m.offset
        ∙ (λ j. made (sym b-opcode j) (alone b) (psn j) (off j) (len j))
      where
        psn : plus first 0 ≡ plus (plus first 0) 0
        psn = omega arith

        off : m.offset ≡ m.offset + 0 * pmtu s
        off = omega arith

        len : m.length ≡ length_at (pmtu s) m.length (packets_for (pmtu s) m.length) 0
        len = rw (eq-eqb 1 (packets_for (pmtu s) m.length) (sym lone)) (omega arith)

    b-no-read : is_read b ≡ false
    unfolding b
    b-no-read = ne_eqb op 12 (λ e. omega (arith, b-low, e))

    b-is-low : leb b.opcode 11 ≡ true
    unfolding b
    b-is-low = le-leb op 11 b-low

    b-is-one : eqb (packets_for (pmtu s) b.length) 1 ≡ true
    unfolding b
    b-is-one = eq-eqb (packets_for (pmtu s) m.length) 1 lone

    b-single : single s b ≡ true
    unfolding single
    b-single = joined (allowed-is s (alone b) b-allowed) (rw b-no-read (joined b-is-low (joined b-is-one (same_self b (packet_at s (alone b) b.psn 0) b-same))))

    b-last : 4 ≤ b.opcode % 6
    unfolding b op
    b-last = omega (arith, late-low m)

-- ---- every message

not-rear : (p : Packet) → (1 ≤ p.opcode % 6 → p.opcode % 6 ≤ 3 → p.opcode ≤ 11 → ⊥) → is_rear p ≡ false
not-rear p h =
    by-test (is_rear p)
    (λ t.
    let e = both (both t).1 in
    absurd (h (leb-true 1 (p.opcode % 6) e.0) (leb-true (p.opcode % 6) 3 e.1) (leb-true p.opcode 11 (both t).0)))
    (λ t. t)

module _ (s : Settings) where
  -- a message's first record, and that the walk takes the message
  pub record Taken (ps rest : List Packet) : Type 0 where
    pub head : Packet
    pub tail : List Packet
    pub is : ps ≡ head ∷ tail
    pub front : is_rear head ≡ false
    pub runs : run s (new_message s head) (tail ++ rest) ≡ run s (Some Between) rest

  taken-read : (m : Post) (first : ℕ) (rest : List Packet) → Allowed s m → m.kind ≡ 2 → Taken (packets_of s m first) rest
  unfolding packets_of single
  taken-read m first rest allowed k =
      record {
        head = q;
        tail = [];
        is = rw (eq-eqb m.kind 2 k);
        front = not-rear q (λ a b c. omega (arith, c));
        runs = ap (λ (x : Option Stage). run s x rest) e;
      }
    where
      q : Packet
      q = made 12 m first m.offset m.length

      ok : Allowed s (alone q)
      ok =
          allow (record {
            kind = omega arith;
            plain-read = λ _. refl;
            short = (permitted allowed).short;
            offset = (permitted allowed).offset;
            fits = (permitted allowed).fits;
            reach = λ _ l. (permitted allowed).reach (omega (arith, k)) l;
            room = rw (eq-eqb m.kind 2 k) at (permitted allowed).room;
          })

      one : single s q ≡ true
      one = joined (allowed-is s (alone q) ok) (same_self q (made 12 (alone q) first m.offset m.length) refl)

      e : new_message s q ≡ Some Between
      e = rw one

  taken-only : (m : Post) (first : ℕ) (rest : List Packet) → Allowed s m → (kd : m.kind ≤ 1) → packets_for (pmtu s) m.length ≡ 1 → Taken (packets_of s m first) rest
  taken-only m first rest allowed kd lone =
      record {
        head = q;
        tail = [];
        is = split-is s m first kd ∙ ap (λ (k : ℕ). map (packet_at s m first) (from 0 k)) lone ∙ (λ j. b-is s m kd first allowed lone j ∷ []);
        front = not-rear q (λ x y z. omega (arith, y, b-last s m kd first allowed lone));
        runs = ap (λ (x : Option Stage). run s x rest) e;
      }
    where
      q : Packet
      q = b s m kd first allowed lone

      e : new_message s q ≡ Some Between
      e = rw (b-single s m kd first allowed lone)

  taken_more : (m : Post) (first : ℕ) (rest : List Packet) → Allowed s m → (kd : m.kind ≤ 1) → (j : ℕ) → packets_for (pmtu s) m.length ≡ suc (suc j) → Taken (packets_of s m first) rest
  unfolding a
  taken_more m first rest allowed kd j size =
      record {
        head = q;
        tail = map (packet_at s m first) (from 1 (suc j));
        is = split-is s m first kd ∙ ap (λ (k : ℕ). map (packet_at s m first) (from 0 k)) size;
        front = not-rear q (λ x y z. omega (arith, x, a-opcode s m kd first many));
        runs =
            ap (λ (x : Option Stage). run s x (map (packet_at s m first) (from 1 (suc j)) ++ rest)) (a-fresh s m kd first many)
            ∙ inner-complete s m kd first allowed rest j 1 (begun q) (a-stands s m kd first many) (omega (arith, size));
      }
    where
      q : Packet
      q = packet_at s m first 0

      many : 1 < packets_for (pmtu s) m.length
      many = omega (arith, size)

  pub taken : (m : Post) (first : ℕ) (rest : List Packet) → Allowed s m → Taken (packets_of s m first) rest
  taken m first rest allowed =
      by-test (eqb m.kind 2)
      (λ e. taken-read m first rest allowed (eqb-true m.kind 2 e))
      (λ e. go (omega (arith, (permitted allowed).kind, eqb-false m.kind 2 e)) (packets_for (pmtu s) m.length) refl (packets-pos s m.length))
    where
      go : m.kind ≤ 1 → (n : ℕ) → packets_for (pmtu s) m.length ≡ n → 1 ≤ packets_for (pmtu s) m.length → Taken (packets_of s m first) rest
      go kd zero e h = absurd (omega (arith, e, h))
      go kd (suc zero) e h = taken-only m first rest allowed kd e
      go kd (suc (suc j)) e h = taken_more m first rest allowed kd j e

  pub messages-pass : {ps : List Packet} → Messages s ps → stage_ends (run s (Some Between) ps) ≡ true
  messages-pass no_more = refl
  messages-pass (message m first rest allowed e r) =
      let t = taken m first rest allowed in
      rw (e, t.is) (ap stage_ends t.runs ∙ messages-pass r)

-- ---- a rear part

drop-from : (f : ℕ → Packet) (k a n j o : ℕ) → n ≡ k + suc j → o ≡ a + k → drop k (map f (from a n)) ≡ map f (from o (suc j))
drop-from f zero a n j o e q =
    let e' : n ≡ suc j = omega arith in
    let q' : o ≡ a = omega arith in
    rw (e', q')
drop-from f (suc k) a zero j o e q = absurd (omega arith)
drop-from f (suc k) a (suc n) j o e q = drop-from f k (suc a) n j o (omega arith) (omega arith)

module _ (s : Settings) (m : Post) (kd : m.kind ≤ 1) (first i : ℕ) (one : 1 ≤ i) (h : i < packets_for (pmtu s) m.length) where
  y : Packet
  y = packet_at s m first i

  y-opcode : (6 * m.kind + 1 ≤ y.opcode) × (y.opcode ≤ 6 * m.kind + 3)
  unfolding y
  y-opcode =
      by-test (eqb (suc i) (packets_for (pmtu s) m.length))
      (λ e.
      let q = opcode-last m (packets_for (pmtu s) m.length) i one (eqb-true (suc i) (packets_for (pmtu s) m.length) e) in
      (omega (arith, q, late-low m), omega (arith, q, late-low m)))
      (λ e.
      let q = opcode-middle m (packets_for (pmtu s) m.length) i one (omega (arith, h, eqb-false (suc i) (packets_for (pmtu s) m.length) e)) in
      (omega (arith, q), omega (arith, q)))

  y-rear : is_rear y ≡ true
  y-rear =
      let q = y-opcode in
      joined (le-leb y.opcode 11 (omega (arith, q))) (joined (le-leb 1 (y.opcode % 6) (omega (arith, q))) (le-leb (y.opcode % 6) 3 (omega (arith, q))))

  y-offset : pmtu s ≤ y.offset
  unfolding y
  y-offset = let e : 1 * pmtu s ≤ i * pmtu s = mul-le-mul_right (pmtu s) one in omega (arith, e)

  y-stands : Stands s m kd first i (behind s y)
  unfolding y
  y-stands =
      record {
        kind = omega (arith, y-opcode);
        ticket = refl;
        some = omega arith;
        most = one;
        psn = omega arith;
        offset = omega (arith, y-offset);
        address = omega arith;
        exact = λ e. absurd (false≢true e);
        total = λ e _. absurd (false≢true e);
      }

  y-step : stage_step s (Some Start) y ≡ inner s (behind s y) y
  y-step = rw (y-rear, le-leb (pmtu s) y.offset y-offset)

module _ (s : Settings) where
  rear-pass : (m : Post) (kd : m.kind ≤ 1) (first i j : ℕ) (rest : List Packet) → Allowed s m → 1 ≤ i → packets_for (pmtu s) m.length ≡ i + suc j
      → Messages s rest → stage_ends (run s (Some Start) (drop i (packets_of s m first) ++ rest)) ≡ true
  unfolding y
  rear-pass m kd first i j rest allowed one size r =
      rw (split-is s m first kd, drop-from (packet_at s m first) i 0 (packets_for (pmtu s) m.length) j i size (omega arith))
      (ap (λ (x : Option Stage). stage_ends (run s x (map (packet_at s m first) (from (suc i) j) ++ rest))) (y-step s m kd first i one (omega (arith, size)))
      ∙ ap stage_ends (inner-complete s m kd first allowed rest j i (behind s (packet_at s m first i)) (y-stands s m kd first i one (omega (arith, size))) (sym size))
      ∙ messages-pass s r)

  front-pass : (m : Post) (first : ℕ) (rest : List Packet) → Allowed s m → Messages s rest → stage_ends (run s (Some Start) (packets_of s m first ++ rest)) ≡ true
  front-pass m first rest allowed r =
      let t = taken s m first rest allowed in
      let e : stage_step s (Some Start) t.head ≡ new_message s t.head = rw t.front in
      rw t.is (ap (λ (x : Option Stage). stage_ends (run s x (t.tail ++ rest))) e ∙ ap stage_ends t.runs ∙ messages-pass s r)

  pub held-pass : {ps : List Packet} → Remaining s ps → stage_ends (run s (Some Start) ps) ≡ true
  held-pass none_left = refl
  held-pass (rear m first zero rest allowed h e r) = rw e (front-pass m first rest allowed r)
  held-pass (rear m first (suc k) rest allowed h e r) =
      rw e
      (by-test (eqb m.kind 2)
      (λ q. absurd (omega (arith, h, length-packets s m first, rw q at (length-packets s m first))))
      (λ q.
      let kd : m.kind ≤ 1 = omega (arith, (permitted allowed).kind, eqb-false m.kind 2 q) in
      let size : packets_for (pmtu s) m.length ≡ suc k + suc (packets_for (pmtu s) m.length - suc (suc k)) = omega (arith, h, slots-is s m kd first) in
      rear-pass m kd first (suc k) (packets_for (pmtu s) m.length - suc (suc k)) rest allowed (omega arith) size r))
