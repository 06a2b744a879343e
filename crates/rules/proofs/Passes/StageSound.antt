-- What the walk over the messages passes is held: whole splits of allowed posts, of the first perhaps only the rear part.
use Rattle.std.specs.Prelude.{Option, None, Some, if◌then◌else◌}
use mathlib.Core.Path.{◌≡◌, refl, sym, ap, ◌∙◌}
use mathlib.Core.Bool.{Bool, true, false, false≢true}
use mathlib.Core.List.{List, [], ◌∷◌, ◌++◌, map}
use Prim.Native.Nat.{ℕ, zero, suc, ◌+◌, ◌*◌, ◌/◌, ◌%◌, ◌≤◌, ◌<◌}
use native.Mathlib.Omega.{arith}
use lib.Dec.{eqb, leb}
use borrow.Author.Tests.{leb-true, eqb-true, eqb-false, eq-eqb, ne_eqb}
use lib.ListN.{length, drop}
use Rattle.rules.specs.declared.Packet.{Packet}
use Rattle.rules.specs.declared.Settings.{Settings}
use Rattle.rules.specs.declared.Post.{Post}
use Rattle.rules.specs.declared.carried.Begun.{Begun}
use Rattle.rules.specs.declared.carried.Stage.{Stage}
use Rattle.rules.specs.declared.carried.Stage.TheVariants.{Start, Between, Inside}
use Rattle.psn.specs.Psn.{psns, plus}
use Rattle.wire.specs.Opcodes.{has_reth, has_immediate}
use Rattle.rules.specs.Message.{pmtu, packets_for, is_read, from, opcode_at, length_at, made, packet_at, packets_of}
use Rattle.rules.specs.Ranges.{bad_post}
use Rattle.rules.specs.WholeMessages.{Allowed, Messages, no_more, message, Remaining, none_left, rear}
use Rattle.rules.specs.Passes.Stage.{same, alone, single, heading, post_of, begun, opens, new_message, more, middle, whole_post, closes, goes_on, inner, is_rear, behind, stage_step, stage_ends}
use Rattle.refusal.proofs.Cases.{by-test}
use Rattle.rules.proofs.Sides.Good.{length-packets, slots-pos}
use Rattle.rules.proofs.Passes.Tests.{both, joined, same_true, allowed_of}

-- the walk over a list of records
abbrev pub run : Settings → Option Stage → List Packet → Option Stage
run s w [] = w
run s w (p ∷ ps) = run s (stage_step s w p) ps

pub none-stays : (s : Settings) (ps : List Packet) → stage_ends (run s None ps) ≡ false
none-stays s [] = refl
none-stays s (p ∷ ps) = none-stays s ps

kept : (s : Settings) (t : Bool) (a : Option Stage) (ps : List Packet) → stage_ends (run s (if t then a else None) ps) ≡ true → (t ≡ true) × (stage_ends (run s a ps) ≡ true)
kept s true a ps e = (refl, e)
kept s false a ps e = absurd (false≢true (sym (none-stays s ps) ∙ e))

-- ---- opcodes of a Send or Write

pub opcode-first : (m : Post) (n : ℕ) → 1 < n → opcode_at m n 0 ≡ 6 * m.kind + 0
opcode-first m n h = rw (ne_eqb n 1 (λ e. omega arith), ne_eqb 1 n (λ e. omega arith))

pub opcode-middle : (m : Post) (n i : ℕ) → 1 ≤ i → suc i < n → opcode_at m n i ≡ 6 * m.kind + 1
opcode-middle m n i h k = rw (ne_eqb n 1 (λ e. omega arith), ne_eqb (suc i) n (λ e. omega arith), ne_eqb i 0 (λ e. omega arith))

pub opcode-last : (m : Post) (n i : ℕ) → 1 ≤ i → suc i ≡ n → opcode_at m n i ≡ 6 * m.kind + (2 + (if m.immediate then 1 else 0))
opcode-last m n i h e = rw (ne_eqb n 1 (λ q. omega (arith, q)), eq-eqb (suc i) n e)

-- of `has_reth` and `has_immediate` only what they say of the numbers 0 to 12 is used, each by computation
pub bare-middle : (k : ℕ) → k ≤ 1 → (has_reth (6 * k + 1) ≡ false) × (has_immediate (6 * k + 1) ≡ false)
bare-middle zero h = (refl, refl)
bare-middle (suc zero) h = (refl, refl)
bare-middle (suc (suc k)) h = absurd (omega arith)

pub reth-last : (k : ℕ) → k ≤ 1 → (b : Bool) → has_reth (6 * k + (2 + (if b then 1 else 0))) ≡ false
reth-last zero h true = refl
reth-last zero h false = refl
reth-last (suc zero) h true = refl
reth-last (suc zero) h false = refl
reth-last (suc (suc k)) h b = absurd (omega arith)

-- ---- a record shows of its post only what its header needs

pub made-bare : (op : ℕ) (m m' : Post) (psn offset length : ℕ) → has_reth op ≡ false → has_immediate op ≡ false → m.ticket ≡ m'.ticket
    → made op m psn offset length ≡ made op m' psn offset length
made-bare op m m' psn offset length r i t = rw (r, i, t)

-- the post with another key
abbrev pub keyed : ℕ → Post → Post
keyed key m =
    record {
      kind = m.kind;
      immediate = m.immediate;
      fenced = m.fenced;
      ticket = m.ticket;
      offset = m.offset;
      length = m.length;
      address = m.address;
      key = key;
      value = m.value;
    }

made-keyed : (op key : ℕ) (m : Post) (psn offset length : ℕ) → has_reth op ≡ false → made op m psn offset length ≡ made op (keyed key m) psn offset length
made-keyed op key m psn offset length r = rw r

made-head : (k : ℕ) → k ≤ 1 → (m m' : Post) (psn offset length : ℕ) → m.ticket ≡ m'.ticket → m.address ≡ m'.address → m.key ≡ m'.key
    → (k ≡ 1 → m.length ≡ m'.length) → made (6 * k) m psn offset length ≡ made (6 * k + 0) m' psn offset length
made-head zero h m m' psn offset length t a e l = rw t
made-head (suc zero) h m m' psn offset length t a e l = rw (t, a, e, l refl)
made-head (suc (suc k)) h m m' psn offset length t a e l = absurd (omega arith)

module _ (s : Settings) where
  -- a First is the First of any post that goes on and has its length
  pub first_made : (m m' : Post) (psn : ℕ) → m.kind ≤ 1 → m.kind ≡ m'.kind → m.ticket ≡ m'.ticket → m.offset ≡ m'.offset → m.address ≡ m'.address → m.key ≡ m'.key
      → 1 < packets_for (pmtu s) m'.length → (m.kind ≡ 1 → m.length ≡ m'.length)
      → made (6 * m.kind) m (psn % psns) m.offset (pmtu s) ≡ packet_at s m' psn 0
  first_made m m' psn k ke te oe ae ye h l =
      let o : m'.offset + 0 * pmtu s ≡ m.offset = omega (arith, oe) in
      let f : plus psn 0 ≡ psn % psns = omega arith in
      rw (opcode-first m' (packets_for (pmtu s) m'.length) h, ne_eqb 1 (packets_for (pmtu s) m'.length) (λ e. omega arith), o, f, ← ke)
      (made-head m.kind k m m' (psn % psns) m.offset (pmtu s) te ae ye l)

  -- a Middle is a Middle of any post that goes on
  pub middle-is : (w : Begun) → w.kind ≤ 1 → 1 ≤ w.count → (immediate : Bool) (length value : ℕ)
      → suc w.count < packets_for (pmtu s) length → middle s w ≡ packet_at s (post_of w immediate length value) w.first w.count
  middle-is w k c immediate length value h =
      rw (opcode-middle (post_of w immediate length value) (packets_for (pmtu s) length) w.count c h, ne_eqb (suc w.count) (packets_for (pmtu s) length) (λ e. omega arith))
      (made-bare (6 * w.kind + 1) (post_of w false w.total 0) (post_of w immediate length value) (plus w.first w.count) (w.offset + w.count * pmtu s) (pmtu s)
      (bare-middle w.kind k).0 (bare-middle w.kind k).1 refl)

  pub split-is : (m : Post) (first : ℕ) → m.kind ≤ 1 → packets_of s m first ≡ map (packet_at s m first) (from 0 (packets_for (pmtu s) m.length))
  unfolding packets_of
  split-is m first kd = rw (ne_eqb m.kind 2 (λ e. omega (arith, e)))

  -- ---- no record but the First shows the key

  keyed-at : (key : ℕ) (m : Post) (first i : ℕ) → m.kind ≤ 1 → 1 ≤ i → i < packets_for (pmtu s) m.length → packet_at s m first i ≡ packet_at s (keyed key m) first i
  keyed-at key m first i k one h =
      let n = packets_for (pmtu s) m.length in
      let bare : has_reth (opcode_at m (packets_for (pmtu s) m.length) i) ≡ false =
      by-test (eqb (suc i) (packets_for (pmtu s) m.length))
      (λ e. ap has_reth (opcode-last m n i one (eqb-true (suc i) n e)) ∙ reth-last m.kind k m.immediate)
      (λ e. ap has_reth (opcode-middle m n i one (omega (arith, h, eqb-false (suc i) n e))) ∙ (bare-middle m.kind k).0) in
      made-keyed (opcode_at m n i) key m (plus first i) (m.offset + i * pmtu s) (length_at (pmtu s) m.length n i) bare

  keyed-rest : (key : ℕ) (m : Post) (first : ℕ) → m.kind ≤ 1 → (i j : ℕ) → 1 ≤ i → i + j ≤ packets_for (pmtu s) m.length
      → map (packet_at s m first) (from i j) ≡ map (packet_at s (keyed key m) first) (from i j)
  keyed-rest key m first k i zero one h = refl
  keyed-rest key m first k i (suc j) one h = λ x. keyed-at key m first i k one (omega (arith, h)) x ∷ keyed-rest key m first k (suc i) j (omega arith) (omega (arith, h)) x

  keyed-allowed : (key : ℕ) (m : Post) → Allowed s m → Allowed s (keyed key m)
  unfolding bad_post
  keyed-allowed key m a = record { in-range = a.in-range; in-ceiling = a.in-ceiling }

  -- the records from here on are the rest of a message, and messages
  pub record Rest (w : Begun) (ps : List Packet) : Type 0 where
    pub immediate : Bool
    pub length : ℕ
    pub value : ℕ
    pub left : ℕ
    pub rest : List Packet
    pub allowed : Allowed s (post_of w immediate length value)
    pub told : w.whole ≡ true → w.kind ≡ 1 → w.total ≡ length
    pub size : packets_for (pmtu s) length ≡ w.count + suc left
    pub split : ps ≡ map (packet_at s (post_of w immediate length value) w.first) (from w.count (suc left)) ++ rest
    pub messages : Messages s rest

  pub record Sound (ps : List Packet) : Type 0 where
    pub between : stage_ends (run s (Some Between) ps) ≡ true → Messages s ps
    pub inside : (w : Begun) → w.kind ≤ 1 → 1 ≤ w.count → stage_ends (run s (Some (Inside w)) ps) ≡ true → Rest w ps

  module _ (p : Packet) (ps : List Packet) (later : Sound ps) where
    -- one more Middle
    one_more : (w : Begun) → w.kind ≤ 1 → 1 ≤ w.count → same p (middle s w) ≡ true → Rest (more w) ps → Rest w (p ∷ ps)
    one_more w k c t r =
        record {
          immediate = r.immediate;
          length = r.length;
          value = r.value;
          left = suc r.left;
          rest = r.rest;
          allowed = r.allowed;
          told = r.told;
          size = omega (arith, r.size);
          split = λ j. (same_true p (middle s w) t ∙ middle-is w k c r.immediate r.length r.value (omega (arith, r.size))) j ∷ r.split j;
          messages = r.messages;
        }

    -- the last record
    last : (w : Begun) → (closes s w p ≡ true) × (stage_ends (run s (Some Between) ps) ≡ true) → Rest w (p ∷ ps)
    unfolding closes
    last w h =
        let m = whole_post s w p in
        let a = both h.0 in
        let b = both a.1 in
        let d = both b.1 in
        record {
          immediate = has_immediate p.opcode;
          length = w.count * pmtu s + p.length;
          value = p.value;
          left = 0;
          rest = ps;
          allowed = allowed_of s m a.0;
          told = λ x y. eqb-true w.total m.length (rw (joined x (eq-eqb w.kind 1 y)) at d.1);
          size = omega (arith, eqb-true (packets_for (pmtu s) m.length) (suc w.count) b.0);
          split = λ j. same_true p (packet_at s m w.first w.count) d.0 j ∷ ps;
          messages = later.between h.1;
        }

    goes_on_lem : (w : Begun) → goes_on s w p ≡ true → same p (middle s w) ≡ true
    unfolding goes_on
    goes_on_lem w t = (both t).0

    inside-step : (w : Begun) → w.kind ≤ 1 → 1 ≤ w.count → stage_ends (run s (inner s w p) ps) ≡ true → Rest w (p ∷ ps)
    inside-step w k c e =
        by-test (goes_on s w p)
        (λ t. one_more w k c (goes_on_lem w t) (later.inside (more w) k (omega arith) (rw t at e)))
        (λ t. last w (kept s (closes s w p) (Some Between) ps (rw t at e)))

    -- a message of one record
    single-split : single s p ≡ true → packets_of s (alone p) p.psn ≡ p ∷ []
    unfolding single packets_of
    single-split t =
        by-test (is_read p)
        (λ r.
        let e = same_true p (made 12 (alone p) p.psn p.offset p.length) (rw r at (both t).1) in
        rw (eq-eqb (p.opcode / 6) 2 (omega (arith, eqb-true p.opcode 12 r))) (λ j. sym e j ∷ []))
        (λ r.
        let a = both (rw r at (both t).1) in
        let b = both a.1 in
        let n = eqb-true (packets_for (pmtu s) p.length) 1 b.0 in
        let e = same_true p (packet_at s (alone p) p.psn 0) b.1 in
        rw (ne_eqb (p.opcode / 6) 2 (λ q. omega (arith, leb-true p.opcode 11 a.0, q)))
        (ap (λ (k : ℕ). map (packet_at s (alone p) p.psn) (from 0 k)) n ∙ (λ j. sym e j ∷ [])))

    single-allowed : single s p ≡ true → Allowed s (alone p)
    unfolding single
    single-allowed t = allowed_of s (alone p) (both t).0

    first_kind : opens s p ≡ true → p.opcode / 6 ≤ 1
    unfolding opens
    first_kind t = omega (arith, leb-true p.opcode 6 (both t).0)

    -- a First, once the rest of its message is there
    first-is : opens s p ≡ true → (r : Rest (begun p) ps) → p ≡ packet_at s (keyed p.key (post_of (begun p) r.immediate r.length r.value)) p.psn 0
    unfolding opens
    first-is t r =
        same_true p (made (6 * (p.opcode / 6)) (heading p) (p.psn % psns) p.offset (pmtu s)) (both t).1
        ∙ first_made (heading p) (keyed p.key (post_of (begun p) r.immediate r.length r.value)) p.psn
        (first_kind t) refl refl refl refl refl (omega (arith, r.size)) (λ k. r.told refl k)

    first-message : opens s p ≡ true → Rest (begun p) ps → Messages s (p ∷ ps)
    first-message t r =
        let m = post_of (begun p) r.immediate r.length r.value in
        let n : suc (suc r.left) ≡ packets_for (pmtu s) r.length = omega (arith, r.size) in
        message (keyed p.key m) p.psn r.rest (keyed-allowed p.key m r.allowed)
        ((λ j. first-is t r j ∷ (r.split ∙ ap (λ (l : List Packet). l ++ r.rest) (keyed-rest p.key m p.psn (first_kind t) 1 (suc r.left) (omega arith) (omega (arith, n)))) j)
        ∙ ap (λ (k : ℕ). map (packet_at s (keyed p.key m) p.psn) (from 0 k) ++ r.rest) n
        ∙ ap (λ (l : List Packet). l ++ r.rest) (sym (split-is (keyed p.key m) p.psn (first_kind t))))
        r.messages

    between_step : stage_ends (run s (new_message s p) ps) ≡ true → Messages s (p ∷ ps)
    between_step e =
        by-test (single s p)
        (λ t.
        message (alone p) p.psn ps (single-allowed t) (ap (λ (l : List Packet). l ++ ps) (sym (single-split t))) (later.between (rw t at e)))
        (λ t.
        let h = kept s (opens s p) (Some (Inside (begun p))) ps (rw t at e) in
        first-message h.0 (later.inside (begun p) (first_kind h.0) (omega arith) h.1))

  pub sound : (ps : List Packet) → Sound ps
  sound [] = record { between = λ e. no_more; inside = λ w k c e. absurd (false≢true e) }
  sound (p ∷ ps) = record { between = between_step p ps (sound ps); inside = inside-step p ps (sound ps) }

  split-pos : (m : Post) (first : ℕ) → 0 < length (packets_of s m first)
  split-pos m first = rw (length-packets s m first) (slots-pos s m first)

  held-messages : {ps : List Packet} → Messages s ps → Remaining s ps
  held-messages no_more = none_left
  held-messages (message m first rest a e r) = rear m first 0 rest a (split-pos m first) e r

  rear-held : (p : Packet) (ps : List Packet) → is_rear p ≡ true → Rest (behind s p) (p ∷ ps) → Remaining s (p ∷ ps)
  rear-held p ps t r =
      let m = post_of (behind s p) r.immediate r.length r.value in
      let first = (behind s p).first in
      let n : packets_for (pmtu s) r.length ≡ suc (suc r.left) = omega (arith, r.size) in
      let l : packets_of s m first ≡ map (packet_at s m first) (from 0 (suc (suc r.left))) =
      split-is m first (omega (arith, leb-true p.opcode 11 (both t).0)) ∙ ap (λ (k : ℕ). map (packet_at s m first) (from 0 k)) n in
      let e : p ∷ ps ≡ drop 1 (packets_of s m first) ++ r.rest = rw l r.split in
      let h : 1 < length (packets_of s m first) = rw l (omega arith) in
      rear m first 1 r.rest r.allowed h e r.messages

  pub held_of : (ps : List Packet) → stage_ends (run s (Some Start) ps) ≡ true → Remaining s ps
  held_of [] e = none_left
  held_of (p ∷ ps) e =
      by-test (is_rear p)
      (λ t.
      rear-held p ps t
      ((sound (p ∷ ps)).inside (behind s p) (omega (arith, leb-true p.opcode 11 (both t).0)) (omega arith)
      (kept s (leb (pmtu s) p.offset) (inner s (behind s p) p) ps (rw t at e)).1))
      (λ t. held-messages ((sound (p ∷ ps)).between (rw t at e)))
