-- The walk stands inside a message: it takes the rest of the records of any allowed post.
use Rattle.std.specs.Prelude.{Option, Some, if◌then◌else◌}
use mathlib.Core.Path.{◌≡◌, refl, sym, ap, ◌∙◌}
use mathlib.Core.Bool.{Bool, true, false}
use mathlib.Core.List.{List, ◌++◌, map}
use Prim.Native.Nat.{ℕ, zero, suc, ◌+◌, ◌-◌, ◌*◌, ◌/◌, ◌≤◌, ◌<◌}
use native.Mathlib.Omega.{arith}
use native.Mathlib.Nat.{div-mul-le_self, lt-div-mul-add, div-eq_of_lt-le, mul-le-mul_right}
use lib.Pow.{pow_pos}
use lib.Dec.{eqb}
use borrow.Author.Tests.{eqb-true, eq-eqb, ne_eqb, lt-ltb}
use lib.ListN.{length}
use Rattle.rules.specs.declared.Packet.{Packet}
use Rattle.rules.specs.declared.Settings.{Settings}
use Rattle.rules.specs.declared.Post.{Post}
use Rattle.rules.specs.declared.carried.Begun.{Begun}
use Rattle.rules.specs.declared.carried.Stage.{Stage}
use Rattle.rules.specs.declared.carried.Stage.TheVariants.{Between, Inside}
use Rattle.psn.specs.Psn.{plus}
use Rattle.wire.specs.Opcodes.{has_reth, has_immediate}
use Rattle.rules.specs.Message.{pmtu, packets_for, from, opcode_at, length_at, made, packet_at, packets_of}
use Rattle.rules.specs.WholeMessages.{Allowed}
use Rattle.rules.specs.Passes.Stage.{post_of, more, middle, whole_post, closes, goes_on, inner}
use Rattle.rules.specs.Passes.Tests.{◌and◌}
use Rattle.refusal.proofs.Cases.{by-test, if-case}
use Rattle.rules.proofs.Ranges.{permitted, allow}
use Rattle.rules.proofs.Sides.Good.{length-packets}
use Rattle.rules.proofs.Passes.Tests.{both, joined, same_true, same_self, allowed-is}
use Rattle.rules.proofs.Passes.StageSound.{run, opcode-middle, opcode-last, bare-middle, reth-last, made-bare}

-- ---- sizes

module _ (s : Settings) where
  pub size-bounds : (len i : ℕ) → 1 ≤ i → packets_for (pmtu s) len ≡ suc i → (i * pmtu s < len) × (len ≤ i * pmtu s + pmtu s)
  size-bounds len i h e =
      by-test (eqb len 0)
      (λ z. absurd (omega (arith, rw z at e)))
      (λ z. go ((len + (pmtu s - 1)) / pmtu s) (rw z at e) (div-mul-le_self (len + (pmtu s - 1)) (pmtu s)) (lt-div-mul-add (pow_pos (7 + s.pmtu))))
    where
      go : (q : ℕ) → q ≡ suc i → q * pmtu s ≤ len + (pmtu s - 1) → len + (pmtu s - 1) < q * pmtu s + pmtu s → (i * pmtu s < len) × (len ≤ i * pmtu s + pmtu s)
      go q d a b =
          let a' : suc i * pmtu s ≤ len + (pmtu s - 1) = rw d at a in
          let b' : len + (pmtu s - 1) < suc i * pmtu s + pmtu s = rw d at b in
          (omega (arith, pow_pos (7 + s.pmtu)), omega (arith, pow_pos (7 + s.pmtu)))

  pub size_of : (len i : ℕ) → i * pmtu s < len → len ≤ i * pmtu s + pmtu s → packets_for (pmtu s) len ≡ suc i
  size_of len i h k =
      rw (ne_eqb len 0 (λ e. omega arith))
      (div-eq_of_lt-le {k = suc i} (pmtu s) (omega (arith, pow_pos (7 + s.pmtu))) (omega (arith, pow_pos (7 + s.pmtu))))

  pub slots-is : (m : Post) → m.kind ≤ 1 → (first : ℕ) → length (packets_of s m first) ≡ packets_for (pmtu s) m.length
  slots-is m kd first = length-packets s m first ∙ rw (ne_eqb m.kind 2 (λ e. omega (arith, e)))

-- ---- opcodes

abbrev pub late : Post → ℕ
late m = if m.immediate then 1 else 0

pub late-low : (m : Post) → late m ≤ 1
late-low m = if-case (λ (x : ℕ). x ≤ 1) m.immediate (λ _. omega arith) (λ _. omega arith)

-- the last record tells of an immediate
immediate-last : (k : ℕ) → k ≤ 1 → (b : Bool) → has_immediate (6 * k + (2 + (if b then 1 else 0))) ≡ b
immediate-last zero h true = refl
immediate-last zero h false = refl
immediate-last (suc zero) h true = refl
immediate-last (suc zero) h false = refl
immediate-last (suc (suc k)) h b = absurd (omega arith)

-- a record without RETH: ticket and value
made-late : (op : ℕ) (m m' : Post) (psn offset length : ℕ) → has_reth op ≡ false → m.ticket ≡ m'.ticket
    → (if has_immediate op then m.value else 0) ≡ (if has_immediate op then m'.value else 0)
    → made op m psn offset length ≡ made op m' psn offset length
made-late op m m' psn offset length r t v = rw (r, t, v)

-- ---- the walk stands at place i of the post m

module _ (s : Settings) (m : Post) (kd : m.kind ≤ 1) (first : ℕ) where
  n : ℕ
  n = packets_for (pmtu s) m.length

  pub record Stands (i : ℕ) (w : Begun) : Type 0 where
    pub kind : w.kind ≡ m.kind
    pub ticket : w.ticket ≡ m.ticket
    pub some : 1 ≤ w.count
    pub most : w.count ≤ i
    pub psn : plus w.first w.count ≡ plus first i
    pub offset : w.offset + w.count * pmtu s ≡ m.offset + i * pmtu s
    pub address : w.address ≤ m.address
    pub exact : w.whole ≡ true → w.count ≡ i
    pub total : w.whole ≡ true → w.kind ≡ 1 → w.total ≡ m.length

  stands-more : (i : ℕ) (w : Begun) → Stands i w → Stands (suc i) (more w)
  stands-more i w st =
      record {
        kind = st.kind;
        ticket = st.ticket;
        some = omega arith;
        most = omega (arith, st.most);
        psn = omega (arith, st.psn);
        offset = omega (arith, st.offset);
        address = st.address;
        exact = λ e. ap suc (st.exact e);
        total = st.total;
      }

  middle-at : (i : ℕ) (w : Begun) → Stands i w → suc i < n → packet_at s m first i ≡ middle s w
  unfolding n
  middle-at i w st h =
      rw (
        opcode-middle m (packets_for (pmtu s) m.length) i (omega (arith, st.some, st.most)) h,
        ne_eqb (suc i) (packets_for (pmtu s) m.length) (λ e. omega arith),
        st.kind,
        st.psn,
        st.offset,
      )
      (made-bare (6 * m.kind + 1) m (post_of w false w.total 0) (plus first i) (m.offset + i * pmtu s) (pmtu s) (bare-middle m.kind kd).0 (bare-middle m.kind kd).1 (sym st.ticket))

  goes_on_lem : Allowed s m → (i : ℕ) (w : Begun) → Stands i w → suc i < n → goes_on s w (packet_at s m first i) ≡ true
  unfolding goes_on n
  goes_on_lem allowed i w st h =
      joined (same_self (packet_at s m first i) (middle s w) (middle-at i w st h))
      (lt-ltb (suc w.count) s.ceiling (omega (arith, length-packets s m 0, slots-is s m kd 0, (permitted allowed).room, st.most)))

  not-middle : (i : ℕ) (w : Begun) → Stands i w → suc i ≡ n → goes_on s w (packet_at s m first i) ≡ false
  unfolding n goes_on
  not-middle i w st h =
      by-test (goes_on s w (packet_at s m first i))
      (λ t. absurd (omega (arith, ap (λ (q : Packet). q.opcode) (same_true (packet_at s m first i) (middle s w) (both t).0), opcode-last m (packets_for (pmtu s) m.length) i (omega (arith, st.some, st.most)) h, st.kind)))
      (λ t. t)

  module _ (allowed : Allowed s m) (i : ℕ) (w : Begun) (st : Stands i w) (h : suc i ≡ n) where
    z : Packet
    z = packet_at s m first i

    m' : Post
    m' = whole_post s w z

    z-length : z.length ≡ m.length - i * pmtu s
    unfolding z n
    z-length = rw (eq-eqb (suc i) (packets_for (pmtu s) m.length) h)

    one : 1 ≤ i
    one = omega (arith, st.some, st.most)

    z-opcode : z.opcode ≡ 6 * m.kind + (2 + late m)
    unfolding z n
    z-opcode = opcode-last m (packets_for (pmtu s) m.length) i one h

    bounds : (i * pmtu s < m.length) × (m.length ≤ i * pmtu s + pmtu s)
    unfolding n
    bounds = size-bounds s m.length i one (sym h)

    less : w.count * pmtu s ≤ i * pmtu s
    less = mul-le-mul_right (pmtu s) st.most

    last-size : packets_for (pmtu s) m'.length ≡ suc w.count
    unfolding m'
    last-size = size_of s (w.count * pmtu s + z.length) w.count (omega (arith, z-length, bounds)) (omega (arith, z-length, bounds))

    last-allowed : Allowed s m'
    unfolding m' n
    last-allowed =
        allow (record {
          kind = omega (arith, st.kind);
          plain-read = λ e. absurd (omega (arith, st.kind, e));
          short = omega (arith, (permitted allowed).short, less, z-length, bounds);
          offset = omega (arith, (permitted allowed).fits, st.offset, less, z-length, bounds);
          fits = omega (arith, (permitted allowed).fits, st.offset, less, z-length, bounds);
          reach = λ k l. omega (arith, (permitted allowed).reach (omega (arith, k, st.kind)) (omega (arith, bounds)), st.address, less, z-length, bounds);
          room = omega (arith, length-packets s (whole_post s w z) 0, length-packets s m 0, slots-is s (whole_post s w z) (omega (arith, st.kind)) 0 ∙ last-size, slots-is s m kd 0, (permitted allowed).room, h, st.most);
        })

    z-value : (if has_immediate (6 * m.kind + (2 + late m)) then m.value else 0) ≡ (if has_immediate (6 * m.kind + (2 + late m)) then m'.value else 0)
    unfolding m' z n
    z-value =
        by-test (has_immediate (6 * m.kind + (2 + late m)))
        (λ t. rw (t, ap has_immediate (opcode-last m (packets_for (pmtu s) m.length) i one h) ∙ t))
        (λ t. rw t)

    last-opcode : opcode_at m' (packets_for (pmtu s) m'.length) w.count ≡ 6 * m.kind + (2 + late m)
    unfolding m'
    last-opcode =
        opcode-last m' (packets_for (pmtu s) m'.length) w.count st.some (sym last-size)
        ∙ (λ j. 6 * st.kind j + (2 + (if (ap has_immediate z-opcode ∙ immediate-last m.kind kd m.immediate) j then 1 else 0)))

    last-length : length_at (pmtu s) m'.length (packets_for (pmtu s) m'.length) w.count ≡ z.length
    unfolding m'
    last-length =
        rw (eq-eqb (suc w.count) (packets_for (pmtu s) m'.length) (sym last-size)) (omega arith)

    z-is : z ≡ made (6 * m.kind + (2 + late m)) m (plus first i) (m.offset + i * pmtu s) z.length
    unfolding z n
    z-is = λ j. made (opcode-last m (packets_for (pmtu s) m.length) i one h j) m (plus first i) (m.offset + i * pmtu s) z.length

    last-same : z ≡ packet_at s m' w.first w.count
    unfolding m'
    last-same =
        z-is
        ∙ made-late (6 * m.kind + (2 + late m)) m m' (plus first i) (m.offset + i * pmtu s) z.length (reth-last m.kind kd m.immediate) ticket z-value
        ∙ (λ j. made (sym last-opcode j) m' (sym st.psn j) (offset j) (sym last-length j))
      where
        ticket : m.ticket ≡ m'.ticket
        ticket = sym st.ticket

        offset : m.offset + i * pmtu s ≡ m'.offset + w.count * pmtu s
        offset = sym st.offset

    last-closes : closes s w z ≡ true
    unfolding closes m'
    last-closes =
        joined (allowed-is s m' last-allowed) (joined (eq-eqb (packets_for (pmtu s) m'.length) (suc w.count) last-size) (joined (same_self z (packet_at s m' w.first w.count) last-same) told))
      where
        told : (if w.whole and eqb w.kind 1 then eqb w.total m'.length else true) ≡ true
        told =
            by-test (w.whole and eqb w.kind 1)
            (λ t.
            let e = ap (λ (k : ℕ). k * pmtu s) (st.exact (both t).0) in
            rw t (eq-eqb w.total m'.length (omega (arith, st.total (both t).0 (eqb-true w.kind 1 (both t).1), e, z-length, bounds))))
            (λ t. rw t)

  -- the rest of the message, and then what follows
  pub inner-complete : Allowed s m → (rest : List Packet) (j i : ℕ) (w : Begun) → Stands i w → i + suc j ≡ packets_for (pmtu s) m.length
      → run s (Some (Inside w)) (map (packet_at s m first) (from i (suc j)) ++ rest) ≡ run s (Some Between) rest
  unfolding z n
  inner-complete allowed rest zero i w st h =
      let e : inner s w (packet_at s m first i) ≡ Some Between = rw (not-middle i w st (omega arith), last-closes allowed i w st (omega arith)) in
      ap (λ (x : Option Stage). run s x rest) e
  inner-complete allowed rest (suc j) i w st h =
      let e : inner s w (packet_at s m first i) ≡ Some (Inside (more w)) = rw (goes_on_lem allowed i w st (omega arith)) in
      ap (λ (x : Option Stage). run s x (map (packet_at s m first) (from (suc i) (suc j)) ++ rest)) e
      ∙ inner-complete allowed rest j (suc i) (more w) (stands-more i w st) (omega arith)
