-- "Reading a written header .. gives the same fields." Assumes nothing.
use Rattle.std.specs.Prelude.{Result, Ok, Err, if◌then◌else◌}
use mathlib.Core.Path.{◌≡◌, refl, sym, ◌∙◌, ap, subst}
use mathlib.Core.Bool.{Bool, true, false, ◌||◌}
use mathlib.Core.List.{List, [], ◌∷◌, ◌++◌}
use Prim.Native.Nat.{ℕ, zero, suc, ◌+◌, ◌-◌, ◌*◌, ◌/◌, ◌^◌, ◌≤◌, ◌<◌}
use native.Mathlib.Omega.{arith}
use native.Mathlib.Nat.{mod-lt, mod-eq_of_lt}
use lib.Dec.{ltb, leb, lit<}
use lib.Pow.{pow_pos}
use lib.ListN.{length, take, replicate, length-append, get_or-append}
use lib.Seq.{take_all, take_at}
use borrow.Author.Tests.{ltb-false, leb-true, leb-false}
use Rattle.psn.specs.Psn.{psns}
use Rattle.refusal.specs.declared.Refusal.{Refusal}
use Rattle.refusal.specs.declared.Refusal.TheVariants.{Range, Opcode}
use Rattle.refusal.proofs.Cases.{by-test, or_left, or_right}
use Rattle.wire.specs.Bytes.{octet, number, bytes, AllBytes}
use Rattle.wire.specs.Layout as fields
use Rattle.wire.specs.Layout.{Name, Layout, bth, reth, immediate_data, aeth, size, has, laid, field}
use Rattle.wire.specs.Opcodes.{known, has_reth, has_immediate, has_aeth, is_bare, layout, header_length}
use Rattle.wire.specs.Header.{header_bytes, put, written, is_out_of_range, out_of, write_of}
use Rattle.wire.specs.Frame.{got, opcode_of, length_of, rest_of, value_in, is_bad_rest, frame_of, read_of}
use Rattle.wire.specs.Inner.Seen.{seen, bth_in, count}
use Rattle.wire.specs.RoundTrip.{Held, kept, Forth}
use Rattle.wire.specs.declared.Header.{Header}
use Rattle.wire.specs.declared.Written.{Written}
use Rattle.wire.specs.declared.Frame.{Frame}
use Rattle.wire.proofs.Bytes.{number-bytes}
use Rattle.wire.proofs.Fields.{Fitting, laid-below, field-laid}
use Rattle.wire.proofs.Rows.{length-bytes, length-least, size-joined}
use Rattle.wire.proofs.Seeing.{seen-take}
use Rattle.wire.proofs.Reading.{in-bth, read_whole, opcode-is}
use Rattle.wire.proofs.Writing.{written-length, write-range, write-opcode, write-whole}

-- ---- every field fits its width

fitting-append : (v : Name → ℕ) (fs gs : Layout) → Fitting v fs → Fitting v gs → Fitting v (fs ++ gs)
fitting-append v [] gs p q = q
fitting-append v (f ∷ fs) gs p q = (p.0, fitting-append v fs gs p.1 q)

fitting-carried : (v : Name → ℕ) (fs : Layout) (t : Bool) → Fitting v fs → Fitting v (if t then fs else [])
fitting-carried v fs true p = p
fitting-carried v fs false p = tt

pub record InRange (h : Header) : Type 0 where
  pub pad : h.pad < 4
  pub far : h.far < 2 ^ 24
  pub psn : h.psn < 2 ^ 24
  pub msn : h.msn < 2 ^ 24

in-range : (h : Header) → is_out_of_range h ≡ false → InRange h
in-range h e =
    let t1 = ltb 3 h.pad in
    let t2 = leb (2 ^ 24) h.far in
    let t3 = leb psns h.psn in
    let t4 = leb (2 ^ 24) h.msn in
    let e2 = or_right t1 (t2 || (t3 || (t4 || false))) e in
    let e3 = or_right t2 (t3 || (t4 || false)) e2 in
    let e4 = or_right t3 (t4 || false) e3 in
    let p1 = ltb-false 3 h.pad (or_left t1 (t2 || (t3 || (t4 || false))) e) in
    let p2 = leb-false (2 ^ 24) h.far (or_left t2 (t3 || (t4 || false)) e2) in
    let p3 = leb-false psns h.psn (or_left t3 (t4 || false) e3) in
    let p4 = leb-false (2 ^ 24) h.msn (or_left t4 false e4) in
    record { pad = omega arith; far = omega arith; psn = omega arith; msn = omega arith }

fitting : (h : Header) → Held h → InRange h → known h.opcode ≡ true → Fitting (put h) (layout h.opcode)
unfolding layout
fitting h held r k =
    let v = put h in
    let op = h.opcode in
    let opcode : op < 256 = omega (arith, leb-true op 17 k) in
    let in-bth : Fitting v bth =
    (opcode, (lit< tt, (lit< tt, (r.pad, (lit< tt, (held.pkey, (lit< tt, (r.far, (lit< tt, (lit< tt, (r.psn, tt))))))))))) in
    let in-reth : Fitting v reth = (held.address, (held.key, (held.length, tt))) in
    let in-immediate : Fitting v immediate_data = (held.value, tt) in
    let in-aeth : Fitting v aeth = (held.syndrome, (r.msn, tt)) in
    let with-reth = fitting-append v bth (if has_reth op then reth else []) in-bth (fitting-carried v reth (has_reth op) in-reth) in
    let with-immediate =
    fitting-append v (bth ++ (if has_reth op then reth else [])) (if has_immediate op then immediate_data else [])
    with-reth (fitting-carried v immediate_data (has_immediate op) in-immediate) in
    fitting-append v (bth ++ (if has_reth op then reth else []) ++ (if has_immediate op then immediate_data else [])) (if has_aeth op then aeth else [])
    with-immediate (fitting-carried v aeth (has_aeth op) in-aeth)

-- ---- what stands in the written bytes

bytes_small : (k n : ℕ) → AllBytes (bytes k n)
unfolding bytes
bytes_small zero n i = omega arith
bytes_small (suc k) n zero = mod-lt (n / 2 ^ (octet * k)) (pow_pos octet)
bytes_small (suc k) n (suc i) = bytes_small k n i

written-number : (h : Header) → number (written h) ≡ laid (put h) (layout h.opcode)
unfolding written
written-number h =
    let op = h.opcode in
    let x = laid (put h) (layout op) in
    number-bytes (header_length op) x ∙ mod-eq_of_lt (subst (λ (j : ℕ). x < 2 ^ j) (length-bytes op) (laid-below (put h) (layout op)))

module _ (h : Header) (held : Held h) (r : InRange h) (k : known h.opcode ≡ true) where
  field-written : (n : Name) → field n (layout h.opcode) (number (written h)) ≡ (if has n (layout h.opcode) then put h n else 0)
  field-written n = ap (field n (layout h.opcode)) (written-number h) ∙ field-laid (put h) (layout h.opcode) (fitting h held r k) n

  -- the first byte is the opcode
  opcode-written : opcode_of (written h) ≡ h.opcode
  unfolding layout bth_in written header_length
  opcode-written =
      let op = h.opcode in
      let s = written h in
      let small : AllBytes s = bytes_small (header_length op) (laid (put h) (layout op)) in
      let places = 12 + count (has_reth op) 16 + count (has_immediate op) 4 + count (has_aeth op) 4 in
      let as_long : length s ≡ places = omega (arith, written-length h, size-joined (has_reth op) (has_immediate op) (has_aeth op)) in
      let all : seen s 0 places ≡ s = seen-take s 0 places (omega arith) ∙ take_all places s (omega arith) in
      sym (opcode-is s small)
      ∙ sym (in-bth s small (has_reth op) (has_immediate op) (has_aeth op) fields.opcode refl refl refl)
      ∙ ap (λ (l : List ℕ). field fields.opcode (layout op) (number l)) all
      ∙ field-written fields.opcode

  module _ (rest : List ℕ) where
    abbrev frame : List ℕ
    frame = written h ++ rest

    opcode-there : opcode_of frame ≡ h.opcode
    opcode-there =
        get_or-append (written h) rest 0 0 (omega (arith, written-length h, length-least h.opcode)) ∙ opcode-written

    length-there : length_of frame ≡ header_length h.opcode
    length-there = ap header_length opcode-there

    value_there : (n : Name) → value_in frame n ≡ (if has n (layout h.opcode) then put h n else 0)
    unfolding value_in
    value_there n =
        ap (λ (op : ℕ). field n (layout op) (number (take (header_length op) frame))) opcode-there
        ∙ ap (λ (l : List ℕ). field n (layout h.opcode) (number l)) (take_at (written h) rest (header_length h.opcode) (written-length h))
        ∙ field-written n

    read_back : is_bad_rest (length rest) h.pad (is_bare h.opcode) ≡ false
        → read_of frame ≡ Ok (record { header = kept h; length = header_length h.opcode; payload = length rest - h.pad })
    unfolding layout
    read_back b =
        let total = length-append (written h) rest in
        let long : length_of frame ≤ length frame = omega (arith, written-length h, length-there) in
        let least : 12 ≤ length frame = omega (arith, written-length h, length-least h.opcode) in
        let rest-is : rest_of frame ≡ length rest = omega (arith, written-length h, length-there) in
        let pad-is : value_in frame fields.pad ≡ h.pad = value_there fields.pad in
        let tested : is_bad_rest (rest_of frame) (value_in frame fields.pad) (is_bare (opcode_of frame)) ≡ false =
        (λ i. is_bad_rest (rest-is i) (pad-is i) (is_bare (opcode-there i))) ∙ b in
        let answer : ◌≡◌ {A = Frame} (frame_of frame) (record { header = kept h; length = header_length h.opcode; payload = length rest - h.pad }) =
        λ i. record { header = got (λ n. value_there n i); length = length-there i; payload = rest-is i - pad-is i } in
        read_whole frame least (ap known opcode-there ∙ k) long (value_there fields.version) tested ∙ ap Ok answer

-- ---- the theorem

pub forth : Forth
forth h n rest held e b =
    by-test (is_out_of_range h)
    (λ t. let z : Err Range ≡ Ok n = sym (ap size_of (write-range h t)) ∙ e in cc)
    (λ t.
    by-test (known h.opcode)
    (λ k.
    let z : Ok (header_length h.opcode) ≡ Ok n = sym (ap size_of (write-whole h t k)) ∙ e in
    let same : header_length h.opcode ≡ n = cc in
    subst (Reads (write_of h)) same (subst (λ (w : Written). Reads w (header_length h.opcode)) (sym (write-whole h t k)) (whole-header t k)))
    (λ k. let z : Err Opcode ≡ Ok n = sym (ap size_of (write-opcode h t k)) ∙ e in cc))
  where
    size_of : Written → Result ℕ Refusal
    size_of w = w.size

    Reads : Written → ℕ → Type 0
    Reads w n = read_of (take n w.bytes ++ rest) ≡ Ok (record { header = kept h; length = n; payload = length rest - h.pad })

    whole-header : is_out_of_range h ≡ false → known h.opcode ≡ true → Reads (out_of h) (header_length h.opcode)
    whole-header t k =
        let n = header_length h.opcode in
        ap (λ (l : List ℕ). read_of (l ++ rest)) (take_at (written h) (replicate (header_bytes - n) 0) n (written-length h))
        ∙ read_back h held (in-range h t) k rest b
