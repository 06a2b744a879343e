-- The writer's cursor: what one call adds and then another is what both add. Assumes nothing.
use Rattle.std.specs.Prelude.{if◌then◌else◌}
use mathlib.Core.Path.{◌≡◌, refl, sym, ◌∙◌, ap, ap₂, subst}
use mathlib.Core.Bool.{Bool, true, false, true≢false, false≢true}
use mathlib.Core.List.{List, [], ◌∷◌, ◌++◌, append_assoc, append-nil}
use Prim.Native.Nat.{ℕ, zero, suc, ◌+◌, ◌-◌, ◌*◌, ◌/◌, ◌%◌, ◌^◌, ◌<◌}
use native.Mathlib.Omega.{arith}
use native.Mathlib.Nat.{zero-add}
use lib.ListN.{length, drop, replicate, length-append}
use lib.Seq.{take-append_seam, drop-append_seam}
use borrow.Rule.Slice.PartMut.{put_mid}
use Rattle.std.specs.Int.{byte_at, bytes_high_first}
use Rattle.std.proofs.lemmas.List.{drop-replicate}
use Rattle.wire.specs.Bytes.{octet, bytes}
use Rattle.wire.specs.Layout.{Name, Layout, ◌bits◌, size, laid}
use Rattle.wire.specs.Header.{header_bytes}
use Rattle.wire.specs.Inner.Out.{filled, Adds, spelled}
use Rattle.wire.specs.declared.writer.Out.{Out}
use Rattle.wire.proofs.Bytes.{pow-byte, bytes-append, bytes-mod}
use Rattle.wire.proofs.Fields.{laid-below, laid-append, size-append}

pub adds_none : (a : Out) → Adds a a []
adds_none a xs e h = e ∙ ap filled (sym (append-nil xs))

pub adds-join : (a b c : Out) (ys zs : List ℕ) → Adds a b ys → Adds b c zs → Adds a c (ys ++ zs)
adds-join a b c ys zs p q xs e h =
    let sum = length-append ys zs in
    let first : b ≡ filled (xs ++ ys) = p xs e (omega (arith, sum)) in
    q (xs ++ ys) first (omega (arith, sum, length-append xs ys)) ∙ ap filled (append_assoc xs ys zs)

-- a number's bits above its bytes are not written
pub bytes-of-low : (k n : ℕ) → bytes k (n % 2 ^ (octet * k)) ≡ bytes k n
bytes-of-low k n = ap (λ (j : ℕ). bytes k (n % 2 ^ (octet * j))) (sym (zero-add k)) ∙ bytes-mod k 0 n

-- a number of two parts
pub adds-number : (a b c : Out) (m k x y n : ℕ) → y < 2 ^ (octet * k) → n % 2 ^ (octet * (m + k)) ≡ x * 2 ^ (octet * k) + y
    → Adds a b (bytes m x) → Adds b c (bytes k y) → Adds a c (bytes (m + k) n)
adds-number a b c m k x y n h e p q =
    let parts : bytes m x ++ bytes k y ≡ bytes (m + k) n =
    sym (bytes-append m k x y h) ∙ ap (bytes (m + k)) (sym e) ∙ bytes-of-low (m + k) n in
    subst (Adds a c) parts (adds-join a b c (bytes m x) (bytes k y) p q)

-- bytes stored at the cursor
pub adds-put : (a : Out) (ys new : List ℕ) (k : ℕ) → new ≡ ys → k ≡ length ys → Adds a (record { bytes = put_mid a.at k a.bytes new; at = a.at + length ys }) ys
unfolding filled
adds-put a ys new k s p xs e l = ap {B = Out} (λ (o : Out). record { bytes = put_mid o.at k o.bytes new; at = o.at + length ys }) e ∙ stored
  where
    zeros : List ℕ
    zeros = replicate (header_bytes - length xs) 0

    after : List ℕ
    after = replicate (header_bytes - length (xs ++ ys)) 0

    back : drop k (drop (length xs) (xs ++ zeros)) ≡ after
    back =
        let left : header_bytes - length xs - k ≡ header_bytes - length (xs ++ ys) = omega (arith, length-append xs ys, p) in
        ap (drop k) (drop-append_seam xs zeros) ∙ drop-replicate k (header_bytes - length xs) 0 ∙ ap (λ (j : ℕ). replicate j 0) left

    kept : put_mid (length xs) k (xs ++ zeros) new ≡ xs ++ ys ++ after
    kept =
        ap₂ (λ (f b : List ℕ). f ++ (new ++ b)) (take-append_seam xs zeros) back
        ∙ ap (λ (m : List ℕ). xs ++ (m ++ after)) s
        ∙ sym (append_assoc xs ys after)

    stored : ◌≡◌ {A = Out} (record { bytes = put_mid (length xs) k (xs ++ zeros) new; at = length xs + length ys }) (filled (xs ++ ys))
    stored = λ i. record { bytes = kept i; at = sym (length-append xs ys) i }

-- one byte
pub one-byte : (n : ℕ) → n < 256 → n ∷ [] ≡ bytes 1 n
unfolding bytes
one-byte n h =
    let byte : n ≡ n / 1 % 256 = omega arith in
    ap (λ (x : ℕ). x ∷ []) byte

-- the library's word for a number's bytes is ours
pub bytes-high : (k n : ℕ) → bytes_high_first k n ≡ bytes k n
unfolding bytes
bytes-high zero n = refl
bytes-high (suc k) n = ap₂ (λ (x : ℕ) (xs : List ℕ). x ∷ xs) (at k) (bytes-high k n)
  where
    at : (k : ℕ) → byte_at k n ≡ n / 2 ^ (octet * k) % 2 ^ octet
    at zero = omega arith
    at (suc i) = ap (λ (j : ℕ). n / j % 256) (pow-byte (suc i))

-- a layout of two parts, each of whole bytes
pub spelled-append : (v : Name → ℕ) (fs gs : Layout) (m k : ℕ) → size fs ≡ octet * m → size gs ≡ octet * k → spelled v (fs ++ gs) ≡ spelled v fs ++ spelled v gs
spelled-append v fs gs m k p q =
    let whole : size (fs ++ gs) / octet ≡ m + k = omega (arith, size-append fs gs) in
    let left : size fs / octet ≡ m = omega arith in
    let right : size gs / octet ≡ k = omega arith in
    let below : laid v gs < 2 ^ (octet * k) = rw q at (laid-below v gs) in
    ap₂ bytes whole (rw q at (laid-append v fs gs))
    ∙ bytes-append m k (laid v fs) (laid v gs) below
    ∙ sym (ap₂ ◌++◌ (ap (λ (j : ℕ). bytes j (laid v fs)) left) (ap (λ (j : ℕ). bytes j (laid v gs)) right))

pub adds-layout : (a b c : Out) (v : Name → ℕ) (fs gs : Layout) (m k : ℕ) → size fs ≡ octet * m → size gs ≡ octet * k
    → Adds a b (spelled v fs) → Adds b c (spelled v gs) → Adds a c (spelled v (fs ++ gs))
adds-layout a b c v fs gs m k p q f g =
    subst (Adds a c) (sym (spelled-append v fs gs m k p q)) (adds-join a b c (spelled v fs) (spelled v gs) f g)

-- one field of whole bytes
pub spelled-one : (v : Name → ℕ) (n : Name) (k : ℕ) → spelled v (n bits (octet * k) ∷ []) ≡ bytes k (v n)
unfolding laid
spelled-one v n k =
    let places : (octet * k + 0) / octet ≡ k = omega arith in
    let number : v n % 2 ^ (octet * k) * 2 ^ 0 + 0 ≡ v n % 2 ^ (octet * k) = omega arith in
    ap₂ bytes places number ∙ bytes-of-low k (v n)

pub adds-field : (a b : Out) (v : Name → ℕ) (n : Name) (k : ℕ) → Adds a b (bytes k (v n)) → Adds a b (spelled v (n bits (octet * k) ∷ []))
adds-field a b v n k p = subst (Adds a b) (sym (spelled-one v n k)) p

-- a field of whole bytes, as the library's method gives them
pub adds-be : (a b : Out) (v : Name → ℕ) (n : Name) (k : ℕ) {ys : List ℕ} → ys ≡ bytes_high_first k (v n) → Adds a b ys → Adds a b (spelled v (n bits (octet * k) ∷ []))
adds-be a b v n k e p = adds-field a b v n k (subst (Adds a b) (e ∙ bytes-high k (v n)) p)

-- headers that an opcode may carry
pub adds_carried : (a b : Out) (v : Name → ℕ) (fs : Layout) (t : Bool) → t ≡ true → Adds a b (spelled v fs) → Adds a b (spelled v (if t then fs else []))
adds_carried a b v fs true e p = p
adds_carried a b v fs false e p = absurd (false≢true e)

pub adds-not-carried : (a : Out) (v : Name → ℕ) (fs : Layout) (t : Bool) → t ≡ false → Adds a a (spelled v (if t then fs else []))
unfolding bytes
adds-not-carried a v fs true e = absurd (true≢false e)
adds-not-carried a v fs false e = adds_none a
