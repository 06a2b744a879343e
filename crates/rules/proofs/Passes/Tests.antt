-- Tests joined by `and`, lists of tests, and what two of the audit's tests say.
use mathlib.Core.Path.{◌≡◌, refl}
use mathlib.Core.Bool.{Bool, true, false, ◌&&◌, false≢true}
use mathlib.Core.List.{List, [], ◌∷◌}
use Prim.Native.Nat.{ℕ}
use lib.Dec.{eqb}
use borrow.Author.Tests.{eqb-true, eq-eqb, not-true}
use Rattle.rules.specs.declared.Packet.{Packet}
use Rattle.rules.specs.declared.Settings.{Settings}
use Rattle.rules.specs.declared.Post.{Post}
use Rattle.rules.specs.Ranges.{bad_post, over_ceiling}
use Rattle.rules.specs.WholeMessages.{Allowed}
use Rattle.rules.specs.Passes.Stage.{same, allowed_to}
use Rattle.rules.specs.Passes.Tests.{◌and◌, all_of}

pub both : {a b : Bool} → a and b ≡ true → (a ≡ true) × (b ≡ true)
unfolding ◌and◌
both {a} {b} e = go a b e
  where
    go : (a b : Bool) → a && b ≡ true → (a ≡ true) × (b ≡ true)
    go true b e = (refl, e)
    go false b e = absurd (false≢true e)

pub joined : {a b : Bool} → a ≡ true → b ≡ true → a and b ≡ true
unfolding ◌and◌
joined {a} {b} d e = rw (d, e)

-- ---- lists of tests

abbrev pub AllHold : List Bool → Type 0
AllHold [] = Unit {0}
AllHold (t ∷ ts) = (t ≡ true) × AllHold ts

pub all_hold : (ts : List Bool) → all_of ts ≡ true → AllHold ts
all_hold [] e = tt
all_hold (t ∷ ts) e = ((both e).0, all_hold ts (both e).1)

pub hold-all : (ts : List Bool) → AllHold ts → all_of ts ≡ true
hold-all [] h = refl
hold-all (t ∷ ts) h = joined h.0 (hold-all ts h.1)

-- ---- two records are the same

pub same_true : (p q : Packet) → same p q ≡ true → p ≡ q
unfolding same
same_true p q e0 =
    let h0 = both e0 in
    let h1 = both h0.1 in
    let h2 = both h1.1 in
    let h3 = both h2.1 in
    let h4 = both h3.1 in
    let h5 = both h4.1 in
    let h6 = both h5.1 in
    let h7 = both h6.1 in
    λ j.
    record {
      psn = eqb-true p.psn q.psn h0.0 j;
      ticket = eqb-true p.ticket q.ticket h1.0 j;
      opcode = eqb-true p.opcode q.opcode h2.0 j;
      offset = eqb-true p.offset q.offset h3.0 j;
      length = eqb-true p.length q.length h4.0 j;
      address = eqb-true p.address q.address h5.0 j;
      key = eqb-true p.key q.key h6.0 j;
      total = eqb-true p.total q.total h7.0 j;
      value = eqb-true p.value q.value h7.1 j;
    }

self : (n : ℕ) → eqb n n ≡ true
self n = eq-eqb n n refl

pub same_self : (p q : Packet) → p ≡ q → same p q ≡ true
unfolding same
same_self p q e =
    rw e (joined (self q.psn) (joined (self q.ticket) (joined (self q.opcode) (joined (self q.offset) (joined (self q.length) (joined (self q.address) (joined (self q.key) (joined (self q.total) (self q.value)))))))))

-- ---- a post that is allowed

pub allowed_of : (s : Settings) (m : Post) → allowed_to s m ≡ true → Allowed s m
unfolding allowed_to
allowed_of s m e = record { in-range = not-true (bad_post m) (both e).0; in-ceiling = not-true (over_ceiling s m) (both e).1 }

pub allowed-is : (s : Settings) (m : Post) → Allowed s m → allowed_to s m ≡ true
unfolding allowed_to
allowed-is s m a = joined (rw a.in-range) (rw a.in-ceiling)
