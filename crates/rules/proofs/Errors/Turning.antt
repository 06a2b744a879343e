-- The small laws of turning: PSNs turned k places compare as they did, and packets turned are found, counted and read at the same places.
use Rattle.std.specs.Prelude.{if◌then◌else◌}
use mathlib.Core.Path.{◌≡◌, refl, sym, ap, ap₂, ◌∙◌}
use mathlib.Core.Bool.{Bool, true, false, ◌&&◌}
use mathlib.Core.List.{List, [], ◌∷◌, map}
use Prim.Native.Nat.{ℕ, zero, suc, ◌<◌}
use native.Mathlib.Omega.{arith}
use native.Mathlib.Nat.{not-suc-le-zero, le_of_suc-le-suc}
use lib.Dec.{ltb, eqb}
use lib.ListN.{length, get_or}
use borrow.Author.Tests.{eqb-true, eqb-false, eq-eqb, ne_eqb}
use Rattle.psn.specs.Psn.{psns, distance, plus, before}
use Rattle.psn.proofs.Laws.{distance_is}
use Rattle.refusal.proofs.Cases.{by-test}
use Rattle.rules.specs.declared.Packet.{Packet}
use Rattle.rules.specs.declared.Settings.{Settings}
use Rattle.rules.specs.declared.Standing.{Standing}
use Rattle.rules.specs.declared.Post.{Post}
use Rattle.rules.specs.Account.{ahead, further}
use Rattle.rules.specs.Message.{span, is_read, asks_read, packet_at, psns_for, packets_of, from, unanswered}
use Rattle.rules.specs.Emission.{ends, ends_at}
use Rattle.rules.specs.Release.{passed_by, advanced}
use Rattle.rules.specs.Response.{covers, taken}
use Rattle.rules.specs.Errors.{turned_packet, turned_standing}

-- a choice by the same test, of two results that each turn
pub if-turned : {A B : Type 0} (f : A → B) (t : Bool) {u : Bool} {a b : A} {c d : B} → u ≡ t → (t ≡ true → c ≡ f a) → (t ≡ false → d ≡ f b)
    → (if u then c else d) ≡ f (if t then a else b)
if-turned f true e p q = rw e (p refl)
if-turned f false e p q = rw e (q refl)

-- ---- lists

-- the first that passes a test stands at the same place
pub ahead-map : (f : Packet → Packet) (t u : Packet → Bool) → ((p : Packet) → t (f p) ≡ u p) → (ps : List Packet) → ahead t (map f ps) ≡ ahead u ps
ahead-map f t u h [] = refl
ahead-map f t u h (p ∷ ps) = rw (h p, ahead-map f t u h ps)

-- what is read inside the list, whatever stands past its end
pub get_d_map : (f : Packet → Packet) (c d : Packet) (ps : List Packet) (i : ℕ) → i < length ps → get_or (map f ps) i c ≡ f (get_or ps i d)
get_d_map f c d [] i h = absurd (not-suc-le-zero h)
get_d_map f c d (p ∷ ps) zero h = refl
get_d_map f c d (p ∷ ps) (suc i) h = get_d_map f c d ps i (le_of_suc-le-suc h)

module _ (k : ℕ) where
  -- ---- packet numbers

  pub distance-turned : (a b : ℕ) → distance (plus a k) (plus b k) ≡ distance a b
  distance-turned a b = omega (arith, distance_is a b, distance_is (plus a k) (plus b k))

  pub plus-swap : (a j : ℕ) → plus (plus a k) j ≡ plus (plus a j) k
  plus-swap a j = omega arith

  plus-inj : (a b : ℕ) → a < psns → b < psns → plus a k ≡ plus b k → a ≡ b
  plus-inj a b l m e = omega arith

  pub eqb-turned : (a b : ℕ) → a < psns → b < psns → eqb (plus a k) (plus b k) ≡ eqb a b
  eqb-turned a b l m =
      by-test (eqb a b)
      (λ e. eq-eqb _ _ (ap (λ (c : ℕ). plus c k) (eqb-true a b e)) ∙ sym e)
      (λ e. ne_eqb _ _ (λ q. eqb-false a b e (plus-inj a b l m q)) ∙ sym e)

  pub before-turned : (u a b : ℕ) → before (plus u k) (plus a k) (plus b k) ≡ before u a b
  before-turned u a b = ap₂ ltb (distance-turned u a) (distance-turned u b)

  pub further-turned : (u x y : ℕ) → further (plus u k) (plus x k) (plus y k) ≡ plus (further u x y) k
  further-turned u x y = if-turned (λ (a : ℕ). plus a k) (before u x y) (before-turned u x y) (λ _. refl) (λ _. refl)

  -- ---- what a rule asks of a packet

  pub ends_turned : (s : Settings) (p : Packet) → ends s (turned_packet k p) ≡ plus (ends s p) k
  ends_turned s p = plus-swap p.psn (span s p)

  pub ends-at-turned : (s : Settings) (x : ℕ) (ps : List Packet) → ends_at s (plus x k) (map (turned_packet k) ps) ≡ plus (ends_at s x ps) k
  ends-at-turned s x [] = refl
  ends-at-turned s x (p ∷ ps) = ap (λ (y : ℕ). ends_at s y (map (turned_packet k) ps)) (ends_turned s p) ∙ ends-at-turned s (ends s p) ps

  pub unanswered-turned : (t : Standing) (p : Packet) → unanswered (turned_standing k t) (turned_packet k p) ≡ plus (unanswered t p) k
  unanswered-turned t p =
      if-turned (λ (a : ℕ). plus a k) (ltb (distance p.psn t.line.u) (span t.settings p))
      (ap (λ (d : ℕ). ltb d (span t.settings p)) (distance-turned p.psn t.line.u)) (λ _. refl) (λ _. refl)

  pub passed-turned : (b : ℕ) (t : Standing) (p : Packet) → passed_by (plus b k) (turned_standing k t) (turned_packet k p) ≡ passed_by b t p
  passed-turned b t p =
      ap (λ (c : Bool). is_read p && c)
      (ap (λ (a : ℕ). before (plus t.line.u k) a (plus b k)) (unanswered-turned t p) ∙ before-turned t.line.u (unanswered t p) b)

  pub covers-turned : (s : Settings) (r : ℕ) (p : Packet) → covers s (plus r k) (turned_packet k p) ≡ covers s r p
  covers-turned s r p = ap (λ (d : ℕ). is_read p && ltb d (span s p)) (distance-turned p.psn r)

  pub advanced-turned : (a : ℕ) (t : Standing) → a < psns → t.line.u < psns → advanced (plus a k) (turned_standing k t) ≡ turned_standing k (advanced a t)
  advanced-turned a t l m = rw (further-turned t.line.u t.line.x a, eqb-turned a t.line.u l m)

  pub taken-turned : (u a : ℕ) (t : Standing) → taken (plus u k) (plus a k) (turned_standing k t) ≡ turned_standing k (taken u a t)
  taken-turned u a t = rw (further-turned u t.line.x a)

  -- ---- a post's packets

  packet-at-turned : (s : Settings) (m : Post) (a i : ℕ) → packet_at s m (plus a k) i ≡ turned_packet k (packet_at s m a i)
  packet-at-turned s m a i = rw (plus-swap a i)

  pub packets-turned : (s : Settings) (m : Post) (a : ℕ) → packets_of s m (plus a k) ≡ map (turned_packet k) (packets_of s m a)
  unfolding packets_of
  packets-turned s m a = by-test (asks_read m) (λ e. rw e) (λ e. rw e (each (from 0 (psns_for s m))))
    where
      each : (l : List ℕ) → map (packet_at s m (plus a k)) l ≡ map (turned_packet k) (map (packet_at s m a) l)
      each [] = refl
      each (i ∷ l) = λ j. packet-at-turned s m a i j ∷ each l j
