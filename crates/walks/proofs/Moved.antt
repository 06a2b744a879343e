-- The law of moving: a run of slots from the front of one queue, hung one by one at the end of another. It is stated once, of any loop whose turns move a slot, and
-- serves the slots that leave a pair and those that join one.
use Rattle.std.specs.Prelude.{if◌then◌else◌}
use mathlib.Core.Path.{◌≡◌, refl, sym, ap, ◌∙◌}
use mathlib.Core.List.{List, [], ◌∷◌, ◌++◌, append-nil}
use Prim.Native.Nat.{ℕ, zero, suc, ◌+◌, ◌≤◌, ◌<◌}
use native.Mathlib.Omega.{arith}
use lib.Dec.{eqb}
use borrow.Author.Tests.{ne_eqb}
use lib.ListN.{length, take, drop, take-append-drop}
use lib.Seq.{append_snoc, length-take-le}
use Rattle.refusal.proofs.Each.{each-so}
use Rattle.rules.specs.declared.Packet.{Packet}
use Rattle.rules.specs.declared.Queue.{Queue}
use Rattle.rules.specs.declared.Slot.{Slot}
use Rattle.rules.specs.Slots.{slot_at, holding, filled, times, Below, first_of, last_of, chain, Linked, Spells}
use Rattle.rules.proofs.Slots.Links.{Distinct, Apart, times-append, below-append, below-take, last-append, length-chain, linked-apart, linked-chain, linked-same, chain-linked}
use Rattle.rules.proofs.Slots.Filled.{length-filled, filled-link}
use Rattle.refusal.specs.Loop.{loop}
use Rattle.refusal.proofs.Loop.{loop-done, loop-more}
use Rattle.walks.specs.declared.Moving.{Moving}
use Rattle.walks.specs.Acting.{move_step}
use Rattle.walks.proofs.Hung.{hung_with, hung-is, hung-then}
use Rattle.walks.proofs.Rear.{none}

-- the queue's first slot, after a slot was hung at its end
first-hung : (B : List ℕ) (a : ℕ) → Below none B → (if eqb (first_of none B) none then a else first_of none B) ≡ first_of none (B ++ (a ∷ []))
first-hung [] a b = refl
first-hung (c ∷ B) a b = rw (ne_eqb c none (λ (e : c ≡ none). omega (arith, b.0)))

-- the slots of l are to move, in front of `rest`, to the end of B
pub record Ready (w : Moving) (s : List Slot) (B l rest : List ℕ) : Type 0 where
  pub left : w.left ≡ length l
  pub at : w.at ≡ first_of none (l ++ rest)
  pub first : w.first ≡ first_of none B
  pub last : w.last ≡ last_of none B
  pub source : Linked none s (l ++ rest)
  pub target : Linked none s B
  pub once : Distinct (B ++ (l ++ rest))
  pub target_below : Below (length s) B
  pub run-below : Below (length s) l
  pub size : length s ≤ none

-- so many slots of the front of one queue, to the end of another
pub ready_of : (s : List Slot) (k : ℕ) (q e : Queue) (l B : List ℕ) → Spells none s q l → Spells none s e B → Apart B l → k ≤ length l → length s ≤ none
    → Ready (record { left = k; at = q.first; first = e.first; last = e.last }) s B (take k l) (drop k l)
ready_of s k q e l B from to apart enough size =
    record {
      left = sym (length-take-le k l enough);
      at = rw (take-append-drop k l) from.first;
      first = to.first;
      last = to.last;
      source = rw (take-append-drop k l) from.linked;
      target = to.linked;
      once = λ i. rw (take-append-drop k l) (omega (arith, times-append i B l, apart i));
      target_below = to.below;
      run-below = below-take (length s) k l from.below;
      size = size;
    }

-- they have moved, and hold the packets qs: the slots s became s'
pub record Moved (w : Moving) (s s' : List Slot) (B l rest : List ℕ) (qs : List Packet) : Type 0 where
  pub work : w ≡ record { left = 0; at = first_of none rest; first = first_of none (B ++ l); last = last_of none (B ++ l) }
  pub slots : s' ≡ chain none (B ++ l) (filled l qs s)

nothing-moved : (w : Moving) (s : List Slot) (B rest : List ℕ) → Ready w s B [] rest → Moved w s s B [] rest []
nothing-moved w s B rest r =
    record {
      work = rw (append-nil B) (λ i. record { left = r.left i; at = r.at i; first = r.first i; last = r.last i });
      slots = rw (append-nil B) (sym (chain-linked none B s r.target));
    }

-- one slot moves, the others are to
module _ (w : Moving) (s : List Slot) (a : ℕ) (q : Packet) (B l rest : List ℕ) (r : Ready w s B (a ∷ l) rest) where
  one-slots : hung_with none w.last w.at q s ≡ chain none (B ++ (a ∷ [])) (holding a q s)
  one-slots = rw (r.at, r.last) (hung-is none B a q s r.size (λ i. omega (arith, r.once i, times-append i B (a ∷ (l ++ rest)))) r.target)

  one-long : length (hung_with none w.last w.at q s) ≡ length s
  one-long = rw one-slots (length-chain none (B ++ (a ∷ [])) (holding a q s) ∙ length-filled (a ∷ []) (q ∷ []) s)

  one-once : (i : ℕ) → times i (B ++ (a ∷ [])) + times i (l ++ rest) ≤ 1
  one-once i = rw (← times-append i (B ++ (a ∷ [])) (l ++ rest)) (rw (append_snoc B a (l ++ rest)) (r.once i))

  one_below : Below (length s) (B ++ (a ∷ []))
  one_below = below-append (length s) B (a ∷ []) r.target_below (r.run-below.0, tt)

  pub one-moved : Ready (move_step w (slot_at s w.at)) (hung_with none w.last w.at q s) (B ++ (a ∷ [])) l rest
  one-moved =
      record {
        left = omega (arith, r.left);
        at = rw r.at r.source.0;
        first = rw (r.first, r.at) (first-hung B a (each-so (λ n. n < length s) (λ n. n < none) (λ n h. omega (arith, r.size)) B r.target_below));
        last = r.at ∙ sym (last-append none B a []);
        source =
            rw one-slots
            (linked-apart none (B ++ (a ∷ [])) (holding a q s) (l ++ rest) one-once
            (linked-same none s (holding a q s) (filled-link (a ∷ []) (q ∷ []) s) (l ++ rest) r.source.1));
        target = rw one-slots (linked-chain none (B ++ (a ∷ [])) (holding a q s) (λ i. omega (arith, one-once i)) (rw (length-filled (a ∷ []) (q ∷ []) s) one_below));
        once = λ i. rw (append_snoc B a (l ++ rest)) (r.once i);
        target_below = rw one-long one_below;
        run-below = rw one-long r.run-below.1;
        size = rw one-long r.size;
      }

  one_then : {w' : Moving} {s' : List Slot} {qs : List Packet} → Moved w' (hung_with none w.last w.at q s) s' (B ++ (a ∷ [])) l rest qs
      → Moved w' s s' B (a ∷ l) rest (q ∷ qs)
  one_then {qs = qs} m =
      record {
        work = rw append_snoc at m.work;
        slots =
            m.slots
            ∙ ap (λ (x : List Slot). chain none ((B ++ (a ∷ [])) ++ l) (filled l qs x)) one-slots
            ∙ hung-then none B a l q qs s (λ i. omega (arith, r.once i, times-append i B (a ∷ (l ++ rest)), times-append i B (a ∷ l), times-append i l rest));
      }

-- the packets that k turns put into their slots
abbrev pub along : {X : Type 0} → (X → Packet) → (X → X) → ℕ → X → List Packet
along packet turn zero x = []
along packet turn (suc k) x = packet x ∷ along packet turn k (turn x)

-- any loop whose turns move a slot and put a packet into it
module _ {X : Type 0} (moving : X → Moving) (slots : X → List Slot) (packet : X → Packet) (turn : X → X)
    (moves : (x : X) → moving (turn x) ≡ move_step (moving x) (slot_at (slots x) (moving x).at))
    (writes : (x : X) → slots (turn x) ≡ hung_with none (moving x).last (moving x).at (packet x) (slots x)) where
  pub less : (x : X) → 0 < (moving x).left → (moving (turn x)).left < (moving x).left
  less x h = rw (moves x) (omega arith)

  pub moved : (l B rest : List ℕ) (x : X) → Ready (moving x) (slots x) B l rest
      → let y = loop (λ z. (moving z).left) turn x in Moved (moving y) (slots x) (slots y) B l rest (along packet turn (length l) x)
  moved [] B rest x r = rw (loop-done (λ z. (moving z).left) turn less x r.left) (nothing-moved (moving x) (slots x) B rest r)
  moved (a ∷ l) B rest x r =
      rw (loop-more (λ z. (moving z).left) turn less x (omega (arith, r.left)))
      (one_then (moving x) (slots x) a (packet x) B l rest r (rw (← writes x)
      (moved l (B ++ (a ∷ [])) rest (turn x) (rw (moves x, writes x) (one-moved (moving x) (slots x) a (packet x) B l rest r)))))
