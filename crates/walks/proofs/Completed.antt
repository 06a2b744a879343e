-- The completions of the slots that leave: each message's ticket and status, one after the other from the front of the lent numbers, and the count of them.
use Rattle.std.specs.Prelude.{if◌then◌else◌}
use mathlib.Core.Path.{◌≡◌, refl, sym, ap, ◌∙◌}
use mathlib.Core.Bool.{Bool, true, false}
use mathlib.Core.List.{List, [], ◌∷◌, ◌++◌, append_assoc}
use Prim.Native.Nat.{ℕ, zero, suc, ◌+◌, ◌-◌, ◌*◌, ◌^◌, ◌≤◌, ◌<◌}
use native.Mathlib.Omega.{arith}
use native.Mathlib.Nat.{mod-eq_of_lt}
use lib.Dec.{ltb}
use borrow.Author.Tests.{lt-ltb}
use lib.ListN.{length, set, take, length-append}
use lib.Seq.{append_snoc, set_at, take-nil}
use Rattle.rules.specs.declared.Packet.{Packet}
use Rattle.rules.specs.Message.{is_last}
use Rattle.rules.specs.Slots.{slot_at}
use Rattle.rules.specs.Outcome.{Departure, left_with, departures, completions, messages_of}
use Rattle.rules.specs.Calls.{overlaid}
use Rattle.refusal.proofs.Loop.{loop-more}
use Rattle.walks.specs.Acting.{Left, status_of, counted, completed, leave_turn, leave}
use Rattle.walks.proofs.Moved.{along}
use Rattle.walks.proofs.Kept.{leaving_of, gone_from, leave-less, leave_none}

-- packets that leave while so many are still to be released
abbrev pub gone : ℕ → List Packet → List Departure
gone r [] = []
gone r (q ∷ qs) = record { packet = q; status = if ltb 0 r then 0 else 1 } ∷ gone (r - 1) qs

gone-flushed : (qs : List Packet) → gone 0 qs ≡ left_with 1 qs
gone-flushed [] = refl
gone-flushed (q ∷ qs) = ap (λ (ds : List Departure). record { packet = q; status = 1 } ∷ ds) (gone-flushed qs)

pub gone-is : (released flushed : ℕ) (ps : List Packet) → gone released (take (released + flushed) ps) ≡ departures released flushed ps
gone-is zero f ps = let e : 0 + f ≡ f = omega arith in rw e (gone-flushed (take f ps))
gone-is (suc r) f [] = rw (take-nil (suc r + f), take-nil f)
gone-is (suc r) f (p ∷ ps) =
    let e : suc r + f ≡ suc (r + f) = omega arith in
    let m : suc r - 1 ≡ r = omega arith in
    rw (e, lt-ltb 0 (suc r) (omega arith), m) (ap (λ (ds : List Departure). record { packet = p; status = 0 } ∷ ds) (gone-is r f ps))

-- ---- one slot, which is the last of its message or not

-- the numbers after it: the front that is written by now, and the others
record One (last : Bool) (m ticket status k : ℕ) (pre old : List ℕ) : Type 0 where
  front : List ℕ
  others : List ℕ
  done : (if last then set (set (pre ++ old) (2 * m) ticket) (2 * m + 1) status else pre ++ old) ≡ front ++ others
  count : (if last then counted m else m) ≡ m + (if last then 1 else 0)
  front_long : length front ≡ 2 * (if last then counted m else m)
  room : 2 * k ≤ length others
  whole : (cs : List ℕ) → front ++ overlaid cs others ≡ pre ++ overlaid (if last then ticket ∷ status ∷ cs else cs) old

most : (last : Bool) → (if last then 1 else 0) ≤ 1
most true = omega arith
most false = omega arith

one : (last : Bool) (m ticket status k : ℕ) (pre old : List ℕ) → length pre ≡ 2 * m → 2 * suc k ≤ length old → m + suc k < 2 ^ 32
    → One last m ticket status k pre old
one false m ticket status k pre old p room low =
    record { front = pre; others = old; done = refl; count = omega arith; front_long = p; room = omega arith; whole = λ cs. refl }
one true m ticket status k pre [] p room low = absurd (omega arith)
one true m ticket status k pre (a ∷ []) p room low = absurd (omega arith)
one true m ticket status k pre (a ∷ b ∷ old) p room low =
    record {
      front = pre ++ (ticket ∷ status ∷ []);
      others = old;
      done =
          ap (λ (l : List ℕ). set l (2 * m + 1) status) (set_at pre a (b ∷ old) ticket (2 * m) p)
          ∙ ap (λ (l : List ℕ). set l (2 * m + 1) status) (sym (append_snoc pre ticket (b ∷ old)))
          ∙ set_at (pre ++ (ticket ∷ [])) b old status (2 * m + 1) (omega (arith, length-append pre (ticket ∷ [])))
          ∙ append_snoc pre ticket (status ∷ old)
          ∙ sym (append_assoc pre (ticket ∷ status ∷ []) old);
      count = omega (arith, next);
      front_long = omega (arith, next, length-append pre (ticket ∷ status ∷ []));
      room = omega arith;
      whole = λ cs. append_assoc pre (ticket ∷ status ∷ []) (overlaid cs old);
    }
  where
    next : counted m ≡ suc m
    next = mod-eq_of_lt (omega arith)

-- ---- all of them, from a front that is written on

pub record Completes (m : ℕ) (pre old : List ℕ) (ds : List Departure) (y : Left) : Type 0 where
  pub messages : y.work.messages ≡ m + messages_of ds
  pub done : y.done ≡ pre ++ overlaid (completions ds) old

module _ (x : Left) (k : ℕ) (pre old : List ℕ) where
  abbrev First : Type 0
  First = One (is_last (gone_from x)) x.work.messages (gone_from x).ticket (status_of x.work) k pre old

  first : length pre ≡ 2 * x.work.messages → 2 * suc k ≤ length old → x.work.messages + suc k < 2 ^ 32 → First
  first = one (is_last (gone_from x)) x.work.messages (gone_from x).ticket (status_of x.work) k pre old

  further : (o : First) {y : Left} → let r = x.work.released in let qs = along gone_from leave_turn k (leave_turn x) in
      Completes (leave_turn x).work.messages o.front o.others (gone (r - 1) qs) y → Completes x.work.messages pre old (gone r (gone_from x ∷ qs)) y
  further o c = record { messages = omega (arith, c.messages, o.count); done = c.done ∙ o.whole _ }

pub left-completed : (k : ℕ) (x : Left) (pre old : List ℕ) → (leaving_of x).left ≡ k → x.done ≡ pre ++ old → length pre ≡ 2 * x.work.messages
    → 2 * k ≤ length old → x.work.messages + k < 2 ^ 32
    → Completes x.work.messages pre old (gone x.work.released (along gone_from leave_turn k x)) (leave x)
left-completed zero x pre old e d p room low = rw (leave_none x e) (record { messages = omega arith; done = d })
left-completed (suc k) x pre old e d p room low =
    let o = first x k pre old p room low in
    rw (loop-more (λ y. (leaving_of y).left) leave_turn leave-less x (omega (arith, e)))
    (further x k pre old o
    (left-completed k (leave_turn x) o.front o.others (omega (arith, e)) (here d ∙ o.done) o.front_long o.room
    (omega (arith, o.count, most (is_last (gone_from x))))))
  where
    here : x.done ≡ pre ++ old → (leave_turn x).done ≡ completed (pre ++ old) x.work (slot_at x.slots (leaving_of x).at)
    here = ap (λ (l : List ℕ). completed l x.work (slot_at x.slots (leaving_of x).at))
