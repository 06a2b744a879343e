-- A call that may use a part of each lent buffer answers, and leaves the tables, as the rules' call does that is lent just that part.
use Rattle.std.specs.Prelude.{if◌then◌else◌}
use mathlib.Core.Path.{◌≡◌, refl, sym, ap, ◌∙◌}
use mathlib.Core.Bool.{Bool, true, false}
use mathlib.Core.List.{List}
use Prim.Native.Nat.{ℕ, zero, suc, min}
use lib.Dec.{ltb}
use lib.ListN.{length, set, take, length-take}
use Rattle.refusal.specs.Loop.{while-of}
use Rattle.rules.specs.declared.Slot.{Slot}
use Rattle.rules.specs.Slots.{Tables, slot_at, pair_at}
use Rattle.walks.specs.declared.Leaving.{Leaving}
use Rattle.walks.specs.declared.Emitting.{Emitting}
use Rattle.walks.specs.Acting.{Left, leave_step, leave_slots, completed, leave_turn, leave, join, Emitted, emit_step, recorded, emit_turn, emit}
use Rattle.engine.specs.declared.Ask.{Ask}
use Rattle.engine.specs.declared.Plan.{Plan}
use Rattle.engine.specs.declared.Settled.{Settled}
use Rattle.engine.specs.Asked.{lent_of}
use Rattle.engine.specs.Body.{Ran, acted, plan_for, body, ruled}
use Rattle.engine.specs.Settling.{settled_of}
use Rattle.engine.proofs.Called.{body_is}
use Rattle.card.specs.declared.Limits.{Limits}
use Rattle.card.specs.Inner.{plan_with, body_in}

-- ---- what the walks do to slots and to what they carry does not turn on what the buffers hold

abbrev leaver : Leaving → List Slot → List ℕ → Left
leaver w s d = record { work = w; slots = s; done = d }

abbrev to_leave : Left → ℕ
to_leave x = x.work.moving.left

abbrev Alike : Left → Left → Type 0
Alike x y = (x.work ≡ y.work) × (x.slots ≡ y.slots)

one_alike : (b : Bool) (x x' y y' : Left) → Alike x x' → Alike y y' → Alike (if b then x else y) (if b then x' else y')
one_alike true x x' y y' h k = h
one_alike false x x' y y' h k = k

leave-alike : (n : ℕ) (w : Leaving) (s : List Slot) (d e : List ℕ) → Alike (while-of to_leave leave_turn n (leaver w s d)) (while-of to_leave leave_turn n (leaver w s e))
leave-alike zero w s d e = (refl, refl)
leave-alike (suc n) w s d e =
    let i = slot_at s w.moving.at in
    one_alike (ltb 0 w.moving.left) _ _ _ _ (leave-alike n (leave_step w i) (leave_slots w s) (completed d w i) (completed e w i)) (refl, refl)

abbrev emitter : Emitting → List ℕ → Emitted
emitter w d = record { work = w; out = d }

abbrev to_emit : Emitted → ℕ
to_emit x = x.work.left

one-emitted : (b : Bool) (x x' y y' : Emitted) → x.work ≡ x'.work → y.work ≡ y'.work → (if b then x else y).work ≡ (if b then x' else y').work
one-emitted true x x' y y' h k = h
one-emitted false x x' y y' h k = k

emit-alike : (s : List Slot) (n : ℕ) (w : Emitting) (d e : List ℕ) → (while-of to_emit (emit_turn s) n (emitter w d)).work ≡ (while-of to_emit (emit_turn s) n (emitter w e)).work
emit-alike s zero w d e = refl
emit-alike s (suc n) w d e =
    let i = slot_at s w.at in
    one-emitted (ltb 0 w.left) _ _ _ _ (emit-alike s n (emit_step w i) (recorded d w i) (recorded e w i)) refl

-- ---- nor do the answer and the tables

abbrev Same : Ran → Ran → Type 0
Same x y = (x.reply ≡ y.reply) × (x.tables ≡ y.tables)

module _ (at : ℕ) (t : Tables) (g : Plan) where
  abbrev settled_with : Leaving → List Slot → Emitting → Settled
  settled_with w s m = settled_of (pair_at t.pairs at) t.ends g w (join (record { work = g.joining; slots = s })).work m

  abbrev emitted_from : List Slot → List ℕ → Emitting
  emitted_from s out = (emit (join (record { work = g.joining; slots = s })).slots (emitter g.emitting out)).work

  abbrev left_in : List ℕ → Left
  left_in done = leave (leaver g.leaving t.slots done)

  acted-same : (done out done' out' : List ℕ) → Same (acted at t done out g) (acted at t done' out' g)
  unfolding acted
  acted-same done out done' out' =
      let l : Alike (left_in done) (left_in done') = leave-alike g.leaving.moving.left g.leaving t.slots done done' in
      let m : emitted_from (left_in done').slots out ≡ emitted_from (left_in done').slots out' = emit-alike _ g.emitting.left g.emitting out out' in
      let one : settled_with (left_in done).work (left_in done).slots (emitted_from (left_in done).slots out)
      ≡ settled_with (left_in done').work (left_in done').slots (emitted_from (left_in done').slots out) =
      λ i. settled_with (l.0 i) (l.1 i) (emitted_from (l.1 i) out) in
      let all = one ∙ ap (settled_with (left_in done').work (left_in done').slots) m in (
        ap (λ (x : Settled). x.reply) all,
        λ i. record {
          pairs = set t.pairs at (all i).pair;
          ends = (all i).ends;
          slots = (join (record { work = g.joining; slots = l.1 i })).slots;
        },
      )

-- ---- so with limits it is the rules' call that is lent the front of each buffer

module _ (r : Limits) (at : ℕ) (ask : Ask) (t : Tables) (done out : List ℕ) where
  abbrev fewer : List ℕ
  fewer = take r.numbers done

  abbrev shorter : List ℕ
  shorter = take r.bytes out

  room-is : lent_of ask (min r.numbers (length done)) (min r.bytes (length out)) ≡ lent_of ask (length fewer) (length shorter)
  room-is = λ i. lent_of ask (sym (length-take r.numbers done) i) (sym (length-take r.bytes out) i)

  short-is : Same (acted at t fewer shorter (plan_with at ask t (lent_of ask (length fewer) (length shorter)))) (ruled at ask t fewer shorter)
  unfolding body plan_for
  short-is = (ap (λ (x : Ran). x.reply) (body_is at ask t fewer shorter), ap (λ (x : Ran). x.tables) (body_is at ask t fewer shorter))

  pub limited-is : Same (body_in r at ask t done out) (ruled at ask t fewer shorter)
  unfolding body_in
  limited-is =
      let a = acted-same at t (plan_with at ask t (lent_of ask (min r.numbers (length done)) (min r.bytes (length out)))) done out fewer shorter in
      let b : ℕ → Ran = λ n. acted at t fewer shorter (plan_with at ask t n) in
      (a.0 ∙ ap (λ (n : ℕ). (b n).reply) room-is ∙ short-is.0, a.1 ∙ ap (λ (n : ℕ). (b n).tables) room-is ∙ short-is.1)
