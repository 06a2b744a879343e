-- The last arm of a `match`: what is asked is one of the others. Assumes nothing.
use mathlib.Core.Path.{◌≡◌, refl}
use mathlib.Core.List.{List}
use Prim.Native.Nat.{ℕ}
use Rattle.std.specs.Prelude.{None}
use Rattle.text.specs.declared.Ask.{Ask}
use Rattle.text.specs.declared.Ask.TheVariants.{Nothing, Unread, Fresh, Open, Post, Emit, Ack, Response, Timer, Close, Room, Show, Free, Write, Read}
use Rattle.orders.specs.Ordered.{ask_of}

pub no_call : (a : Ask) (xs : List ℕ) → (a ≡ Open → ⊥) → (a ≡ Post → ⊥) → (a ≡ Emit → ⊥) → (a ≡ Ack → ⊥) → (a ≡ Response → ⊥) → (a ≡ Timer → ⊥)
    → (a ≡ Close → ⊥) → None ≡ ask_of a xs
no_call Nothing xs o p e a r t c = refl
no_call Unread xs o p e a r t c = refl
no_call Fresh xs o p e a r t c = refl
no_call Open xs o p e a r t c = absurd (o refl)
no_call Post xs o p e a r t c = absurd (p refl)
no_call Emit xs o p e a r t c = absurd (e refl)
no_call Ack xs o p e a r t c = absurd (a refl)
no_call Response xs o p e a r t c = absurd (r refl)
no_call Timer xs o p e a r t c = absurd (t refl)
no_call Close xs o p e a r t c = absurd (c refl)
no_call Room xs o p e a r t c = refl
no_call Show xs o p e a r t c = refl
no_call Free xs o p e a r t c = refl
no_call Write xs o p e a r t c = refl
no_call Read xs o p e a r t c = refl
