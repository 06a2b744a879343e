-- The last arm of a `match`: what is asked or answered is one of the others. Assumes nothing.
use mathlib.Core.Path.{◌≡◌, refl}
use mathlib.Core.List.{List, []}
use Prim.Native.Nat.{ℕ}
use Rattle.text.specs.declared.Ask.{Ask}
use Rattle.text.specs.declared.Ask.TheVariants.{Nothing, Unread, Fresh, Open, Post, Emit, Ack, Response, Timer, Close, Room, Show, Free, Write, Read}
use Rattle.rules.specs.declared.Answer.{Answer}
use Rattle.rules.specs.declared.Answer.TheVariants.{Dropped, Done, Resending, Held, Resumed, Idle, Ended}
use Rattle.answers.specs.Plain.{ask_text}
use Rattle.answers.specs.Replied.{done_place, place_text}

pub no_text : (a : Ask) (xs l : List ℕ) (n : ℕ) → (a ≡ Unread → ⊥) → (a ≡ Write → ⊥) → (a ≡ Read → ⊥) → [] ≡ ask_text a xs l n
no_text Nothing xs l n u w r = refl
no_text Unread xs l n u w r = absurd (u refl)
no_text Fresh xs l n u w r = refl
no_text Open xs l n u w r = refl
no_text Post xs l n u w r = refl
no_text Emit xs l n u w r = refl
no_text Ack xs l n u w r = refl
no_text Response xs l n u w r = refl
no_text Timer xs l n u w r = refl
no_text Close xs l n u w r = refl
no_text Room xs l n u w r = refl
no_text Show xs l n u w r = refl
no_text Free xs l n u w r = refl
no_text Write xs l n u w r = absurd (w refl)
no_text Read xs l n u w r = absurd (r refl)

pub no-response : (a : Ask) (w : Answer) (place : ℕ) → (a ≡ Response → ⊥) → [] ≡ place_text a w place
no-response Nothing w place h = refl
no-response Unread w place h = refl
no-response Fresh w place h = refl
no-response Open w place h = refl
no-response Post w place h = refl
no-response Emit w place h = refl
no-response Ack w place h = refl
no-response Response w place h = absurd (h refl)
no-response Timer w place h = refl
no-response Close w place h = refl
no-response Room w place h = refl
no-response Show w place h = refl
no-response Free w place h = refl
no-response Write w place h = refl
no-response Read w place h = refl

pub not_done_lem : (w : Answer) (place : ℕ) → (w ≡ Done → ⊥) → [] ≡ done_place w place
not_done_lem Dropped place h = refl
not_done_lem Done place h = absurd (h refl)
not_done_lem Resending place h = refl
not_done_lem Held place h = refl
not_done_lem Resumed place h = refl
not_done_lem Idle place h = refl
not_done_lem Ended place h = refl
