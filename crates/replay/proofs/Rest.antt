-- The last arm of a `match`: what is asked is one of the others; and a refusal spelled out. Assumes nothing.
use mathlib.Core.Path.{◌≡◌, refl}
use mathlib.Core.List.{[]}
use Prim.Native.Nat.{ℕ}
use Rattle.text.specs.declared.Ask.{Ask}
use Rattle.text.specs.declared.Ask.TheVariants.{Fresh, Room, Show, Free}
use Rattle.rules.specs.Slots.{Tables}
use Rattle.card.specs.declared.Limits.{Limits}
use Rattle.orders.specs.declared.Order.{Order}
use Rattle.replay.specs.declared.memory.Memory.{Memory}
use Rattle.text.specs.Out.{Out, put_all, decimal_in}
use Rattle.text.specs.Text.{bytes}
use Rattle.answers.specs.Said.{refused_text, spaced}
use Rattle.replay.specs.Answer.{looked_text}
use Rattle.replay.specs.Serving.{untouched, restarted_by, limits_by}

pub no_room : (a : Ask) (q : Order) (l : Limits) → (a ≡ Room → ⊥) → l ≡ limits_by a q l
no_room Room q l r = absurd (r refl)
no_room a q l r = refl

pub not_fresh : (a : Ask) (m : Memory) → (a ≡ Fresh → ⊥) → untouched m ≡ restarted_by a m
not_fresh Fresh m f = absurd (f refl)
not_fresh a m f = refl

pub no_look : (a : Ask) (pair : ℕ) (t : Tables) → (a ≡ Room → ⊥) → (a ≡ Show → ⊥) → (a ≡ Free → ⊥) → [] ≡ looked_text a pair t
no_look Room pair t r s f = absurd (r refl)
no_look Show pair t r s f = absurd (s refl)
no_look Free pair t r s f = absurd (f refl)
no_look a pair t r s f = refl

-- refusal 1, in digits
pub no_pair : (o p : Out) → p ≡ put_all o (refused_text 1) → p ≡ put_all o (bytes "refused 1\n")
unfolding decimal_in spaced
no_pair o p e = e
