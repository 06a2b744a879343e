-- A live `&mut [T]` or `&mut T`, lent for a while as a `&[T]` or a `&T`, T a type that can be copied: it stands first, at a lifetime that is made for it, and comes back as it was.
-- `shows-slice`, then `hides-slice`; `shows-ref`, then `hides-ref`. Between them a call can be handed what is shown (`Does.antt`). Assumes `Logic`.
use mathlib.Core.Path.{refl, sym}
use Prim.Native.Nat.{ℕ}
use mathlib.Core.List.{List, [], ◌∷◌}
use lib.ListN.{length}
use seplogic.Ra.Ura.{Ura}
use base.Fraction.{full_share}
use mir.Syntax.{erased}
use mir.Val.{Val, vptr}
use base.Fml.{Fml, Incl-refl, fsep, flft, flent, fobor, fobs, fauth}
use types.Logic.{Logic}
use types.Kit.{Goal, Soaks, Seq, Step, step, Item, ‵, ◌⊛◌, later, ◌$◌, move, drop, use2, split, fsplit, fsplit3, fjoin, fjoin3, feq_i, await, rewrite}
use types.Tokens.{lft_new, lft_end, lent_back}
use types.Share.{arr_parts}
use types.SemTy.{Body as Holds}
use types.Mut.{open_ref, close_ref}
use denote.RattleType.{RattleType, RowLaws}
use denote.Shadow.{pure_l, pure_i}
use denote.Memory.{mem, shares, part_at}
use denote.Copied.{Copied}
use denote.Slice.{slice_val, ShrSlice, heres, mut_slice_at, coded_holeys}
use denote.Lend as Lend
use denote.Index.{opens_slice, closes_slice}
use Rattle.lent.proofs.Refs.{slice, cell, seen-slice, seen-cell, Loc, Live, Told, ref-at, seen-at}

-- what is shown of the reference at l
abbrev pub shown-loc : Loc → ℕ → Loc
shown-loc l ν = record { b = l.b; o = l.o; n = l.n; γ = 0; κ = ν ∷ []; q = full_share }

-- what is left of it meanwhile
abbrev pub Away-shown : (R : RattleType) → Loc → ℕ → List R.Denot → Fml
Away-shown R l ν ys = fsep (flent (ν ∷ []) ((arr_parts (shares R) (length ys)).part full_share ys l.b l.o)) (fsep (fobor l.κ l.q (Lend.Held R (length ys) l.b l.o l.γ)) (fsep (fobs l.γ ((coded_holeys R).code (heres R ys))) (fauth l.γ ((coded_holeys R).code (heres R ys)))))

abbrev pub Away-shown-ref : (R : RattleType) → Loc → ℕ → R.Denot → Fml
Away-shown-ref R l ν y = fsep (flent (ν ∷ []) (part_at R full_share y l.b l.o)) (fsep (fobor l.κ l.q (Holds (mem R) l.b l.o l.γ)) (fsep (fobs l.γ (R.coded.code y)) (fauth l.γ (R.coded.code y))))

module _ {M : Type 1} {𝓤 : Ura M} {𝓛 : Logic 𝓤} {K : Type 0} {Γ : List (Item 𝓤)} {G : Goal 𝓤 𝓛.H} where
  -- the reference and its token stand first
  pub shows-slice : K → Soaks G → (R : RattleType) (L : RowLaws R) → Copied 𝓛 R → (l : Loc) (ys : List R.Denot)
      → ((ν : ℕ) → Told (slice R) l ys → Seq K 𝓛 (‵ (Live (seen-slice R L) (shown-loc l ν) ys) ∷ ‵ (flft (ν ∷ []) full_share) ∷ ‵ (Away-shown R l ν ys) ∷ Γ) G)
      → Seq K 𝓛 (‵ (Live (slice R) l ys) ∷ ‵ (flft l.κ l.q) ∷ Γ) G
  shows-slice t z R L c l ys k =
      fsplit t $ pure_l t (mut_slice_at R (ref-at l ys) (slice_val (l.b, l.o) l.n ∷ [])) (λ p. fsplit t $ opens_slice t z R ys l.b l.o $ feq_i t ℕ (length ys) (length ys) refl $ fjoin t $ lft_new t z (λ ν. move t (1 ∷ []) $
      use2 𝓛 (later ((‵ ((ShrSlice erased (ν ∷ []) R).own_val (seen-at (shown-loc l ν) ys) (slice_val (l.b, l.o) (length ys) ∷ [])) ⊛ ‵ (flent (ν ∷ []) ((arr_parts (shares R) (length ys)).part full_share ys l.b l.o))) ⊛ ‵ (flft (ν ∷ []) full_share)))
      (Lend.lends_shr_slice 𝓛 R erased (ν ∷ []) full_share ys l.b l.o p.1 (ν ∷ []) (c.shares full_share (ν ∷ [])) ((ν ∷ [], full_share) ∷ []) (Incl-refl (ν ∷ [])) (Incl-refl (ν ∷ []))) $ await t z $ split t $ split t $
      rewrite t 0 (λ (us : List Val). ‵ ((ShrSlice erased (ν ∷ []) R).own_val (seen-at (shown-loc l ν) ys) us)) (sym p.0) refl $
      -- [what is shown; what comes back; its token; the open borrow; the two halves of the ghost name]
      move t (4 ∷ 5 ∷ []) $ fjoin t $ move t (4 ∷ 0 ∷ []) $ fjoin t $ move t (2 ∷ 0 ∷ []) $ fjoin t $ move t (1 ∷ 2 ∷ 0 ∷ []) $ k ν p))

  pub hides-slice : K → Soaks G → (R : RattleType) (L : RowLaws R) (l : Loc) (ν : ℕ) (ys zs : List R.Denot) → Told (slice R) l ys
      → Step K 𝓛 (‵ (Live (slice R) l ys) ∷ ‵ (flft l.κ l.q) ∷ Γ) G (‵ (Live (seen-slice R L) (shown-loc l ν) zs) ∷ ‵ (flft (ν ∷ []) full_share) ∷ ‵ (Away-shown R l ν ys) ∷ Γ) G
  hides-slice t z R L l ν ys zs told = step (λ s.
      drop t $ lft_end t z $ move t (1 ∷ []) $ fsplit t $ move t (2 ∷ 0 ∷ []) $ lent_back t z $ fsplit t $ drop t $ move t (1 ∷ []) $ fsplit t $ move t (1 ∷ []) $ fsplit t $
      -- [the two halves; the open borrow; the elements]
      move t (3 ∷ 2 ∷ 0 ∷ 1 ∷ []) $ closes_slice t z R ys ys refl l.b l.o $ fjoin t $ pure_i t (mut_slice_at R (ref-at l ys) (slice_val (l.b, l.o) l.n ∷ [])) (tt, (tt, tt)) told $ fjoin t $ s)

  pub shows-ref : K → Soaks G → (R : RattleType) (L : RowLaws R) → Copied 𝓛 R → (l : Loc) (y : R.Denot)
      → ((ν : ℕ) → Seq K 𝓛 (‵ (Live (seen-cell R L) (shown-loc l ν) y) ∷ ‵ (flft (ν ∷ []) full_share) ∷ ‵ (Away-shown-ref R l ν y) ∷ Γ) G)
      → Seq K 𝓛 (‵ (Live (cell R) l y) ∷ ‵ (flft l.κ l.q) ∷ Γ) G
  shows-ref t z R L c l y k =
      fsplit3 t $ drop t $ open_ref t z (mem R) {b = l.b} {o = l.o} $ lft_new t z (λ ν. move t (1 ∷ []) $
      use2 𝓛 (later ((‵ (Live (seen-cell R L) (shown-loc l ν) y) ⊛ ‵ (flent (ν ∷ []) (part_at R full_share y l.b l.o))) ⊛ ‵ (flft (ν ∷ []) full_share)))
      (Lend.lends_shr 𝓛 R erased (ν ∷ []) full_share y l.b l.o (ν ∷ []) (c.shares full_share (ν ∷ []) y) ((ν ∷ [], full_share) ∷ []) (Incl-refl (ν ∷ [])) (Incl-refl (ν ∷ []))) $ await t z $ split t $ split t $
      move t (4 ∷ 5 ∷ []) $ fjoin t $ move t (4 ∷ 0 ∷ []) $ fjoin t $ move t (2 ∷ 0 ∷ []) $ fjoin t $ move t (1 ∷ 2 ∷ 0 ∷ []) $ k ν)

  pub hides-ref : K → Soaks G → (R : RattleType) (L : RowLaws R) (l : Loc) (ν : ℕ) (y u : R.Denot)
      → Step K 𝓛 (‵ (Live (cell R) l y) ∷ ‵ (flft l.κ l.q) ∷ Γ) G (‵ (Live (seen-cell R L) (shown-loc l ν) u) ∷ ‵ (flft (ν ∷ []) full_share) ∷ ‵ (Away-shown-ref R l ν y) ∷ Γ) G
  hides-ref t z R L l ν y u = step (λ s.
      drop t $ lft_end t z $ move t (1 ∷ []) $ fsplit t $ move t (2 ∷ 0 ∷ []) $ lent_back t z $ move t (1 ∷ []) $ fsplit t $ move t (1 ∷ []) $ fsplit t $
      move t (3 ∷ 2 ∷ 0 ∷ 1 ∷ []) $ close_ref t z (mem R) y {b = l.b} {o = l.o} $ feq_i t (List Val) (vptr l.b l.o ∷ []) (vptr l.b l.o ∷ []) refl $ fjoin3 t $ s)
