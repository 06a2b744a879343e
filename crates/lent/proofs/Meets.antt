-- How a walk becomes a theorem: a run from `items` at the entry values to `Does.antt`'s `After` meets the contract, whatever references and plain data the function takes.
-- `meets` is that law, `Good` what the walk says of the result and the last values. No prologue, no `Stay`, no length of a last list is left to the author. Assumes `Logic`.
use mathlib.Core.Path.{◌≡◌, refl, sym, ap, subst, ◌∙◌}
use Prim.Native.Nat.{ℕ, suc}
use mathlib.Core.List.{List, [], ◌∷◌, ◌++◌}
use lib.ListN.{length}
use seplogic.Ra.Ura.{Ura}
use mir.Syntax.{named}
use mir.Val.{Val}
use base.Logic.{SProp, ent, sep, wand, emp, id⊢, via, mono_l, fst∗, comm∗, apply∗, wand_i, ex_i}
use base.Fml.{ftrue, flft}
use types.Logic.{Logic, sem}
use contract.Monad.{Fun, Mono, fact_use, top}
use contract.Lifetimes.{Lfts, Shares, toks}
use types.Kit.{‵, raw, ◌⊛◌, some, later, given, ⋆, ◌$◌, ◌∵◌, !, qed, move, drop, use0, use1, use2, split, join, learn, pick, fsplit, fjoin, frame, await, updating, now as at_once, show, done}
use denote.RattleType.{Denots, owns, flat}
use denote.Laws.{Ises, Are, Spells, Tellss, valss}
use denote.Exit.{left, yes}
use denote.Ref.{MutRef, mut_vals, mut_Tells, shr_vals, shr_Tells}
use denote.Slice.{MutSlice, mut_slice_vals, mut_slice_Tells, shr_slice_vals, shr_slice_Tells}
use denote.Signature.{Slot, plain, types_at}
use denote.Steps.{said}
use denote.Triple.Entry.{Args, Vals, on_entry}
use denote.Triple.Spec.{Meets}
use denote.Triple.Clauses.{Ended, Clauses, Lasts, at_exit, lasts, ensured, closing}
use denote.Triple.End.{Kepts, Fins, lasts_of}
use denote.Triple.Walked.{Goes-slice, Goes-ref}
use Rattle.lent.proofs.Plain.{Plain, Fits, Values, FitsAll, machine, by_value, value-kepts, values_of, value-spells, value_tells, value-lasts, value-silent}
use Rattle.lent.proofs.Refs.{Ref, slice, cell, seen-slice, seen-cell, Locs, Helds, pointer, pointers, items, Alls, Tolds, spread, tolds, slots, kepts, Sig, counted}
use Rattle.lent.proofs.Does.{Ctr, After}

-- ---- what a function is passed: the references' places and values, and the plain values
module _ {n : ℕ} (κs : Lfts n) (ps : List (Slot n)) where
  abbrev helds-of : (rs : List Ref) (sel : Lfts n → Lfts (length rs)) (i : ℕ) → Denots (types_at (slots rs sel i ps) κs) → Helds rs
  helds-of [] sel i a = tt
  helds-of (slice R ∷ rs) sel i a = (a.0.now, helds-of rs (λ κs. (sel κs).1) (suc i) a.1)
  helds-of (cell R ∷ rs) sel i a = (a.0.now, helds-of rs (λ κs. (sel κs).1) (suc i) a.1)
  helds-of (seen-slice R L ∷ rs) sel i a = (a.0.now, helds-of rs (λ κs. (sel κs).1) (suc i) a.1)
  helds-of (seen-cell R L ∷ rs) sel i a = (a.0.now, helds-of rs (λ κs. (sel κs).1) (suc i) a.1)

  abbrev locs-of : (rs : List Ref) (sel : Lfts n → Lfts (length rs)) (i : ℕ) → Shares (length rs) → Denots (types_at (slots rs sel i ps) κs) → Locs rs
  locs-of [] sel i qs a = tt
  locs-of (slice R ∷ rs) sel i qs a = (record { b = a.0.ref_ptr.0; o = a.0.ref_ptr.1; n = length a.0.now; γ = a.0.ghost_name; κ = (sel κs).0; q = qs.0 }, locs-of rs (λ κs. (sel κs).1) (suc i) qs.1 a.1)
  locs-of (cell R ∷ rs) sel i qs a = (record { b = a.0.ref_ptr.0; o = a.0.ref_ptr.1; n = 0; γ = a.0.ghost_name; κ = (sel κs).0; q = qs.0 }, locs-of rs (λ κs. (sel κs).1) (suc i) qs.1 a.1)
  locs-of (seen-slice R L ∷ rs) sel i qs a = (record { b = a.0.ref_ptr.0; o = a.0.ref_ptr.1; n = length a.0.now; γ = 0; κ = (sel κs).0; q = qs.0 }, locs-of rs (λ κs. (sel κs).1) (suc i) qs.1 a.1)
  locs-of (seen-cell R L ∷ rs) sel i qs a = (record { b = a.0.ref_ptr.0; o = a.0.ref_ptr.1; n = 0; γ = 0; κ = (sel κs).0; q = qs.0 }, locs-of rs (λ κs. (sel κs).1) (suc i) qs.1 a.1)

  abbrev rest-args : (rs : List Ref) (sel : Lfts n → Lfts (length rs)) (i : ℕ) → Denots (types_at (slots rs sel i ps) κs) → Denots (types_at ps κs)
  rest-args [] sel i a = a
  rest-args (r ∷ rs) sel i a = rest-args rs (λ κs. (sel κs).1) (suc i) a.1

  abbrev ref-spells : (rs : List Ref) (sel : Lfts n → Lfts (length rs)) (i : ℕ) → Spells (types_at ps κs) → Spells (types_at (slots rs sel i ps) κs)
  ref-spells [] sel i sp = sp
  ref-spells (slice R ∷ rs) sel i sp = (mut_slice_vals, ref-spells rs (λ κs. (sel κs).1) (suc i) sp)
  ref-spells (cell R ∷ rs) sel i sp = (mut_vals, ref-spells rs (λ κs. (sel κs).1) (suc i) sp)
  ref-spells (seen-slice R L ∷ rs) sel i sp = (shr_slice_vals, ref-spells rs (λ κs. (sel κs).1) (suc i) sp)
  ref-spells (seen-cell R L ∷ rs) sel i sp = (shr_vals, ref-spells rs (λ κs. (sel κs).1) (suc i) sp)

  ref-tells : (rs : List Ref) (sel : Lfts n → Lfts (length rs)) (i : ℕ) (sp : Spells (types_at ps κs)) → Tellss (types_at ps κs) (Ises (types_at ps κs)) sp → Tellss (types_at (slots rs sel i ps) κs) (Ises (types_at (slots rs sel i ps) κs)) (ref-spells rs sel i sp)
  ref-tells [] sel i sp tl = tl
  ref-tells (slice R ∷ rs) sel i sp tl = (mut_slice_Tells (named i) (sel κs).0 R, ref-tells rs (λ κs. (sel κs).1) (suc i) sp tl)
  ref-tells (cell R ∷ rs) sel i sp tl = (mut_Tells (named i) (sel κs).0 R, ref-tells rs (λ κs. (sel κs).1) (suc i) sp tl)
  ref-tells (seen-slice R L ∷ rs) sel i sp tl = (shr_slice_Tells (named i) (sel κs).0 R, ref-tells rs (λ κs. (sel κs).1) (suc i) sp tl)
  ref-tells (seen-cell R L ∷ rs) sel i sp tl = (shr_Tells (named i) (sel κs).0 R, ref-tells rs (λ κs. (sel κs).1) (suc i) sp tl)

  rest-are : (rs : List Ref) (sel : Lfts n → Lfts (length rs)) (i : ℕ) (sp : Spells (types_at ps κs)) (a : Denots (types_at (slots rs sel i ps) κs)) → Are (types_at (slots rs sel i ps) κs) (Ises (types_at (slots rs sel i ps) κs)) a (valss (types_at (slots rs sel i ps) κs) (ref-spells rs sel i sp) a)
      → Are (types_at ps κs) (Ises (types_at ps κs)) (rest-args rs sel i a) (valss (types_at ps κs) sp (rest-args rs sel i a))
  rest-are [] sel i sp a are = are
  rest-are (slice R ∷ rs) sel i sp a are = rest-are rs (λ κs. (sel κs).1) (suc i) sp a.1 are.1
  rest-are (cell R ∷ rs) sel i sp a are = rest-are rs (λ κs. (sel κs).1) (suc i) sp a.1 are.1
  rest-are (seen-slice R L ∷ rs) sel i sp a are = rest-are rs (λ κs. (sel κs).1) (suc i) sp a.1 are.1
  rest-are (seen-cell R L ∷ rs) sel i sp a are = rest-are rs (λ κs. (sel κs).1) (suc i) sp a.1 are.1

  flat-as : (rs : List Ref) (sel : Lfts n → Lfts (length rs)) (i : ℕ) (qs : Shares (length rs)) (sp : Spells (types_at ps κs)) (a : Denots (types_at (slots rs sel i ps) κs))
      → flat (types_at (slots rs sel i ps) κs) (valss (types_at (slots rs sel i ps) κs) (ref-spells rs sel i sp) a) ≡ pointers rs (locs-of rs sel i qs a) ++ flat (types_at ps κs) (valss (types_at ps κs) sp (rest-args rs sel i a))
  flat-as [] sel i qs sp a = refl
  flat-as (slice R ∷ rs) sel i qs sp a = ap (λ (vs : List Val). pointer (slice R) (locs-of (slice R ∷ rs) sel i qs a).0 ∷ vs) (flat-as rs (λ κs. (sel κs).1) (suc i) qs.1 sp a.1)
  flat-as (cell R ∷ rs) sel i qs sp a = ap (λ (vs : List Val). pointer (cell R) (locs-of (cell R ∷ rs) sel i qs a).0 ∷ vs) (flat-as rs (λ κs. (sel κs).1) (suc i) qs.1 sp a.1)
  flat-as (seen-slice R L ∷ rs) sel i qs sp a = ap (λ (vs : List Val). pointer (seen-slice R L) (locs-of (seen-slice R L ∷ rs) sel i qs a).0 ∷ vs) (flat-as rs (λ κs. (sel κs).1) (suc i) qs.1 sp a.1)
  flat-as (seen-cell R L ∷ rs) sel i qs sp a = ap (λ (vs : List Val). pointer (seen-cell R L) (locs-of (seen-cell R L ∷ rs) sel i qs a).0 ∷ vs) (flat-as rs (λ κs. (sel κs).1) (suc i) qs.1 sp a.1)

  module _ (ks : Kepts ps) where
    abbrev fins-of : (rs : List Ref) (sel : Lfts n → Lfts (length rs)) (i : ℕ) (a : Denots (types_at (slots rs sel i ps) κs)) → Helds rs → Fins κs ps ks (rest-args rs sel i a) → Fins κs (slots rs sel i ps) (kepts rs sel i ps ks) a
    fins-of [] sel i a zs ws = ws
    fins-of (slice R ∷ rs) sel i a zs ws = (zs.0, fins-of rs (λ κs. (sel κs).1) (suc i) a.1 zs.1 ws)
    fins-of (cell R ∷ rs) sel i a zs ws = (zs.0, fins-of rs (λ κs. (sel κs).1) (suc i) a.1 zs.1 ws)
    fins-of (seen-slice R L ∷ rs) sel i a zs ws = (tt, fins-of rs (λ κs. (sel κs).1) (suc i) a.1 zs.1 ws)
    fins-of (seen-cell R L ∷ rs) sel i a zs ws = (tt, fins-of rs (λ κs. (sel κs).1) (suc i) a.1 zs.1 ws)

    module _ {M : Type 1} {𝓤 : Ura M} (𝓛 : Logic 𝓤) where
      open 𝓛 use {H}

      comes-in : (rs : List Ref) (sel : Lfts n → Lfts (length rs)) (i : ℕ) (qs : Shares (length rs)) (sp : Spells (types_at ps κs)) (a : Denots (types_at (slots rs sel i ps) κs))
          → ent 𝓤 (sep 𝓤 (toks 𝓛 (length rs) (sel κs) qs) (sem 𝓛 (owns (types_at (slots rs sel i ps) κs) a (valss (types_at (slots rs sel i ps) κs) (ref-spells rs sel i sp) a)))) (sem 𝓛 (Alls rs (locs-of rs sel i qs a) (helds-of rs sel i a)))
      comes-in [] sel i qs sp a = top 𝓤 _
      comes-in (slice R ∷ rs) sel i qs sp a =
          qed 𝓛 ((‵ (flft (sel κs).0 qs.0) ⊛ raw (toks 𝓛 (length rs) (sel κs).1 qs.1)) ∷ ‵ (owns (types_at (slots (slice R ∷ rs) sel i ps) κs) a (valss (types_at (slots (slice R ∷ rs) sel i ps) κs) (ref-spells (slice R ∷ rs) sel i sp) a)) ∷ []) ∵
          split ! $ move ! (2 ∷ []) $ fsplit ! $ move ! (3 ∷ 1 ∷ []) $ use2 𝓛 (‵ (Alls rs (locs-of rs (λ κs. (sel κs).1) (suc i) qs.1 a.1) (helds-of rs (λ κs. (sel κs).1) (suc i) a.1))) (comes-in rs (λ κs. (sel κs).1) (suc i) qs.1 sp a.1) $
          move ! (2 ∷ 0 ∷ []) $ fjoin ! $ move ! (1 ∷ 0 ∷ []) $ fjoin ! $ done !
      comes-in (cell R ∷ rs) sel i qs sp a =
          qed 𝓛 ((‵ (flft (sel κs).0 qs.0) ⊛ raw (toks 𝓛 (length rs) (sel κs).1 qs.1)) ∷ ‵ (owns (types_at (slots (cell R ∷ rs) sel i ps) κs) a (valss (types_at (slots (cell R ∷ rs) sel i ps) κs) (ref-spells (cell R ∷ rs) sel i sp) a)) ∷ []) ∵
          split ! $ move ! (2 ∷ []) $ fsplit ! $ move ! (3 ∷ 1 ∷ []) $ use2 𝓛 (‵ (Alls rs (locs-of rs (λ κs. (sel κs).1) (suc i) qs.1 a.1) (helds-of rs (λ κs. (sel κs).1) (suc i) a.1))) (comes-in rs (λ κs. (sel κs).1) (suc i) qs.1 sp a.1) $
          move ! (2 ∷ 0 ∷ []) $ fjoin ! $ move ! (1 ∷ 0 ∷ []) $ fjoin ! $ done !
      comes-in (seen-slice R L ∷ rs) sel i qs sp a =
          qed 𝓛 ((‵ (flft (sel κs).0 qs.0) ⊛ raw (toks 𝓛 (length rs) (sel κs).1 qs.1)) ∷ ‵ (owns (types_at (slots (seen-slice R L ∷ rs) sel i ps) κs) a (valss (types_at (slots (seen-slice R L ∷ rs) sel i ps) κs) (ref-spells (seen-slice R L ∷ rs) sel i sp) a)) ∷ []) ∵
          split ! $ move ! (2 ∷ []) $ fsplit ! $ move ! (3 ∷ 1 ∷ []) $ use2 𝓛 (‵ (Alls rs (locs-of rs (λ κs. (sel κs).1) (suc i) qs.1 a.1) (helds-of rs (λ κs. (sel κs).1) (suc i) a.1))) (comes-in rs (λ κs. (sel κs).1) (suc i) qs.1 sp a.1) $
          move ! (2 ∷ 0 ∷ []) $ fjoin ! $ move ! (1 ∷ 0 ∷ []) $ fjoin ! $ done !
      comes-in (seen-cell R L ∷ rs) sel i qs sp a =
          qed 𝓛 ((‵ (flft (sel κs).0 qs.0) ⊛ raw (toks 𝓛 (length rs) (sel κs).1 qs.1)) ∷ ‵ (owns (types_at (slots (seen-cell R L ∷ rs) sel i ps) κs) a (valss (types_at (slots (seen-cell R L ∷ rs) sel i ps) κs) (ref-spells (seen-cell R L ∷ rs) sel i sp) a)) ∷ []) ∵
          split ! $ move ! (2 ∷ []) $ fsplit ! $ move ! (3 ∷ 1 ∷ []) $ use2 𝓛 (‵ (Alls rs (locs-of rs (λ κs. (sel κs).1) (suc i) qs.1 a.1) (helds-of rs (λ κs. (sel κs).1) (suc i) a.1))) (comes-in rs (λ κs. (sel κs).1) (suc i) qs.1 sp a.1) $
          move ! (2 ∷ 0 ∷ []) $ fjoin ! $ move ! (1 ∷ 0 ∷ []) $ fjoin ! $ done !

      -- at exit: the tokens, and what says the last values
      goes-out : (rs : List Ref) (sel : Lfts n → Lfts (length rs)) (i : ℕ) (qs : Shares (length rs)) (a : Denots (types_at (slots rs sel i ps) κs)) (zs : Helds rs) → Tolds rs (locs-of rs sel i qs a) zs → (ws : Fins κs ps ks (rest-args rs sel i a)) → ent 𝓤 (emp 𝓤) (sem 𝓛 (lasts_of κs ps ks (rest-args rs sel i a) ws))
          → ent 𝓤 (sem 𝓛 (Alls rs (locs-of rs sel i qs a) zs)) (H.⇛ (sep 𝓤 (toks 𝓛 (length rs) (sel κs) qs) (sem 𝓛 (lasts_of κs (slots rs sel i ps) (kepts rs sel i ps ks) a (fins-of rs sel i a zs ws)))))
      goes-out [] sel i qs a zs p ws q = qed 𝓛 (‵ ftrue ∷ []) ∵ updating ! $ at_once ! $ frame ! $ use0 𝓛 (‵ (lasts_of κs ps ks a ws)) q $ done !
      goes-out (slice R ∷ rs) sel i qs a zs p ws q =
          qed 𝓛 (‵ (Alls (slice R ∷ rs) (locs-of (slice R ∷ rs) sel i qs a) zs) ∷ []) ∵ updating ! $ fsplit ! $
          use1 𝓛 (later (‵ (left ((MutSlice (named i) (sel κs).0 R).exit yes) a.0 zs.0))) (Goes-slice 𝓛 1 0 tt (plain (λ _. R)) ((sel κs).0, tt) a.0 zs.0 _ (sym (counted _ _ _ _ p.0.0))) $ await ! tt $ move ! (1 ∷ []) $ fsplit ! $ move ! (1 ∷ []) $
          use1 𝓛 (later (raw (toks 𝓛 (length rs) (sel κs).1 qs.1) ⊛ ‵ (lasts_of κs (slots rs (λ κs. (sel κs).1) (suc i) ps) (kepts rs (λ κs. (sel κs).1) (suc i) ps ks) a.1 (fins-of rs (λ κs. (sel κs).1) (suc i) a.1 zs.1 ws)))) (goes-out rs (λ κs. (sel κs).1) (suc i) qs.1 a.1 zs.1 p.1 ws q) $ await ! tt $ split ! $ at_once ! $
          -- [the other tokens; the others said; this token; this one said]
          move ! (2 ∷ 0 ∷ []) $ join ! $ frame ! $ move ! (1 ∷ 0 ∷ []) $ fjoin ! $ done !
      goes-out (cell R ∷ rs) sel i qs a zs p ws q =
          qed 𝓛 (‵ (Alls (cell R ∷ rs) (locs-of (cell R ∷ rs) sel i qs a) zs) ∷ []) ∵ updating ! $ fsplit ! $
          use1 𝓛 (later (‵ (left ((MutRef (named i) (sel κs).0 R).exit yes) a.0 zs.0))) (Goes-ref 𝓛 1 0 tt (plain (λ _. R)) ((sel κs).0, tt) a.0 zs.0 _ tt) $ await ! tt $ move ! (1 ∷ []) $ fsplit ! $ move ! (1 ∷ []) $
          use1 𝓛 (later (raw (toks 𝓛 (length rs) (sel κs).1 qs.1) ⊛ ‵ (lasts_of κs (slots rs (λ κs. (sel κs).1) (suc i) ps) (kepts rs (λ κs. (sel κs).1) (suc i) ps ks) a.1 (fins-of rs (λ κs. (sel κs).1) (suc i) a.1 zs.1 ws)))) (goes-out rs (λ κs. (sel κs).1) (suc i) qs.1 a.1 zs.1 p.1 ws q) $ await ! tt $ split ! $ at_once ! $
          move ! (2 ∷ 0 ∷ []) $ join ! $ frame ! $ move ! (1 ∷ 0 ∷ []) $ fjoin ! $ done !
      goes-out (seen-slice R L ∷ rs) sel i qs a zs p ws q =
          qed 𝓛 (‵ (Alls (seen-slice R L ∷ rs) (locs-of (seen-slice R L ∷ rs) sel i qs a) zs) ∷ []) ∵ updating ! $ fsplit ! $ drop ! $ fsplit ! $ move ! (1 ∷ []) $
          use1 𝓛 (later (raw (toks 𝓛 (length rs) (sel κs).1 qs.1) ⊛ ‵ (lasts_of κs (slots rs (λ κs. (sel κs).1) (suc i) ps) (kepts rs (λ κs. (sel κs).1) (suc i) ps ks) a.1 (fins-of rs (λ κs. (sel κs).1) (suc i) a.1 zs.1 ws)))) (goes-out rs (λ κs. (sel κs).1) (suc i) qs.1 a.1 zs.1 p.1 ws q) $ await ! tt $ split ! $ at_once ! $
          move ! (2 ∷ 0 ∷ []) $ join ! $ frame ! $ use0 𝓛 (‵ ftrue) (id⊢ 𝓤 _) $ fjoin ! $ done !
      goes-out (seen-cell R L ∷ rs) sel i qs a zs p ws q =
          qed 𝓛 (‵ (Alls (seen-cell R L ∷ rs) (locs-of (seen-cell R L ∷ rs) sel i qs a) zs) ∷ []) ∵ updating ! $ fsplit ! $ drop ! $ fsplit ! $ move ! (1 ∷ []) $
          use1 𝓛 (later (raw (toks 𝓛 (length rs) (sel κs).1 qs.1) ⊛ ‵ (lasts_of κs (slots rs (λ κs. (sel κs).1) (suc i) ps) (kepts rs (λ κs. (sel κs).1) (suc i) ps ks) a.1 (fins-of rs (λ κs. (sel κs).1) (suc i) a.1 zs.1 ws)))) (goes-out rs (λ κs. (sel κs).1) (suc i) qs.1 a.1 zs.1 p.1 ws q) $ await ! tt $ split ! $ at_once ! $
          move ! (2 ∷ 0 ∷ []) $ join ! $ frame ! $ use0 𝓛 (‵ ftrue) (id⊢ 𝓤 _) $ fjoin ! $ done !

-- the plain ones
value-are : (n : ℕ) (κs : Lfts n) (ps : List Plain) (a : Denots (types_at (by_value n ps) κs)) → Are (types_at (by_value n ps) κs) (Ises (types_at (by_value n ps) κs)) a (valss (types_at (by_value n ps) κs) (value-spells n κs ps) a) → FitsAll ps (values_of n κs ps a)
value-are n κs [] a are = tt
value-are n κs (P ∷ ps) a are = (are.0, value-are n κs ps a.1 are.1)

value-flat : (n : ℕ) (κs : Lfts n) (ps : List Plain) (a : Denots (types_at (by_value n ps) κs)) → flat (types_at (by_value n ps) κs) (valss (types_at (by_value n ps) κs) (value-spells n κs ps) a) ≡ machine ps (values_of n κs ps a)
value-flat n κs [] a = refl
value-flat n κs (P ∷ ps) a = ap (λ (vs : List Val). P.val a.0 ∷ vs) (value-flat n κs ps a.1)

module _ {M : Type 1} {𝓤 : Ura M} (𝓛 : Logic 𝓤) (rs : List Ref) (ps : List Plain) (res : Plain) (c : Clauses 𝓤 (Sig rs ps res)) (run : Fun 𝓤) (mono : (vs : List Val) → Mono 𝓤 (run vs)) where
  open 𝓛 use {H}

  abbrev n : ℕ
  n = length rs

  abbrev T : Ended
  T = Sig rs ps res

  -- what is passed at the lifetimes κs and the shares qs, taken apart
  abbrev pub in-locs : (κs : Lfts n) → Shares n → Args T.signature κs → Locs rs
  in-locs κs qs a = locs-of κs (by_value n ps) rs (λ κs. κs) 0 qs a

  abbrev pub in-helds : (κs : Lfts n) → Args T.signature κs → Helds rs
  in-helds κs a = helds-of κs (by_value n ps) rs (λ κs. κs) 0 a

  abbrev pub in-values : (κs : Lfts n) → Args T.signature κs → Values ps
  in-values κs a = values_of n κs ps (rest-args κs (by_value n ps) rs (λ κs. κs) 0 a)

  abbrev pub last-values : (κs : Lfts n) (a : Args T.signature κs) → Helds rs → Lasts T κs a
  last-values κs a zs = fins-of κs (by_value n ps) (value-kepts n ps) rs (λ κs. κs) 0 a zs (value-lasts n κs ps (rest-args κs (by_value n ps) rs (λ κs. κs) 0 a))

  module _ (Good : Helds rs → Values ps → res.of.Denot → Helds rs → Type 0)
      (ens : (κs : Lfts n) (a : Args T.signature κs) (g : (c κs a).ghost) (r : res.of.Denot) (zs : Helds rs) → Good (in-helds κs a) (in-values κs a) r zs → ent 𝓤 (emp 𝓤) ((c κs a).ensures g r (at_exit T κs a (last-values κs a zs))))
      (walk : (κs : Lfts n) (qs : Shares n) (a : Args T.signature κs) (g : (c κs a).ghost) → Tolds rs (in-locs κs qs a) (in-helds κs a) → FitsAll ps (in-values κs a)
      → ent 𝓤 (sep 𝓤 (⋆ 𝓛 (items rs (in-locs κs qs a) (in-helds κs a))) ((c κs a).requires g)) (run (pointers rs (in-locs κs qs a) ++ machine ps (in-values κs a)) (After 𝓛 rs (in-locs κs qs a) res (Good (in-helds κs a) (in-values κs a))))) where
    abbrev sp : (κs : Lfts n) → Spells (types_at T.signature.params κs)
    sp κs = ref-spells κs (by_value n ps) rs (λ κs. κs) 0 (value-spells n κs ps)

    ends : (y : (Ctr 𝓛 T c).Ghost) (v : Val) → ent 𝓤 (After 𝓛 rs (in-locs y.0.0 y.0.1 y.0.3) res (Good (in-helds y.0.0 y.0.3) (in-values y.0.0 y.0.3)) v) ((Ctr 𝓛 T c).post y v)
    ends y v =
        qed 𝓛 (later (some (λ (r : res.of.Denot). some (λ (zs : Helds rs). given (((v ≡ res.val r) × Fits res r) × Good (in-helds y.0.0 y.0.3) (in-values y.0.0 y.0.3) r zs) (‵ (Alls rs ls zs))))) ∷ []) ∵ updating ! $ await ! tt $ pick ! (λ r. pick ! (λ zs. learn ! (λ e.
        use1 𝓛 (later (raw (toks 𝓛 n y.0.0 y.0.1) ⊛ ‵ (lasts_of y.0.0 T.signature.params T.kept y.0.3 (last-values y.0.0 y.0.3 zs)))) (out zs) $ await ! tt $ split ! $ at_once ! $
        show ! (λ (z : res.of.Denot). sep 𝓤 (sep 𝓤 (toks 𝓛 n y.0.0 y.0.1) (sem 𝓛 (res.of.own_val z (v ∷ [])))) (ensured 𝓛 T c y.0.0 y.0.3 y.1 z)) r $
        -- [the tokens; what is said]
        use0 𝓛 (raw ((c y.0.0 y.0.3).ensures y.1 r (at_exit T y.0.0 y.0.3 (last-values y.0.0 y.0.3 zs)))) (ens y.0.0 y.0.3 y.1 r zs e.1) $ move ! (2 ∷ 0 ∷ []) $ join ! $
        use1 𝓛 (raw (ensured 𝓛 T c y.0.0 y.0.3 y.1 r)) (ex_i 𝓤 (λ (us : Lasts T y.0.0 y.0.3). sep 𝓤 (sem 𝓛 (lasts T y.0.0 y.0.3 us)) ((c y.0.0 y.0.3).ensures y.1 r (at_exit T y.0.0 y.0.3 us))) (last-values y.0.0 y.0.3 zs)) $
        use0 𝓛 (‵ (res.of.own_val r (v ∷ []))) (subst (λ (u : Val). ent 𝓤 (emp 𝓤) (sem 𝓛 (res.of.own_val r (u ∷ [])))) (sym e.0.0) (res.makes 𝓛 r _ e.0.1)) $ move ! (2 ∷ 0 ∷ []) $ join ! $ frame ! $ done !)))
      where
        ls : Locs rs
        ls = in-locs y.0.0 y.0.1 y.0.3

        out : (zs : Helds rs) → ent 𝓤 (sem 𝓛 (Alls rs (in-locs y.0.0 y.0.1 y.0.3) zs)) (H.⇛ (sep 𝓤 (toks 𝓛 n y.0.0 y.0.1) (sem 𝓛 (lasts_of y.0.0 T.signature.params T.kept y.0.3 (last-values y.0.0 y.0.3 zs)))))
        out zs = fact_use 𝓤 _ (tolds 𝓛 rs (in-locs y.0.0 y.0.1 y.0.3) zs) (λ p. goes-out y.0.0 (by_value n ps) (value-kepts n ps) 𝓛 rs (λ κs. κs) 0 y.0.1 y.0.3 zs p (value-lasts n y.0.0 ps (rest-args y.0.0 (by_value n ps) rs (λ κs. κs) 0 y.0.3))
            (value-silent n y.0.0 𝓛 ps (rest-args y.0.0 (by_value n ps) rs (λ κs. κs) 0 y.0.3) (value-lasts n y.0.0 ps (rest-args y.0.0 (by_value n ps) rs (λ κs. κs) 0 y.0.3))))

    enters : (y : (Ctr 𝓛 T c).Ghost) → Are (types_at T.signature.params y.0.0) (Ises (types_at T.signature.params y.0.0)) y.0.3 (valss (types_at T.signature.params y.0.0) (sp y.0.0) y.0.3)
        → ent 𝓤 (sep 𝓤 (on_entry 𝓛 T.signature y.0.0 y.0.1 y.0.3 (valss (types_at T.signature.params y.0.0) (sp y.0.0) y.0.3)) ((c y.0.0 y.0.3).requires y.1))
        (run (flat (types_at T.signature.params y.0.0) (valss (types_at T.signature.params y.0.0) (sp y.0.0) y.0.3)) ((Ctr 𝓛 T c).post y))
    enters y are = via 𝓤 _ (mono_l 𝓤 ((c y.0.0 y.0.3).requires y.1) (comes-in y.0.0 (by_value n ps) (value-kepts n ps) 𝓛 rs (λ κs. κs) 0 y.0.1 (value-spells n y.0.0 ps) y.0.3))
        (fact_use 𝓤 (Tolds rs (in-locs y.0.0 y.0.1 y.0.3) (in-helds y.0.0 y.0.3)) (via 𝓤 (sem 𝓛 (Alls rs (in-locs y.0.0 y.0.1 y.0.3) (in-helds y.0.0 y.0.3))) (fst∗ 𝓤 (sem 𝓛 (Alls rs (in-locs y.0.0 y.0.1 y.0.3) (in-helds y.0.0 y.0.3))) ((c y.0.0 y.0.3).requires y.1)) (tolds 𝓛 rs (in-locs y.0.0 y.0.1 y.0.3) (in-helds y.0.0 y.0.3))) (λ p.
        via 𝓤 _ (mono_l 𝓤 ((c y.0.0 y.0.3).requires y.1) (spread 𝓛 rs (in-locs y.0.0 y.0.1 y.0.3) (in-helds y.0.0 y.0.3)))
        (via 𝓤 _ (walk y.0.0 y.0.1 y.0.3 y.1 p (value-are n y.0.0 ps (rest-args y.0.0 (by_value n ps) rs (λ κs. κs) 0 y.0.3) (rest-are y.0.0 (by_value n ps) rs (λ κs. κs) 0 (value-spells n y.0.0 ps) y.0.3 are)))
        (subst (λ (vs : List Val). ent 𝓤 (run vs (After 𝓛 rs (in-locs y.0.0 y.0.1 y.0.3) res (Good (in-helds y.0.0 y.0.3) (in-values y.0.0 y.0.3)))) (run (flat (types_at T.signature.params y.0.0) (valss (types_at T.signature.params y.0.0) (sp y.0.0) y.0.3)) ((Ctr 𝓛 T c).post y)))
        (flat-as y.0.0 (by_value n ps) rs (λ κs. κs) 0 y.0.1 (value-spells n y.0.0 ps) y.0.3 ∙ ap (λ (vs : List Val). pointers rs (in-locs y.0.0 y.0.1 y.0.3) ++ vs) (value-flat n y.0.0 ps (rest-args y.0.0 (by_value n ps) rs (λ κs. κs) 0 y.0.3)))
        (mono _ _ _ (ends y))))))

    pub meets : Meets 𝓛 T.signature run (closing 𝓛 T c)
    meets y =
        let R : SProp 𝓤 = (c y.0.0 y.0.3).requires y.1 in
        let Q : Vals T.signature y.0.0 → SProp 𝓤 = λ us. run (flat (types_at T.signature.params y.0.0) us) ((Ctr 𝓛 T c).post y) in
        via 𝓤 (sep 𝓤 R (wand 𝓤 R (Q y.0.4)))
        (via 𝓤 (sep 𝓤 (wand 𝓤 R (Q y.0.4)) R)
        (mono_l 𝓤 R (said 𝓛 T.signature y.0.0 y.0.1 (sp y.0.0) (ref-tells y.0.0 (by_value n ps) rs (λ κs. κs) 0 (value-spells n y.0.0 ps) (value_tells n y.0.0 ps)) y.0.3 (λ us. wand 𝓤 R (Q us)) y.0.4 (λ are. wand_i 𝓤 _ R _ (enters y are))))
        (comm∗ 𝓤 (wand 𝓤 R (Q y.0.4)) R))
        (apply∗ 𝓤 R (Q y.0.4))
