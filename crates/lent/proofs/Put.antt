-- `fn put(xs: &mut [S], i: usize, s: S) { if i < xs.len() { xs[i] = s; } }` at any struct S of plain data: the walk of its MIR, once for all.
-- `put-meets`: it meets `xs.new ≡ set xs.old i s`; past the end `set` changes nothing. A putter of records can cite it at its struct.
-- `put-any-meets`: so does `fn put<T: Copy>(xs: &mut [T], i: usize, s: T)`, of the same body, at T = S. Its MIR is `any-function`, and what runs is that with S put in. Assumes `Logic`.
use mathlib.Core.Path.{◌≡◌, refl, sym, ap}
use mathlib.Core.Option.{some}
use Prim.Native.Nat.{ℕ, zero, suc, ◌<◌, ◌≤◌, ◌^◌}
use native.Mathlib.Nat.{not-suc-le-zero, le_of_suc-le-suc}
use mathlib.Core.List.{[], ◌∷◌, List, ◌++◌}
use lib.Dec.{T as Holds, ltb, ltb→lt, nltb→le}
use lib.ListN.{length, set}
use seplogic.Ra.Ura.{Ura}
use base.Fraction.{full_share}
use mir.Syntax.{Fn, Body, Local, Ty, Dict, dcons, dnil, a_type, ty_param, size_of, Opd as Operand, named, mut, unsigned, w64, ty_int, ty_bool, ty_unit, ty_ptr, ty_ref, deref, field, place, copy, int, opd_unit, local, value_local, seq, assign, cond, skip, return, rv_opd, op2, mul, offset, lt}
use mir.MapTy.{inst_fn}
use mir.Val.{Val, vint, vptr}
use base.Logic.{SProp, ent, emp, via, fst∗}
use base.Fml.{GName, Lft, Share, fat}
use prog.Wp.{Env, Calls, Loops, WpFn, Tables}
use types.Logic.{Logic}
use contract.Monad.{fact, fact_i}
use types.Kit.{Item, ‵, at_ret, ⋆, ◌$◌, ◌∵◌, !, qed, rewrite}
use types.Run.{Opd, size_lit, look, init, store_raw, stop, hop, fld, from, load, lit, unit_lit, of_opd, bin, assigns, assigns_last, first, branches, skips, exec}
use types.Part.{whole, sub, look_in}
use sound.WpLaws.{WpFn-mono}
use denote.RattleType.{RattleType}
use denote.Memory.{mem, lone, pointee}
use denote.Param.{bounded}
use denote.Slice.{slice_ty, Room}
use denote.Index.{place_is}
use denote.Struct.Struct.{Plains}
use denote.Struct.Declared.{Declared, fields, row}
use denote.Struct.Laws as LL
use denote.Triple.Spec.{Meets}
use denote.Triple.Clauses.{Clauses, closing}
use Rattle.lent.proofs.Plain.{Plain, Fits, plain-struct, plain-uint, plain-unit, machine}
use Rattle.lent.proofs.Refs.{Ref, slice, Locs, Helds, items, pointers, Sig}
use Rattle.lent.proofs.Does.{After, ended}
use Rattle.lent.proofs.Meets.{meets}
use Rattle.lent.proofs.Frame.{env_of, begins, finishes, var}
use Rattle.lent.proofs.Open.{opens-elem, closes-elem, place-fits}

-- past the end `set` changes nothing
pub set_past : {X : Type 0} (ys : List X) (i : ℕ) (s : X) → length ys ≤ i → ys ≡ set ys i s
set_past [] i s l = refl
set_past (y ∷ ys) zero s l = absurd (not-suc-le-zero l)
set_past (y ∷ ys) (suc i) s l = ap (λ (t : List _). y ∷ t) (set_past ys i s (le_of_suc-le-suc l))

-- the MIR of the one with a type parameter. A bound's proof is passed, and the parameter has a lifetime that the reference's is within
abbrev pub any-function : Fn
any-function = record {
  lifetimes = 1;
  outlives = (1, 0) ∷ [];
  ty_params = a_type ∷ [];
  givens = 1;
  params = 3;
  locals = local ty_unit value_local ∷ local (slice_ty (ty_ref (named 0) mut (ty_param 0))) value_local ∷ local (ty_int w64) value_local ∷ local (ty_param 0) value_local
      ∷ local (ty_int w64) value_local ∷ local ty_bool value_local ∷ local (ty_int w64) value_local ∷ local ty_ptr value_local ∷ [];
  body = seq (assign (place 4 []) (rv_opd (copy (place 1 (field 1 ∷ [])))))
      (seq (assign (place 5 []) (op2 (lt unsigned) (copy (place 2 [])) (copy (place 4 []))))
      (seq (cond (copy (place 5 [])) (seq (assign (place 6 []) (op2 (mul unsigned) (copy (place 2 [])) (size_of (ty_param 0))))
      (seq (assign (place 7 []) (op2 offset (copy (place 1 (field 0 ∷ []))) (copy (place 6 []))))
      (assign (place 7 (deref (ty_param 0) ∷ [])) (rv_opd (copy (place 3 [])))))) skip)
      (seq (assign (place 0 []) (rv_opd opd_unit)) return)));
}

module _ (S : Declared) (L : LL.Laws S) (cp : LL.Copyables S.parts) (pl : Plains (fields S)) (small : Holds (ltb (mem (row S)).size (2 ^ 64))) where
  abbrev R : RattleType
  R = row S

  abbrev P : Plain
  P = plain-struct S L cp pl

  abbrev rs : List Ref
  rs = slice R ∷ []

  abbrev ps : List Plain
  ps = plain-uint w64 ∷ P ∷ []

  abbrev clauses : {M : Type 1} (𝓤 : Ura M) → Clauses 𝓤 (Sig rs ps plain-unit)
  clauses 𝓤 κs a = record { ghost = Unit {0}; requires = λ _. emp 𝓤; ensures = λ _ r e. fact 𝓤 (e.0.now ≡ set a.0.now a.1.0 a.1.1.0) }

  abbrev rest : Body
  rest = seq (assign (place 0 []) (rv_opd opd_unit)) return

  -- ρ is what the reference is written to refer to
  abbrev locals : Ty → List Local
  locals ρ = local ty_unit value_local ∷ local (slice_ty (ty_ref (named 0) mut ρ)) value_local ∷ local (ty_int w64) value_local ∷ local (lone R.mir) value_local
      ∷ local (ty_int w64) value_local ∷ local ty_bool value_local ∷ local (ty_int w64) value_local ∷ local ty_ptr value_local ∷ []

  -- and sz gives the size of an element
  abbrev form : List (ℕ × ℕ) → Ty → Operand → Fn
  form out ρ sz = record {
    lifetimes = 1;
    outlives = out;
    ty_params = [];
    givens = 0;
    params = 3;
    locals = locals ρ;
    body = seq (assign (place 4 []) (rv_opd (copy (place 1 (field 1 ∷ [])))))
        (seq (assign (place 5 []) (op2 (lt unsigned) (copy (place 2 [])) (copy (place 4 []))))
        (seq (cond (copy (place 5 [])) (seq (assign (place 6 []) (op2 (mul unsigned) (copy (place 2 [])) sz))
        (seq (assign (place 7 []) (op2 offset (copy (place 1 (field 0 ∷ []))) (copy (place 6 []))))
        (assign (place 7 (deref (lone R.mir) ∷ [])) (rv_opd (copy (place 3 [])))))) skip) rest));
  }

  abbrev function : Fn
  function = form [] (pointee R.written) (int w64 (mem R).size)

  -- `any-function` at S, with the proof e of the bound as it is passed
  abbrev instance : Dict → Fn
  instance e = inst_fn (bounded (a_type ∷ []) (R, tt) (dcons e dnil)) any-function

  module _ {M : Type 1} {𝓤 : Ura M} (𝓛 : Logic 𝓤) (C : Calls 𝓤 𝓛.H) (Λ : Loops 𝓤 𝓛.H) (out : List (ℕ × ℕ)) (ρ : Ty) (sz : Operand) (sizes : (K : Type 0) (Γ : List (Item 𝓤)) (E : Env 𝓤 𝓛.H) → K → Opd K 𝓛 Γ E sz (vint w64 (mem R).size)) (b o : ℕ) (γ : GName) (κ : Lft) (q : Share) (ys : List S.D) (i : ℕ) (s : S.D) (room : Room R (length ys)) (gi : i < 2 ^ 64) (gs : Fits P s) where
    open 𝓛 use {H}

    abbrev ls : Locs rs
    ls = (record { b = b; o = o; n = length ys; γ = γ; κ = κ; q = q }, tt)

    abbrev Good : Unit {0} → Helds rs → Type 0
    Good r zs = zs.0 ≡ set ys i s

    abbrev Post : Val → SProp 𝓤
    Post = After 𝓛 rs ls plain-unit Good

    walk : ent 𝓤 (⋆ 𝓛 (items rs ls (ys, tt))) (WpFn 𝓤 H C Λ (form out ρ sz) (pointers rs ls ++ machine ps (i, (s, tt))) (After 𝓛 rs ls plain-unit Good))
    walk =
        qed 𝓛 (items rs ls (ys, tt)) ∵ begins ! C Λ (form out ρ sz) _ _ _ refl (pointers rs ls ++ machine ps (i, (s, tt))) ((tt, (tt, (record { fits = room.0 }, tt))), ((tt, record { fits = gi }), (P.typed 𝓛 s gs, tt))) _ _ (λ bs.
        -- [xs; κ's token; _0; …; _7; …]: local i stands at 2 + 2i
        assigns ! (of_opd ! (load ! (from ! (fld ! refl (stop !))) (look_in ! 4 (sub ! 1 refl (whole !))))) (from ! (stop !)) (init ! 10 refl (tt, record { fits = room.0 })) $
        assigns ! (bin ! (var ! 6 refl) (var ! 10 refl) tt) (from ! (stop !)) (init ! 12 refl (tt, tt)) $
        let E : Env 𝓤 H = env_of H (locals ρ) bs in
        first ! $ branches ! (var ! 12 refl)
        (λ yes'. let l : i < length ys = ltb→lt i (length ys) yes' in
        assigns ! (bin ! (var ! 6 refl) (sizes _ _ _ !) (record { fits = place-fits i (length ys) (mem R).size l room.1 })) (from ! (stop !)) (init ! 14 refl (tt, record { fits = place-fits i (length ys) (mem R).size l room.1 })) $
        assigns ! (bin ! (load ! (from ! (fld ! refl (stop !))) (look_in ! 4 (sub ! 0 refl (whole !)))) (var ! 14 refl) tt) (from ! (stop !)) (init ! 16 refl (tt, tt)) $
        rewrite ! 16 (λ (p : ℕ). ‵ (fat full_share ty_ptr bs.1.1.1.1.1.1.1.0 0 (vptr b p))) (sym (place_is (mem R).size o i)) refl $
        opens-elem ! tt S L ys i s l (λ told was.
        assigns_last ! (of_opd ! (var ! 8 refl)) (from ! (hop ! (look ! 16 refl) (stop !))) (store_raw ! 0 refl (P.typed 𝓛 s gs)) $
        exec ! C Λ E rest (at_ret E Post) $ closes-elem ! tt S L pl ys i s (LL.vals S L s) _ l told gs $
        assigns ! (of_opd ! (unit_lit !)) (from ! (stop !)) (init ! 2 refl (tt, tt)) $
        finishes ! (items rs ls (set ys i s, tt)) (locals ρ) bs (some _ ∷ some _ ∷ some _ ∷ some _ ∷ some _ ∷ some _ ∷ some _ ∷ some _ ∷ []) (look ! 2 refl) (ended 𝓛 rs ls plain-unit Good tt (set ys i s, tt) refl refl)))
        (λ no'. skips ! $ exec ! C Λ E rest (at_ret E Post) $
        assigns ! (of_opd ! (unit_lit !)) (from ! (stop !)) (init ! 2 refl (tt, tt)) $
        finishes ! (items rs ls (ys, tt)) (locals ρ) bs (some _ ∷ some _ ∷ some _ ∷ some _ ∷ some _ ∷ some _ ∷ []) (look ! 2 refl) (ended 𝓛 rs ls plain-unit Good tt (ys, tt) refl (set_past ys i s (nltb→le i (length ys) no')))))

  meets-at : {M : Type 1} {𝓤 : Ura M} (𝓛 : Logic 𝓤) (𝓣 : Tables 𝓤 𝓛.H) (out : List (ℕ × ℕ)) (ρ : Ty) (sz : Operand) → ((K : Type 0) (Γ : List (Item 𝓤)) (E : Env 𝓤 𝓛.H) → K → Opd K 𝓛 Γ E sz (vint w64 (mem R).size))
      → Meets 𝓛 (Sig rs ps plain-unit).signature (WpFn 𝓤 𝓛.H 𝓣.C 𝓣.Λ (form out ρ sz)) (closing 𝓛 (Sig rs ps plain-unit) (clauses 𝓤))
  meets-at {𝓤 = 𝓤} 𝓛 𝓣 out ρ sz sizes = meets 𝓛 rs ps plain-unit (clauses 𝓤) _ (WpFn-mono 𝓤 𝓛.H 𝓛.laws 𝓣 (form out ρ sz)) (λ xs a r zs. zs.0 ≡ set xs.0 a.0 a.1.0) (λ κs a g r zs e. fact_i 𝓤 _ _ e)
      (λ κs qs a g told fits. via 𝓤 _ (fst∗ 𝓤 _ (emp 𝓤)) (walk 𝓛 𝓣.C 𝓣.Λ out ρ sz sizes a.0.ref_ptr.0 a.0.ref_ptr.1 a.0.ghost_name κs.0 qs.0 a.0.now a.1.0 a.1.1.0 told.0.1 fits.0.1 fits.1.0))

  pub put-meets : {M : Type 1} {𝓤 : Ura M} (𝓛 : Logic 𝓤) (𝓣 : Tables 𝓤 𝓛.H) → Meets 𝓛 (Sig rs ps plain-unit).signature (WpFn 𝓤 𝓛.H 𝓣.C 𝓣.Λ function) (closing 𝓛 (Sig rs ps plain-unit) (clauses 𝓤))
  put-meets 𝓛 𝓣 = meets-at 𝓛 𝓣 [] (pointee R.written) (int w64 (mem R).size) (λ K Γ E t. lit t small)

  pub put-any-meets : {M : Type 1} {𝓤 : Ura M} (𝓛 : Logic 𝓤) (𝓣 : Tables 𝓤 𝓛.H) (e : Dict) → Meets 𝓛 (Sig rs ps plain-unit).signature (WpFn 𝓤 𝓛.H 𝓣.C 𝓣.Λ (instance e)) (closing 𝓛 (Sig rs ps plain-unit) (clauses 𝓤))
  put-any-meets 𝓛 𝓣 e = meets-at 𝓛 𝓣 ((1, 0) ∷ []) (ty_param 0) (size_of (lone R.mir)) (λ K Γ E t. size_lit t (record { fits = ltb→lt (mem R).size (2 ^ 64) small }))
