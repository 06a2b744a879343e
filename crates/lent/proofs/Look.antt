-- `fn look(xs: &[S], i: usize, d: S) -> S { if i < xs.len() { xs[i] } else { d } }` at any struct S of plain data: the walk of its MIR, once for all.
-- `look-meets`: it meets `result ≡ get_or xs.now i d`. What a `&` refers to can't change.
-- `look-any-meets`: so does `fn look<T: Copy>(xs: &[T], i: usize, d: T) -> T`, of the same body, at T = S. Its MIR is `any-function`, and what runs is that with S put in. Assumes `Logic`.
use mathlib.Core.Path.{◌≡◌, refl, sym}
use mathlib.Core.Option.{some}
use Prim.Native.Nat.{ℕ, ◌<◌, ◌^◌}
use mathlib.Core.List.{[], ◌∷◌, List, ◌++◌}
use lib.Dec.{T as Holds, ltb, ltb→lt, nltb→le}
use lib.ListN.{length, get_or, get_or-eq_default}
use seplogic.Ra.Ura.{Ura}
use base.Fraction.{full_share}
use mir.Syntax.{Fn, Body, Local, Ty, Dict, dcons, dnil, a_type, ty_param, size_of, Opd as Operand, named, imm, unsigned, w64, ty_int, ty_bool, ty_ptr, ty_ref, deref, field, place, copy, int, local, value_local, seq, assign, cond, return, rv_opd, op2, mul, offset, lt}
use mir.MapTy.{inst_fn}
use mir.Val.{Val, vint, vptr}
use base.Logic.{SProp, ent, emp, via, fst∗}
use base.Fml.{Lft, Share, fat}
use prog.Wp.{Env, Calls, Loops, WpFn, Tables}
use types.Logic.{Logic}
use contract.Monad.{Fun, fact, fact_i}
use types.Kit.{Item, ‵, at_ret, ⋆, ◌$◌, ◌∵◌, !, qed, rewrite}
use types.Run.{Opd, size_lit, look, look_raw, init, stop, hop, fld, from, load, lit, of_opd, bin, assigns, assigns_last, first, branches, exec}
use types.Part.{whole, sub, look_in}
use sound.WpLaws.{WpFn-mono}
use denote.RattleType.{RattleType, RowLaws}
use denote.Memory.{mem, lone, pointee}
use denote.Param.{bounded}
use denote.Slice.{slice_ty, Room}
use denote.Index.{place_is}
use denote.Struct.Struct.{Plains, Struct, Struct-row_laws}
use denote.Struct.Recorded.{Recorded-row_laws}
use denote.Struct.Declared.{Declared, fields, row, shape}
use denote.Struct.Laws as LL
use denote.Triple.Spec.{Meets}
use denote.Triple.Clauses.{Clauses, closing}
use Rattle.lent.proofs.Plain.{Plain, Fits, plain-struct, plain-uint, machine}
use Rattle.lent.proofs.Refs.{Ref, seen-slice, Locs, Helds, items, pointers, Sig}
use Rattle.lent.proofs.Does.{After, ended}
use Rattle.lent.proofs.Meets.{meets}
use Rattle.lent.proofs.Frame.{env_of, begins, finishes, var}
use Rattle.lent.proofs.Open.{looks-elem, shuts-elem, place-fits}

-- the MIR of the one with a type parameter. A bound's proof is passed, and the parameter has a lifetime that the reference's is within
abbrev pub any-function : Fn
any-function = record {
  lifetimes = 1;
  outlives = (1, 0) ∷ [];
  ty_params = a_type ∷ [];
  givens = 1;
  params = 3;
  locals = local (ty_param 0) value_local ∷ local (slice_ty (ty_ref (named 0) imm (ty_param 0))) value_local ∷ local (ty_int w64) value_local ∷ local (ty_param 0) value_local
      ∷ local (ty_int w64) value_local ∷ local ty_bool value_local ∷ local (ty_param 0) value_local ∷ local (ty_int w64) value_local ∷ local ty_ptr value_local ∷ local (ty_param 0) value_local ∷ [];
  body = seq (assign (place 4 []) (rv_opd (copy (place 1 (field 1 ∷ [])))))
      (seq (assign (place 5 []) (op2 (lt unsigned) (copy (place 2 [])) (copy (place 4 []))))
      (seq (cond (copy (place 5 [])) (seq (assign (place 7 []) (op2 (mul unsigned) (copy (place 2 [])) (size_of (ty_param 0))))
      (seq (assign (place 8 []) (op2 offset (copy (place 1 (field 0 ∷ []))) (copy (place 7 []))))
      (seq (assign (place 9 []) (rv_opd (copy (place 8 (deref (ty_param 0) ∷ [])))))
      (assign (place 6 []) (rv_opd (copy (place 9 []))))))) (assign (place 6 []) (rv_opd (copy (place 3 [])))))
      (seq (assign (place 0 []) (rv_opd (copy (place 6 [])))) return)));
}

module _ (S : Declared) (L : LL.Laws S) (cp : LL.Copyables S.parts) (pl : Plains (fields S)) (small : Holds (ltb (mem (row S)).size (2 ^ 64))) where
  abbrev R : RattleType
  R = row S

  abbrev P : Plain
  P = plain-struct S L cp pl

  -- what a `&` to it says can be said twice
  pub row-laws : RowLaws R
  row-laws = Recorded-row_laws (Struct (shape S)) S.D S.to S.to_one (Struct-row_laws (shape S) (LL.copy_row_laws S.parts cp))

  abbrev rs : List Ref
  rs = seen-slice R row-laws ∷ []

  abbrev ps : List Plain
  ps = plain-uint w64 ∷ P ∷ []

  abbrev clauses : {M : Type 1} (𝓤 : Ura M) → Clauses 𝓤 (Sig rs ps P)
  clauses 𝓤 κs a = record { ghost = Unit {0}; requires = λ _. emp 𝓤; ensures = λ _ r e. fact 𝓤 (r ≡ get_or a.0.now a.1.0 a.1.1.0) }

  -- that a run meets it
  abbrev pub Looks : {M : Type 1} {𝓤 : Ura M} (𝓛 : Logic 𝓤) → Fun 𝓤 → Type 1
  Looks {𝓤 = 𝓤} 𝓛 run = Meets 𝓛 (Sig rs ps P).signature run (closing 𝓛 (Sig rs ps P) (clauses 𝓤))

  abbrev rest : Body
  rest = seq (assign (place 0 []) (rv_opd (copy (place 6 [])))) return

  -- ρ is what the reference is written to refer to
  abbrev locals : Ty → List Local
  locals ρ = local (lone R.mir) value_local ∷ local (slice_ty (ty_ref (named 0) imm ρ)) value_local ∷ local (ty_int w64) value_local ∷ local (lone R.mir) value_local
      ∷ local (ty_int w64) value_local ∷ local ty_bool value_local ∷ local (lone R.mir) value_local ∷ local (ty_int w64) value_local ∷ local ty_ptr value_local ∷ local (lone R.mir) value_local ∷ []

  -- and sz gives the size of an element
  abbrev form : List (ℕ × ℕ) → Ty → Operand → Fn
  form out ρ sz = record {
    lifetimes = 1;
    outlives = out;
    ty_params = [];
    givens = 0;
    params = 3;
    locals = locals ρ;
    body = seq (assign (place 4 []) (rv_opd (copy (place 1 (field 1 ∷ [])))))
        (seq (assign (place 5 []) (op2 (lt unsigned) (copy (place 2 [])) (copy (place 4 []))))
        (seq (cond (copy (place 5 [])) (seq (assign (place 7 []) (op2 (mul unsigned) (copy (place 2 [])) sz))
        (seq (assign (place 8 []) (op2 offset (copy (place 1 (field 0 ∷ []))) (copy (place 7 []))))
        (seq (assign (place 9 []) (rv_opd (copy (place 8 (deref (lone R.mir) ∷ [])))))
        (assign (place 6 []) (rv_opd (copy (place 9 []))))))) (assign (place 6 []) (rv_opd (copy (place 3 []))))) rest));
  }

  abbrev function : Fn
  function = form [] (pointee R.written) (int w64 (mem R).size)

  -- `any-function` at S, with the proof e of the bound as it is passed
  abbrev instance : Dict → Fn
  instance e = inst_fn (bounded (a_type ∷ []) (R, tt) (dcons e dnil)) any-function

  module _ {M : Type 1} {𝓤 : Ura M} (𝓛 : Logic 𝓤) (C : Calls 𝓤 𝓛.H) (Λ : Loops 𝓤 𝓛.H) (out : List (ℕ × ℕ)) (ρ : Ty) (sz : Operand) (sizes : (K : Type 0) (Γ : List (Item 𝓤)) (E : Env 𝓤 𝓛.H) → K → Opd K 𝓛 Γ E sz (vint w64 (mem R).size)) (b o : ℕ) (κ : Lft) (q : Share) (ys : List S.D) (i : ℕ) (d : S.D) (room : Room R (length ys)) (gi : i < 2 ^ 64) (gd : Fits P d) where
    open 𝓛 use {H}

    abbrev ls : Locs rs
    ls = (record { b = b; o = o; n = length ys; γ = 0; κ = κ; q = q }, tt)

    abbrev Good : S.D → Helds rs → Type 0
    Good r zs = r ≡ get_or ys i d

    abbrev Post : Val → SProp 𝓤
    Post = After 𝓛 rs ls P Good

    walk : ent 𝓤 (⋆ 𝓛 (items rs ls (ys, tt))) (WpFn 𝓤 H C Λ (form out ρ sz) (pointers rs ls ++ machine ps (i, (d, tt))) (After 𝓛 rs ls P Good))
    walk =
        qed 𝓛 (items rs ls (ys, tt)) ∵ begins ! C Λ (form out ρ sz) _ _ _ refl (pointers rs ls ++ machine ps (i, (d, tt))) ((tt, (tt, (record { fits = room.0 }, tt))), ((tt, record { fits = gi }), (P.typed 𝓛 d gd, tt))) _ _ (λ bs.
        -- [xs; κ's token; _0; …; _9; …]: local i stands at 2 + 2i
        assigns ! (of_opd ! (load ! (from ! (fld ! refl (stop !))) (look_in ! 4 (sub ! 1 refl (whole !))))) (from ! (stop !)) (init ! 10 refl (tt, record { fits = room.0 })) $
        assigns ! (bin ! (var ! 6 refl) (var ! 10 refl) tt) (from ! (stop !)) (init ! 12 refl (tt, tt)) $
        let E : Env 𝓤 H = env_of H (locals ρ) bs in
        first ! $ branches ! (var ! 12 refl)
        (λ yes'. let l : i < length ys = ltb→lt i (length ys) yes' in
        assigns ! (bin ! (var ! 6 refl) (sizes _ _ _ !) (record { fits = place-fits i (length ys) (mem R).size l room.1 })) (from ! (stop !)) (init ! 16 refl (tt, record { fits = place-fits i (length ys) (mem R).size l room.1 })) $
        assigns ! (bin ! (load ! (from ! (fld ! refl (stop !))) (look_in ! 4 (sub ! 0 refl (whole !)))) (var ! 16 refl) tt) (from ! (stop !)) (init ! 18 refl (tt, tt)) $
        rewrite ! 18 (λ (p : ℕ). ‵ (fat full_share ty_ptr bs.1.1.1.1.1.1.1.1.0 0 (vptr b p))) (sym (place_is (mem R).size o i)) refl $
        looks-elem ! tt S L cp ys i d l (λ q' told was.
        assigns ! (of_opd ! (load ! (from ! (hop ! (look ! 18 refl) (stop !))) (look_raw ! 0 refl))) (from ! (stop !)) (init ! 20 refl (P.typed 𝓛 (get_or ys i d) was)) $
        shuts-elem ! tt S L pl q' ys i d (LL.vals S L (get_or ys i d)) _ l told was $
        assigns_last ! (of_opd ! (var ! 20 refl)) (from ! (stop !)) (init ! 14 refl (P.typed 𝓛 (get_or ys i d) was)) $ exec ! C Λ E rest (at_ret E Post) $
        assigns ! (of_opd ! (var ! 14 refl)) (from ! (stop !)) (init ! 2 refl (P.typed 𝓛 (get_or ys i d) was)) $
        finishes ! (items rs ls (ys, tt)) (locals ρ) bs (some _ ∷ some _ ∷ some _ ∷ some _ ∷ some _ ∷ some _ ∷ some _ ∷ some _ ∷ some _ ∷ some _ ∷ []) (look ! 2 refl) (ended 𝓛 rs ls P Good (get_or ys i d) (ys, tt) was refl)))
        (λ no'. assigns_last ! (of_opd ! (var ! 8 refl)) (from ! (stop !)) (init ! 14 refl (P.typed 𝓛 d gd)) $ exec ! C Λ E rest (at_ret E Post) $
        assigns ! (of_opd ! (var ! 14 refl)) (from ! (stop !)) (init ! 2 refl (P.typed 𝓛 d gd)) $
        finishes ! (items rs ls (ys, tt)) (locals ρ) bs (some _ ∷ some _ ∷ some _ ∷ some _ ∷ some _ ∷ some _ ∷ some _ ∷ []) (look ! 2 refl) (ended 𝓛 rs ls P Good d (ys, tt) gd (sym (get_or-eq_default ys d (nltb→le i (length ys) no'))))))

  meets-at : {M : Type 1} {𝓤 : Ura M} (𝓛 : Logic 𝓤) (𝓣 : Tables 𝓤 𝓛.H) (out : List (ℕ × ℕ)) (ρ : Ty) (sz : Operand) → ((K : Type 0) (Γ : List (Item 𝓤)) (E : Env 𝓤 𝓛.H) → K → Opd K 𝓛 Γ E sz (vint w64 (mem R).size))
      → Meets 𝓛 (Sig rs ps P).signature (WpFn 𝓤 𝓛.H 𝓣.C 𝓣.Λ (form out ρ sz)) (closing 𝓛 (Sig rs ps P) (clauses 𝓤))
  meets-at {𝓤 = 𝓤} 𝓛 𝓣 out ρ sz sizes = meets 𝓛 rs ps P (clauses 𝓤) _ (WpFn-mono 𝓤 𝓛.H 𝓛.laws 𝓣 (form out ρ sz)) (λ xs a r zs. r ≡ get_or xs.0 a.0 a.1.0) (λ κs a g r zs e. fact_i 𝓤 _ _ e)
      (λ κs qs a g told fits. via 𝓤 _ (fst∗ 𝓤 _ (emp 𝓤)) (walk 𝓛 𝓣.C 𝓣.Λ out ρ sz sizes a.0.ref_ptr.0 a.0.ref_ptr.1 κs.0 qs.0 a.0.now a.1.0 a.1.1.0 told.0.1 fits.0.1 fits.1.0))

  pub look-meets : {M : Type 1} {𝓤 : Ura M} (𝓛 : Logic 𝓤) (𝓣 : Tables 𝓤 𝓛.H) → Meets 𝓛 (Sig rs ps P).signature (WpFn 𝓤 𝓛.H 𝓣.C 𝓣.Λ function) (closing 𝓛 (Sig rs ps P) (clauses 𝓤))
  look-meets 𝓛 𝓣 = meets-at 𝓛 𝓣 [] (pointee R.written) (int w64 (mem R).size) (λ K Γ E t. lit t small)

  pub look-any-meets : {M : Type 1} {𝓤 : Ura M} (𝓛 : Logic 𝓤) (𝓣 : Tables 𝓤 𝓛.H) (e : Dict) → Meets 𝓛 (Sig rs ps P).signature (WpFn 𝓤 𝓛.H 𝓣.C 𝓣.Λ (instance e)) (closing 𝓛 (Sig rs ps P) (clauses 𝓤))
  look-any-meets 𝓛 𝓣 e = meets-at 𝓛 𝓣 ((1, 0) ∷ []) (ty_param 0) (size_of (lone R.mir)) (λ K Γ E t. size_lit t (record { fits = ltb→lt (mem R).size (2 ^ 64) small }))
