-- An element of a live `&mut [S]`, S a struct of plain data, lent to a call as a `&mut S` where it stands, and taken back at its new value: `lends-elem`, `backs-elem`.
-- `elem-meets`: `fn at(xs: &mut [S], i: usize, a, b, c) -> T { if i < xs.len() { act(&mut xs[i], a, b, c) } else { let d = none(); past(d, a, b, c) } }` at any S and plain types, once for all: the walk of its MIR.
-- It meets `result ≡ f (get_or xs.old i d) ..` and `xs.new ≡ set xs.old i (z (get_or xs.old i d) ..)`, where `act` makes f and leaves z, and `past` makes f. Assumes `Logic`.
use mathlib.Core.Path.{◌≡◌, refl, sym, ap}
use mathlib.Core.Option.{some, none}
use Prim.Native.Nat.{ℕ, ◌<◌, ◌^◌}
use mathlib.Core.List.{[], ◌∷◌, List, ◌++◌}
use lib.Dec.{T as Yes, ltb, ltb→lt, nltb→le}
use lib.ListN.{length, get_or, set, get_or-eq_default}
use seplogic.Ra.Ura.{Ura}
use base.Fraction.{full_share}
use mir.Syntax.{Callee, Fn, Body, Local, named, erased, mut, unsigned, w64, ty_int, ty_bool, ty_ptr, ty_ref, deref, field, place, copy, int, local, value_local, seq, assign, call, cond, return, rv_opd, addr_of, op2, mul, offset, lt}
use mir.Val.{Val, vptr}
use base.Logic.{SProp, ent, emp, via, fst∗}
use base.Fml.{GName, Lft, Share, Fml, fsep, fat, flft, flent, fres, fbor}
use prog.Wp.{Env, Tables, WpFn}
use types.Logic.{Logic, sem}
use contract.Monad.{fact, fact_i}
use types.Kit.{Goal, Soaks, Seq, Step, step, Item, ‵, ◌⊛◌, later, some as exist, at_ret, ⋆, ◌$◌, ◌∵◌, !, qed, move, drop, use1, use2, use3, split, pick, fsplit, fjoin, fpick, fpack, await, rewrite, done}
use types.Run.{look, init, stop, hop, fld, from, load, lit, addr, of_opd, bin, and_then, no_more, assigns, first, branches, exec, land, land_last}
use types.Part.{whole, sub, look_in}
use types.Tokens.{lft_new, lft_end}
use types.SemTy.{Body as Holds}
use sound.WpLaws.{fm_of, WpFn-mono}
use denote.RattleType.{RattleType}
use denote.Laws.{Is, shows}
use denote.Memory.{mem, lone, pointee, cell_at, part_of}
use denote.Slice.{slice_ty, Room}
use denote.Index.{place as spot, place_is}
use denote.Lend as Lend
use denote.Signature.{plain}
use denote.Steps.{owned, peeks}
use denote.Struct.Struct.{Plains}
use denote.Struct.Declared.{Declared, fields, row}
use denote.Struct.Laws as LL
use denote.Triple.Spec.{Meets}
use denote.Triple.Clauses.{Clauses, closing}
use denote.Triple.Walked.{Goes-ref}
use Rattle.lent.proofs.Plain.{Plain, Fits, Values, FitsAll, plain-struct, plain-uint, machine}
use Rattle.lent.proofs.Refs.{Ref, slice, cell, Loc, Live, ref-at, Locs, Helds, items, pointers, Sig}
use Rattle.lent.proofs.Does.{And, After, Does, Gives, ended, calls_last, calls-value, calls-value-last}
use Rattle.lent.proofs.Meets.{meets}
use Rattle.lent.proofs.Frame.{env_of, begins, finishes, var}
use Rattle.lent.proofs.Open.{live, Told, Away, opens-elem, closes-elem, place-fits}
use Rattle.lent.proofs.Put.{set_past}

-- the element as a reference of its own
abbrev pub elem-loc : ℕ → ℕ → ℕ → GName → Loc
elem-loc b o ν δ = record { b = b; o = o; n = 0; γ = δ; κ = ν ∷ []; q = full_share }

-- what says that it comes back
abbrev pub Out-elem : RattleType → ℕ → ℕ → ℕ → GName → Fml
Out-elem R b o ν δ = flent (ν ∷ []) (Holds (mem R) b o δ)

module _ {M : Type 1} {𝓤 : Ura M} (𝓛 : Logic 𝓤) (R : RattleType) (b o : ℕ) where
  elem_in : (y : R.Denot) (vs : List Val) → ent 𝓤 (⋆ 𝓛 (‵ (cell_at full_share R.mir vs b o) ∷ ‵ (R.own_val y vs) ∷ [])) (sem 𝓛 ((mem R).own_at y b o))
  unfolding part_of
  elem_in y vs = qed 𝓛 (‵ (cell_at full_share R.mir vs b o) ∷ ‵ (R.own_val y vs) ∷ []) ∵ fjoin ! $ fpack ! (List Val) (λ us. fsep (cell_at full_share R.mir us b o) (R.own_val y us)) vs $ done !

module _ {M : Type 1} {𝓤 : Ura M} {𝓛 : Logic 𝓤} {K : Type 0} {Γ : List (Item 𝓤)} {G : Goal 𝓤 𝓛.H} where
  -- the reference and its token stand first, then the slice's two entries
  pub lends-elem : K → Soaks G → (S : Declared) (L : LL.Laws S) → Plains (fields S) → {κ : Lft} {q : Share} {γ : GName} {b o : ℕ} {vs : List Val} (ys : List S.D) (i : ℕ) (d : S.D) → i < length ys
      → ((ν : ℕ) (δ : GName) → Told (row S) b o ys vs → Seq K 𝓛 (‵ (Live (cell (row S)) (elem-loc b (spot (mem (row S)).size o i) ν δ) (get_or ys i d)) ∷ ‵ (flft (ν ∷ []) full_share) ∷ ‵ (Out-elem (row S) b (spot (mem (row S)).size o i) ν δ) ∷ ‵ (Away (row S) κ q γ b o ys i) ∷ Γ) G)
      → Seq K 𝓛 (‵ (live (row S) κ γ b o ys vs) ∷ ‵ (flft κ q) ∷ Γ) G
  lends-elem t z S L pl {b = b} {o} ys i d l k =
      opens-elem t z S L ys i d l (λ told was. owned t (row S) (Is (row S)) (LL.makes S pl 𝓛) (get_or ys i d) (LL.vals S L (get_or ys i d)) was $ move t (1 ∷ 0 ∷ []) $
      use2 𝓛 (‵ ((mem (row S)).own_at (get_or ys i d) b (spot (mem (row S)).size o i))) (elem_in 𝓛 (row S) b (spot (mem (row S)).size o i) (get_or ys i d) (LL.vals S L (get_or ys i d))) $ lft_new t z (λ ν. move t (1 ∷ []) $
      use1 𝓛 (later (exist (λ (δ : GName). ‵ (Live (cell (row S)) (elem-loc b (spot (mem (row S)).size o i) ν δ) (get_or ys i d)) ⊛ ‵ (Out-elem (row S) b (spot (mem (row S)).size o i) ν δ)))) (Lend.lends_ref 𝓛 (row S) erased (ν ∷ []) (get_or ys i d) b (spot (mem (row S)).size o i)) $ await t z $
      pick t (λ δ. split t $ move t (0 ∷ 2 ∷ 1 ∷ []) $ k ν δ told)))

  pub backs-elem : K → Soaks G → (S : Declared) (L : LL.Laws S) → Plains (fields S) → {κ : Lft} {q : Share} {γ : GName} {b o : ℕ} {ν : ℕ} {δ : GName} (ys : List S.D) (i : ℕ) (y : S.D) (vs : List Val) → i < length ys → Told (row S) b o ys vs
      → Step K 𝓛 (‵ (live (row S) κ γ b o (set ys i y) vs) ∷ ‵ (flft κ q) ∷ Γ) G (‵ (Live (cell (row S)) (elem-loc b (spot (mem (row S)).size o i) ν δ) y) ∷ ‵ (flft (ν ∷ []) full_share) ∷ ‵ (Out-elem (row S) b (spot (mem (row S)).size o i) ν δ) ∷ ‵ (Away (row S) κ q γ b o ys i) ∷ Γ) G
  unfolding part_of
  backs-elem t z S L pl {b = b} {o} {ν} {δ} ys i y vs l told = step (λ s.
      use1 𝓛 (later (‵ (fsep (fres δ ((row S).coded.code y)) (fbor (ν ∷ []) (Holds (mem (row S)) b (spot (mem (row S)).size o i) δ))))) (Goes-ref 𝓛 1 0 tt (plain (λ _. row S)) (ν ∷ [], tt) (ref-at (elem-loc b (spot (mem (row S)).size o i) ν δ) y) y _ tt) $ await t z $ fsplit t $ move t (1 ∷ []) $ drop t $ move t (1 ∷ []) $ lft_end t z $ move t (0 ∷ 2 ∷ 1 ∷ []) $
      use3 𝓛 (later (‵ ((mem (row S)).own_at y b (spot (mem (row S)).size o i)))) (Lend.ref_back 𝓛 (row S) (ν ∷ []) δ y b (spot (mem (row S)).size o i)) $ await t z $ fpick t (λ us. fsplit t $ move t (1 ∷ []) $
      peeks t (row S) (Is (row S)) (shows 𝓛 (row S)) y us (λ is. drop t $ closes-elem t z S L pl ys i y us vs l told is $ s)))

module _ (S : Declared) (L : LL.Laws S) (cp : LL.Copyables S.parts) (pl : Plains (fields S)) (small : Yes (ltb (mem (row S)).size (2 ^ 64))) (P1 P2 P3 res : Plain) (act none_of past : Callee) where
  abbrev R : RattleType
  R = row S

  abbrev P : Plain
  P = plain-struct S L cp pl

  abbrev rs : List Ref
  rs = slice R ∷ []

  abbrev one : List Ref
  one = cell R ∷ []

  abbrev more : List Plain
  more = P1 ∷ P2 ∷ P3 ∷ []

  abbrev ps : List Plain
  ps = plain-uint w64 ∷ more

  abbrev rest : Body
  rest = seq (assign (place 0 []) (rv_opd (copy (place 9 [])))) return

  abbrev locals : List Local
  locals = local (lone res.of.mir) value_local ∷ local (slice_ty (ty_ref (named 0) mut (pointee R.written))) value_local ∷ local (ty_int w64) value_local ∷ local (lone P1.of.mir) value_local ∷ local (lone P2.of.mir) value_local ∷ local (lone P3.of.mir) value_local
      ∷ local (lone R.mir) value_local ∷ local (ty_int w64) value_local ∷ local ty_bool value_local ∷ local (lone res.of.mir) value_local ∷ local (ty_int w64) value_local ∷ local ty_ptr value_local ∷ local (ty_ref erased mut (pointee R.written)) value_local ∷ []

  abbrev function : Fn
  function = record {
    lifetimes = 1;
    outlives = [];
    ty_params = [];
    givens = 0;
    params = 5;
    locals = locals;
    body = seq (assign (place 7 []) (rv_opd (copy (place 1 (field 1 ∷ [])))))
        (seq (assign (place 8 []) (op2 (lt unsigned) (copy (place 2 [])) (copy (place 7 []))))
        (seq (cond (copy (place 8 [])) (seq (assign (place 10 []) (op2 (mul unsigned) (copy (place 2 [])) (int w64 (mem R).size)))
        (seq (assign (place 11 []) (op2 offset (copy (place 1 (field 0 ∷ []))) (copy (place 10 []))))
        (seq (assign (place 12 []) (addr_of (place 11 (deref (lone R.mir) ∷ []))))
        (call act (copy (place 12 []) ∷ copy (place 3 []) ∷ copy (place 4 []) ∷ copy (place 5 []) ∷ []) (place 9 [])))))
        (seq (call none_of [] (place 6 [])) (call past (copy (place 6 []) ∷ copy (place 3 []) ∷ copy (place 4 []) ∷ copy (place 5 []) ∷ []) (place 9 [])))) rest));
  }

  module _ (d : S.D) (f : S.D → Values more → res.of.Denot) (z : S.D → Values more → S.D) where
    abbrev clauses : {M : Type 1} (𝓤 : Ura M) → Clauses 𝓤 (Sig rs ps res)
    clauses 𝓤 κs a = record { ghost = Unit {0}; requires = λ _. emp 𝓤; ensures = λ _ r e. fact 𝓤 ((r ≡ f (get_or a.0.now a.1.0 d) (a.1.1.0, (a.1.1.1.0, (a.1.1.1.1.0, tt)))) × (e.0.now ≡ set a.0.now a.1.0 (z (get_or a.0.now a.1.0 d) (a.1.1.0, (a.1.1.1.0, (a.1.1.1.1.0, tt)))))) }

    module _ {M : Type 1} {𝓤 : Ura M} (𝓛 : Logic 𝓤) (𝓣 : Tables 𝓤 𝓛.H)
        (acts : (l : Loc) (y : S.D) (a : Values more) → FitsAll more a → Does 𝓛 𝓣.C act one (l, tt) (y, tt) (pointers one (l, tt) ++ machine more a) res (λ w zs. And one (w ≡ f y a) zs (z y a, tt)))
        (nones : Gives 𝓛 𝓣.C none_of [] P (λ w. w ≡ d))
        (pasts : (a : Values more) → Fits P d → FitsAll more a → Gives 𝓛 𝓣.C past (P.val d ∷ machine more a) res (λ w. w ≡ f d a)) where
      open 𝓛 use {H}

      module _ (b o : ℕ) (γ : GName) (κ : Lft) (q : Share) (ys : List S.D) (i : ℕ) (a : Values more) (room : Room R (length ys)) (gi : i < 2 ^ 64) (ga : FitsAll more a) where
        abbrev ls : Locs rs
        ls = (record { b = b; o = o; n = length ys; γ = γ; κ = κ; q = q }, tt)

        abbrev Good : res.of.Denot → Helds rs → Type 0
        Good r zs = (r ≡ f (get_or ys i d) a) × (zs.0 ≡ set ys i (z (get_or ys i d) a))

        abbrev Post : Val → SProp 𝓤
        Post = After 𝓛 rs ls res Good

        walk : ent 𝓤 (⋆ 𝓛 (items rs ls (ys, tt))) (WpFn 𝓤 H 𝓣.C 𝓣.Λ function (pointers rs ls ++ machine ps (i, a)) Post)
        walk =
            qed 𝓛 (items rs ls (ys, tt)) ∵ begins ! 𝓣.C 𝓣.Λ function _ _ _ refl (pointers rs ls ++ machine ps (i, a)) ((tt, (tt, (record { fits = room.0 }, tt))), ((tt, record { fits = gi }), (P1.typed 𝓛 a.0 ga.0, (P2.typed 𝓛 a.1.0 ga.1.0, (P3.typed 𝓛 a.1.1.0 ga.1.1.0, tt))))) _ _ (λ bs.
            -- [xs; κ's token; _0; …; _12; …]: local i stands at 2 + 2i
            assigns ! (of_opd ! (load ! (from ! (fld ! refl (stop !))) (look_in ! 4 (sub ! 1 refl (whole !))))) (from ! (stop !)) (init ! 16 refl (tt, record { fits = room.0 })) $
            assigns ! (bin ! (var ! 6 refl) (var ! 16 refl) tt) (from ! (stop !)) (init ! 18 refl (tt, tt)) $
            let E : Env 𝓤 H = env_of H locals bs in
            first ! $ branches ! (var ! 18 refl)
            (λ yes'. let l : i < length ys = ltb→lt i (length ys) yes' in
            assigns ! (bin ! (var ! 6 refl) (lit ! small) (record { fits = place-fits i (length ys) (mem R).size l room.1 })) (from ! (stop !)) (init ! 22 refl (tt, record { fits = place-fits i (length ys) (mem R).size l room.1 })) $
            assigns ! (bin ! (load ! (from ! (fld ! refl (stop !))) (look_in ! 4 (sub ! 0 refl (whole !)))) (var ! 22 refl) tt) (from ! (stop !)) (init ! 24 refl (tt, tt)) $
            rewrite ! 24 (λ (p : ℕ). ‵ (fat full_share ty_ptr bs.1.1.1.1.1.1.1.1.1.1.1.0 0 (vptr b p))) (sym (place_is (mem R).size o i)) refl $
            assigns ! (addr ! (from ! (hop ! (look ! 24 refl) (stop !)))) (from ! (stop !)) (init ! 26 refl (tt, tt)) $
            -- the element is out: local i stands at 4 + 2i
            lends-elem ! tt S L pl ys i d l (λ ν δ told.
            calls_last ! (fm_of 𝓤 H 𝓛.laws 𝓣) (cell R) [] (elem-loc b (spot (mem R).size o i) ν δ, tt) (get_or ys i d, tt) (z (get_or ys i d) a, tt) refl _ res (f (get_or ys i d) a) (acts (elem-loc b (spot (mem R).size o i) ν δ) (get_or ys i d) a ga)
            (λ x. and_then ! (var ! 28 refl) (and_then ! (var ! 10 refl) (and_then ! (var ! 12 refl) (and_then ! (var ! 14 refl) (no_more !))))) (λ r.
            land_last ! (from ! (stop !)) (init ! 22 refl (res.typed 𝓛 (f (get_or ys i d) a) r)) $ exec ! 𝓣.C 𝓣.Λ E rest (at_ret E Post) $
            backs-elem ! tt S L pl ys i (z (get_or ys i d) a) _ l told $
            assigns ! (of_opd ! (var ! 20 refl)) (from ! (stop !)) (init ! 2 refl (res.typed 𝓛 (f (get_or ys i d) a) r)) $
            finishes ! (items rs ls (set ys i (z (get_or ys i d) a), tt)) locals bs (some _ ∷ some _ ∷ some _ ∷ some _ ∷ some _ ∷ some _ ∷ none ∷ some _ ∷ some _ ∷ some _ ∷ some _ ∷ some _ ∷ some _ ∷ []) (look ! 2 refl)
            (ended 𝓛 rs ls res Good (f (get_or ys i d) a) (set ys i (z (get_or ys i d) a), tt) r (refl, refl)))))
            (λ no'. let l = nltb→le i (length ys) no' in
            calls-value ! (fm_of 𝓤 H 𝓛.laws 𝓣) _ P d nones (no_more !) (λ g.
            land ! (from ! (stop !)) (init ! 14 refl (P.typed 𝓛 d g)) $
            calls-value-last ! (fm_of 𝓤 H 𝓛.laws 𝓣) _ res (f d a) (pasts a g ga) (and_then ! (var ! 14 refl) (and_then ! (var ! 8 refl) (and_then ! (var ! 10 refl) (and_then ! (var ! 12 refl) (no_more !))))) (λ r.
            land_last ! (from ! (stop !)) (init ! 20 refl (res.typed 𝓛 (f d a) r)) $ exec ! 𝓣.C 𝓣.Λ E rest (at_ret E Post) $
            assigns ! (of_opd ! (var ! 20 refl)) (from ! (stop !)) (init ! 2 refl (res.typed 𝓛 (f d a) r)) $
            finishes ! (items rs ls (ys, tt)) locals bs (some _ ∷ some _ ∷ some _ ∷ some _ ∷ some _ ∷ some _ ∷ some _ ∷ some _ ∷ some _ ∷ some _ ∷ []) (look ! 2 refl)
            (ended 𝓛 rs ls res Good (f d a) (ys, tt) r (ap (λ (y : S.D). f y a) (sym (get_or-eq_default ys d l)), set_past ys i (z (get_or ys i d) a) l))))))

      pub elem-meets : Meets 𝓛 (Sig rs ps res).signature (WpFn 𝓤 H 𝓣.C 𝓣.Λ function) (closing 𝓛 (Sig rs ps res) (clauses 𝓤))
      elem-meets = meets 𝓛 rs ps res (clauses 𝓤) _ (WpFn-mono 𝓤 H 𝓛.laws 𝓣 function) (λ xs a r zs. (r ≡ f (get_or xs.0 a.0 d) a.1) × (zs.0 ≡ set xs.0 a.0 (z (get_or xs.0 a.0 d) a.1))) (λ κs a g r zs e. fact_i 𝓤 _ _ e)
          (λ κs qs a g told fits. via 𝓤 _ (fst∗ 𝓤 _ (emp 𝓤)) (walk a.0.ref_ptr.0 a.0.ref_ptr.1 a.0.ghost_name κs.0 qs.0 a.0.now a.1.0 (a.1.1.0, (a.1.1.1.0, (a.1.1.1.1.0, tt))) told.0.1 fits.0.1 fits.1))
