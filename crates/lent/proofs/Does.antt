-- A call as one step of a walk: of a function that takes any references (lent again for the call) and plain data, by the contract that it meets.
-- `calls`, `calls_last` where the `ensures` says the result and each last value; `calls-some`, `calls-some-last` where it says less; `calls-value`, `calls-value-last` with no reference. Assumes `Logic`.
use mathlib.Core.Path.{◌≡◌, refl, sym, ap, subst, ◌∙◌}
use Prim.Native.Nat.{ℕ, suc}
use mathlib.Core.List.{List, [], ◌∷◌, ◌++◌}
use mathlib.Core.Bool.{Bool, not}
use lib.ListN.{length}
use lib.Dec.{T as Holds}
use seplogic.Ra.Ura.{Ura}
use mir.Syntax.{Callee, Place, Opd as Operand, Body, erased, named, seq, call, cond, skip, exit}
use mir.Val.{Val, vbool}
use base.Logic.{SProp, ent, sep, emp, ex, guard, id⊢, via, mono∗, mono_l, mono_r, emp∗, fst∗, snd∗}
use base.Fml.{Lft, ftrue, feq}
use prog.Wp.{Env, Calls, Loops, eval_opds, exits}
use types.Logic.{Logic, sem}
use sound.WpLaws.{FmC}
use contract.Monad.{fact, fact_use, top}
use contract.Lifetimes.{Lfts, toks}
use types.Kit.{Item, ‵, raw, ◌⊛◌, some, later, given, mean, ⋆, pop, push, ⊢++, ++⊢, Post, post, prop, Goal, Soaks, runs, lands, settles, aim, Seq, ◌$◌, ◌∵◌, !, qed, by, move, drop, use0, use1, use2, use3, split, join, learn, pick, fsplit, fjoin, feq_i, frame, await, check, updating, now as at_once, show, done}
use types.Run.{Opd, Opds, first, branches, skips, jumps}
use denote.RattleType.{RattleType, Denots, Valss, owns, flat}
use denote.Laws.{Is, shows}
use types.SemTy.{Body as Holds-at}
use denote.Memory.{mem}
use denote.Lend as Lend
use denote.Ref.{Bor, MutRef, ShrRef}
use denote.Slice.{MutSlice, ShrSlice}
use denote.Signature.{Slot, types_at}
use denote.Steps.{only, heard, peeks}
use denote.Triple.Statement.{Contract, Triple}
use denote.Triple.Call.{calls_from, calls_from_last}
use denote.Triple.Entry.{Args}
use denote.Triple.Spec.{triple_of}
use denote.Triple.Clauses.{Ended, Clauses, Lasts, at_exit, lasts, closing}
use denote.Triple.End.{Kepts, Fins, lasts_of}
use Rattle.lent.proofs.Plain.{Plain, Fits, Values, FitsAll, machine, by_value, value-kepts, value-args, value-vals, value_owns}
use Rattle.lent.proofs.Refs.{Ref, slice, cell, seen-slice, seen-cell, Locs, Helds, seen-at, pointer, pointers, items, Alls, Tolds, gather, spread, tolds, slots, kepts, Sig, ref-args, ref-vals, ref-lasts, Marks, lifetimes, portions, lent-ats, Keeps, Said, Saids, lends-all, backs-all}

module _ {M : Type 1} {𝓤 : Ura M} (𝓛 : Logic 𝓤) where
  open 𝓛 use {A}

  -- the contract that clauses make
  abbrev pub Ctr : (T : Ended) → Clauses 𝓤 T → Contract 𝓤
  Ctr T c = triple_of 𝓛 T.signature (closing 𝓛 T c)

  -- ---- what is lent is what the callee asks on entry
  module _ {n : ℕ} (κs : Lfts n) (ps : List (Slot n)) (ks : Kepts ps) where
    at-lifetime : (R : RattleType) (x : (MutSlice erased [] R).Denot) (vs : List Val) (ν : ℕ) (i : ℕ) (κ : Lft) → κ ≡ ν ∷ [] → ent 𝓤 (sem 𝓛 ((MutSlice erased (ν ∷ []) R).own_val x vs)) (sem 𝓛 ((MutSlice (named i) κ R).own_val x vs))
    at-lifetime R x vs ν i κ e = subst (λ (κ' : Lft). ent 𝓤 (sem 𝓛 ((MutSlice erased (ν ∷ []) R).own_val x vs)) (sem 𝓛 ((MutSlice (named i) κ' R).own_val x vs))) (sym e) (id⊢ 𝓤 _)

    at-lifetime-ref : (R : RattleType) (x : (MutRef erased [] R).Denot) (vs : List Val) (ν : ℕ) (i : ℕ) (κ : Lft) → κ ≡ ν ∷ [] → ent 𝓤 (sem 𝓛 ((MutRef erased (ν ∷ []) R).own_val x vs)) (sem 𝓛 ((MutRef (named i) κ R).own_val x vs))
    at-lifetime-ref R x vs ν i κ e = subst (λ (κ' : Lft). ent 𝓤 (sem 𝓛 ((MutRef erased (ν ∷ []) R).own_val x vs)) (sem 𝓛 ((MutRef (named i) κ' R).own_val x vs))) (sym e) (id⊢ 𝓤 _)

    at-own : (R : RattleType) (x : Bor (List R.Denot)) (vs : List Val) (κ₀ : Lft) (i : ℕ) (κ : Lft) → κ ≡ κ₀ → ent 𝓤 (sem 𝓛 ((ShrSlice erased κ₀ R).own_val x vs)) (sem 𝓛 ((ShrSlice (named i) κ R).own_val x vs))
    at-own R x vs κ₀ i κ e = subst (λ (κ' : Lft). ent 𝓤 (sem 𝓛 ((ShrSlice erased κ₀ R).own_val x vs)) (sem 𝓛 ((ShrSlice (named i) κ' R).own_val x vs))) (sym e) (id⊢ 𝓤 _)

    at-own-ref : (R : RattleType) (x : Bor R.Denot) (vs : List Val) (κ₀ : Lft) (i : ℕ) (κ : Lft) → κ ≡ κ₀ → ent 𝓤 (sem 𝓛 ((ShrRef erased κ₀ R).own_val x vs)) (sem 𝓛 ((ShrRef (named i) κ R).own_val x vs))
    at-own-ref R x vs κ₀ i κ e = subst (λ (κ' : Lft). ent 𝓤 (sem 𝓛 ((ShrRef erased κ₀ R).own_val x vs)) (sem 𝓛 ((ShrRef (named i) κ' R).own_val x vs))) (sym e) (id⊢ 𝓤 _)

    enters : (rs : List Ref) (sel : Lfts n → Lfts (length rs)) (i : ℕ) (ls : Locs rs) (m : Marks rs) → sel κs ≡ lifetimes rs ls m → (xs : Helds rs) (a : Denots (types_at ps κs)) (vss : Valss (types_at ps κs))
        → ent 𝓤 (sep 𝓤 (sem 𝓛 (Alls rs (lent-ats rs ls m) xs)) (sem 𝓛 (owns (types_at ps κs) a vss)))
        (sep 𝓤 (toks 𝓛 (length rs) (lifetimes rs ls m) (portions rs ls m)) (sem 𝓛 (owns (types_at (slots rs sel i ps) κs) (ref-args κs ps ks rs sel i (lent-ats rs ls m) xs a) (ref-vals κs ps ks rs sel i (lent-ats rs ls m) vss))))
    enters [] sel i ls m e xs a vss = id⊢ 𝓤 _
    enters (slice R ∷ rs) sel i ls m e xs a vss =
        qed 𝓛 (‵ (Alls (slice R ∷ rs) (lent-ats (slice R ∷ rs) ls m) xs) ∷ ‵ (owns (types_at ps κs) a vss) ∷ []) ∵ fsplit ! $ move ! (1 ∷ []) $ fsplit ! $ move ! (1 ∷ 3 ∷ []) $
        use2 𝓛 (raw (toks 𝓛 (length rs) (lifetimes rs ls.1 m.1) (portions rs ls.1 m.1)) ⊛ ‵ (owns (types_at (slots rs (λ κs. (sel κs).1) (suc i) ps) κs) (ref-args κs ps ks rs (λ κs. (sel κs).1) (suc i) (lent-ats rs ls.1 m.1) xs.1 a) (ref-vals κs ps ks rs (λ κs. (sel κs).1) (suc i) (lent-ats rs ls.1 m.1) vss)))
        (enters rs (λ κs. (sel κs).1) (suc i) ls.1 m.1 (ap (λ (t : Lfts (length (slice R ∷ rs))). t.1) e) xs.1 a vss) $ split ! $ move ! (2 ∷ 0 ∷ []) $ join ! $ frame ! $ move ! (1 ∷ []) $
        use1 𝓛 (‵ ((MutSlice (named i) (sel κs).0 R).own_val (record { ref_ptr = (ls.0.b, ls.0.o); ghost_name = m.0.1; now = xs.0 }) (pointer (slice R) ls.0 ∷ []))) (at-lifetime R (record { ref_ptr = (ls.0.b, ls.0.o); ghost_name = m.0.1; now = xs.0 }) _ m.0.0 i (sel κs).0 (ap (λ (t : Lfts (length (slice R ∷ rs))). t.0) e)) $ fjoin ! $ done !
    enters (cell R ∷ rs) sel i ls m e xs a vss =
        qed 𝓛 (‵ (Alls (cell R ∷ rs) (lent-ats (cell R ∷ rs) ls m) xs) ∷ ‵ (owns (types_at ps κs) a vss) ∷ []) ∵ fsplit ! $ move ! (1 ∷ []) $ fsplit ! $ move ! (1 ∷ 3 ∷ []) $
        use2 𝓛 (raw (toks 𝓛 (length rs) (lifetimes rs ls.1 m.1) (portions rs ls.1 m.1)) ⊛ ‵ (owns (types_at (slots rs (λ κs. (sel κs).1) (suc i) ps) κs) (ref-args κs ps ks rs (λ κs. (sel κs).1) (suc i) (lent-ats rs ls.1 m.1) xs.1 a) (ref-vals κs ps ks rs (λ κs. (sel κs).1) (suc i) (lent-ats rs ls.1 m.1) vss)))
        (enters rs (λ κs. (sel κs).1) (suc i) ls.1 m.1 (ap (λ (t : Lfts (length (cell R ∷ rs))). t.1) e) xs.1 a vss) $ split ! $ move ! (2 ∷ 0 ∷ []) $ join ! $ frame ! $ move ! (1 ∷ []) $
        use1 𝓛 (‵ ((MutRef (named i) (sel κs).0 R).own_val (record { ref_ptr = (ls.0.b, ls.0.o); ghost_name = m.0.1; now = xs.0 }) (pointer (cell R) ls.0 ∷ []))) (at-lifetime-ref R (record { ref_ptr = (ls.0.b, ls.0.o); ghost_name = m.0.1; now = xs.0 }) _ m.0.0 i (sel κs).0 (ap (λ (t : Lfts (length (cell R ∷ rs))). t.0) e)) $ fjoin ! $ done !
    enters (seen-slice R L ∷ rs) sel i ls m e xs a vss =
        qed 𝓛 (‵ (Alls (seen-slice R L ∷ rs) (lent-ats (seen-slice R L ∷ rs) ls m) xs) ∷ ‵ (owns (types_at ps κs) a vss) ∷ []) ∵ fsplit ! $ move ! (1 ∷ []) $ fsplit ! $ move ! (1 ∷ 3 ∷ []) $
        use2 𝓛 (raw (toks 𝓛 (length rs) (lifetimes rs ls.1 m.1) (portions rs ls.1 m.1)) ⊛ ‵ (owns (types_at (slots rs (λ κs. (sel κs).1) (suc i) ps) κs) (ref-args κs ps ks rs (λ κs. (sel κs).1) (suc i) (lent-ats rs ls.1 m.1) xs.1 a) (ref-vals κs ps ks rs (λ κs. (sel κs).1) (suc i) (lent-ats rs ls.1 m.1) vss)))
        (enters rs (λ κs. (sel κs).1) (suc i) ls.1 m.1 (ap (λ (t : Lfts (length (seen-slice R L ∷ rs))). t.1) e) xs.1 a vss) $ split ! $ move ! (2 ∷ 0 ∷ []) $ join ! $ frame ! $ move ! (1 ∷ []) $
        use1 𝓛 (‵ ((ShrSlice (named i) (sel κs).0 R).own_val (seen-at ls.0 xs.0) (pointer (seen-slice R L) ls.0 ∷ []))) (at-own R (seen-at ls.0 xs.0) _ ls.0.κ i (sel κs).0 (ap (λ (t : Lfts (length (seen-slice R L ∷ rs))). t.0) e)) $ fjoin ! $ done !
    enters (seen-cell R L ∷ rs) sel i ls m e xs a vss =
        qed 𝓛 (‵ (Alls (seen-cell R L ∷ rs) (lent-ats (seen-cell R L ∷ rs) ls m) xs) ∷ ‵ (owns (types_at ps κs) a vss) ∷ []) ∵ fsplit ! $ move ! (1 ∷ []) $ fsplit ! $ move ! (1 ∷ 3 ∷ []) $
        use2 𝓛 (raw (toks 𝓛 (length rs) (lifetimes rs ls.1 m.1) (portions rs ls.1 m.1)) ⊛ ‵ (owns (types_at (slots rs (λ κs. (sel κs).1) (suc i) ps) κs) (ref-args κs ps ks rs (λ κs. (sel κs).1) (suc i) (lent-ats rs ls.1 m.1) xs.1 a) (ref-vals κs ps ks rs (λ κs. (sel κs).1) (suc i) (lent-ats rs ls.1 m.1) vss)))
        (enters rs (λ κs. (sel κs).1) (suc i) ls.1 m.1 (ap (λ (t : Lfts (length (seen-cell R L ∷ rs))). t.1) e) xs.1 a vss) $ split ! $ move ! (2 ∷ 0 ∷ []) $ join ! $ frame ! $ move ! (1 ∷ []) $
        use1 𝓛 (‵ ((ShrRef (named i) (sel κs).0 R).own_val (seen-at ls.0 xs.0) (pointer (seen-cell R L) ls.0 ∷ []))) (at-own-ref R (seen-at ls.0 xs.0) _ ls.0.κ i (sel κs).0 (ap (λ (t : Lfts (length (seen-cell R L ∷ rs))). t.0) e)) $ fjoin ! $ done !

    equal : (X : Type 0) (x : X) → ent 𝓤 (emp 𝓤) (sem 𝓛 (feq X x x))
    equal X x = qed 𝓛 [] ∵ feq_i ! X x x refl $ done !

    -- what a clause says at exit: the borrow that comes with a last value is let go, as the lender waits for the lifetime's end
    says_of : (rs : List Ref) (sel : Lfts n → Lfts (length rs)) (i : ℕ) (ls : Locs rs) (m : Marks rs) (xs : Helds rs) (a : Denots (types_at ps κs)) (ws : Fins κs (slots rs sel i ps) (kepts rs sel i ps ks) (ref-args κs ps ks rs sel i (lent-ats rs ls m) xs a))
        → ent 𝓤 (sem 𝓛 (lasts_of κs (slots rs sel i ps) (kepts rs sel i ps ks) (ref-args κs ps ks rs sel i (lent-ats rs ls m) xs a) ws)) (sem 𝓛 (Saids rs m xs (ref-lasts κs ps ks rs sel i (ref-args κs ps ks rs sel i (lent-ats rs ls m) xs a) ws)))
    says_of [] sel i ls m xs a ws = top 𝓤 _
    says_of (slice R ∷ rs) sel i ls m xs a ws = mono∗ 𝓤 (fst∗ 𝓤 (sem 𝓛 (Said (slice R) m.0 xs.0 ws.0)) (A.bor (sel κs).0 (Lend.Held R (length xs.0) ls.0.b ls.0.o m.0.1))) (says_of rs (λ κs. (sel κs).1) (suc i) ls.1 m.1 xs.1 a ws.1)
    says_of (cell R ∷ rs) sel i ls m xs a ws = mono∗ 𝓤 (fst∗ 𝓤 (sem 𝓛 (Said (cell R) m.0 xs.0 ws.0)) (A.bor (sel κs).0 (Holds-at (mem R) ls.0.b ls.0.o m.0.1))) (says_of rs (λ κs. (sel κs).1) (suc i) ls.1 m.1 xs.1 a ws.1)
    says_of (seen-slice R L ∷ rs) sel i ls m xs a ws = mono∗ 𝓤 (equal (List R.Denot) xs.0) (says_of rs (λ κs. (sel κs).1) (suc i) ls.1 m.1 xs.1 a ws.1)
    says_of (seen-cell R L ∷ rs) sel i ls m xs a ws = mono∗ 𝓤 (equal R.Denot xs.0) (says_of rs (λ κs. (sel κs).1) (suc i) ls.1 m.1 xs.1 a ws.1)

    passes-as : (rs : List Ref) (sel : Lfts n → Lfts (length rs)) (i : ℕ) (ls : Locs rs) (m : Marks rs) (vss : Valss (types_at ps κs)) → flat (types_at (slots rs sel i ps) κs) (ref-vals κs ps ks rs sel i (lent-ats rs ls m) vss) ≡ pointers rs ls ++ flat (types_at ps κs) vss
    passes-as [] sel i ls m vss = refl
    passes-as (slice R ∷ rs) sel i ls m vss = ap (λ (vs : List Val). pointer (slice R) ls.0 ∷ vs) (passes-as rs (λ κs. (sel κs).1) (suc i) ls.1 m.1 vss)
    passes-as (cell R ∷ rs) sel i ls m vss = ap (λ (vs : List Val). pointer (cell R) ls.0 ∷ vs) (passes-as rs (λ κs. (sel κs).1) (suc i) ls.1 m.1 vss)
    passes-as (seen-slice R L ∷ rs) sel i ls m vss = ap (λ (vs : List Val). pointer (seen-slice R L) ls.0 ∷ vs) (passes-as rs (λ κs. (sel κs).1) (suc i) ls.1 m.1 vss)
    passes-as (seen-cell R L ∷ rs) sel i ls m vss = ap (λ (vs : List Val). pointer (seen-cell R L) ls.0 ∷ vs) (passes-as rs (λ κs. (sel κs).1) (suc i) ls.1 m.1 vss)

flat-values : (n : ℕ) (κs : Lfts n) (ps : List Plain) (a : Values ps) → flat (types_at (by_value n ps) κs) (value-vals n κs ps a) ≡ machine ps a
flat-values n κs [] a = refl
flat-values n κs (P ∷ ps) a = ap (λ (vs : List Val). P.val a.0 ∷ vs) (flat-values n κs ps a.1)

-- each last value is the one that z has. It is shaped as an `ensures` states it
abbrev pub Same : (rs : List Ref) → Helds rs → Helds rs → Type 0
Same [] zs z = Unit {0}
Same (r ∷ []) zs z = zs.0 ≡ z.0
Same (r ∷ r' ∷ rs) zs z = (zs.0 ≡ z.0) × Same (r' ∷ rs) zs.1 z.1

abbrev pub And : (rs : List Ref) → Type 0 → Helds rs → Helds rs → Type 0
And [] φ zs z = φ
And (r ∷ rs) φ zs z = φ × Same (r ∷ rs) zs z

same : (rs : List Ref) (zs z : Helds rs) → Same rs zs z → zs ≡ z
same [] zs z e = refl
same (r ∷ []) zs z e = λ i. (e i, tt)
same (r ∷ r' ∷ rs) zs z e = λ i. (e.0 i, same (r' ∷ rs) zs.1 z.1 e.1 i)

both : (rs : List Ref) (φ : Type 0) (zs z : Helds rs) → And rs φ zs z → φ × (zs ≡ z)
both [] φ zs z e = (e, refl)
both (r ∷ rs) φ zs z e = (e.0, same (r ∷ rs) zs z e.1)

-- what there is after a call: a result r, its machine value u, and last values zs, of which φ holds; and the references at zs
abbrev pub After : {M : Type 1} {𝓤 : Ura M} (𝓛 : Logic 𝓤) (rs : List Ref) → Locs rs → (res : Plain) → (res.of.Denot → Helds rs → Type 0) → Val → SProp 𝓤
After {𝓤 = 𝓤} 𝓛 rs ls res φ u = 𝓛.H.⇛ (ex 𝓤 (λ (r : res.of.Denot). ex 𝓤 (λ (zs : Helds rs). guard 𝓤 (((u ≡ res.val r) × Fits res r) × φ r zs) (sem 𝓛 (Alls rs ls zs)))))

-- the call of k at vs, with the references at xs. Where there are some an update comes first, as they are lent
abbrev pub Does : {M : Type 1} {𝓤 : Ura M} (𝓛 : Logic 𝓤) → Calls 𝓤 𝓛.H → Callee → (rs : List Ref) → Locs rs → Helds rs → List Val → (res : Plain) → (res.of.Denot → Helds rs → Type 0) → Type 1
Does {𝓤 = 𝓤} 𝓛 C k rs ls xs vs res φ = ent 𝓤 (sem 𝓛 (Alls rs ls xs)) (𝓛.H.⇛ (C k vs (After 𝓛 rs ls res φ)))

abbrev pub Gives : {M : Type 1} {𝓤 : Ura M} (𝓛 : Logic 𝓤) → Calls 𝓤 𝓛.H → Callee → List Val → (res : Plain) → (res.of.Denot → Type 0) → Type 1
Gives {𝓤 = 𝓤} 𝓛 C k vs res φ = ent 𝓤 (emp 𝓤) (C k vs (After 𝓛 [] tt res (λ r zs. φ r)))

-- ---- the call, from the callee's triple
module _ {M : Type 1} {𝓤 : Ura M} (𝓛 : Logic 𝓤) (C : Calls 𝓤 𝓛.H) (fm : FmC 𝓤 𝓛.H 𝓛.laws C) (k : Callee) (rs : List Ref) (ps : List Plain) (res : Plain) (c : Clauses 𝓤 (Sig rs ps res)) (known : Triple 𝓤 (C k) (Ctr 𝓛 (Sig rs ps res) c))
    (ls : Locs rs) (xs : Helds rs) (a : Values ps) (fits : FitsAll ps a) where
  open 𝓛 use {H}

  abbrev n : ℕ
  n = length rs

  abbrev pub passed : (m : Marks rs) → Args (Sig rs ps res).signature (lifetimes rs ls m)
  passed m = ref-args (lifetimes rs ls m) (by_value n ps) (value-kepts n ps) rs (λ κs. κs) 0 (lent-ats rs ls m) xs (value-args n (lifetimes rs ls m) ps a)

  abbrev pub lasts-in : (m : Marks rs) → Lasts (Sig rs ps res) (lifetimes rs ls m) (passed m) → Helds rs
  lasts-in m ws = ref-lasts (lifetimes rs ls m) (by_value n ps) (value-kepts n ps) rs (λ κs. κs) 0 (passed m) ws

  module _ (g : (m : Marks rs) → (c (lifetimes rs ls m) (passed m)).ghost) (req : (m : Marks rs) → ent 𝓤 (emp 𝓤) ((c (lifetimes rs ls m) (passed m)).requires (g m))) (φ : res.of.Denot → Helds rs → Type 0)
      (told : (m : Marks rs) (r : res.of.Denot) (ws : Lasts (Sig rs ps res) (lifetimes rs ls m) (passed m)) → ent 𝓤 ((c (lifetimes rs ls m) (passed m)).ensures (g m) r (at_exit (Sig rs ps res) (lifetimes rs ls m) (passed m) ws)) (fact 𝓤 (φ r (lasts-in m ws)))) where
    abbrev y : (m : Marks rs) → (Ctr 𝓛 (Sig rs ps res) c).Ghost
    y m = ((lifetimes rs ls m, portions rs ls m, tt, passed m, ref-vals (lifetimes rs ls m) (by_value n ps) (value-kepts n ps) rs (λ κs. κs) 0 (lent-ats rs ls m) (value-vals n (lifetimes rs ls m) ps a)), g m)

    abbrev Came : Val → res.of.Denot → Helds rs → Type 0
    Came u r zs = ((u ≡ res.val r) × Fits res r) × φ r zs

    abbrev Aft : Val → SProp 𝓤
    Aft = After 𝓛 rs ls res φ

    fits-of : (u : Val) (r : res.of.Denot) → Is res.of r (u ∷ []) → (u ≡ res.val r) × Fits res r
    fits-of u r is = (ap only (res.tells r (u ∷ []) is), subst (λ (vs : List Val). Is res.of r vs) (res.tells r (u ∷ []) is) is)

    returned : (m : Marks rs) → Tolds rs ls xs → (u : Val) → ent 𝓤 (sep 𝓤 ((Ctr 𝓛 (Sig rs ps res) c).post (y m) u) (sem 𝓛 (Keeps rs ls m xs))) (Aft u)
    returned m p u =
        qed 𝓛 (later (some (λ (r : res.of.Denot). (raw (toks 𝓛 n (lifetimes rs ls m) (portions rs ls m)) ⊛ ‵ (res.of.own_val r (u ∷ []))) ⊛ some (λ (ws : Lasts (Sig rs ps res) (lifetimes rs ls m) (passed m)). ‵ (lasts (Sig rs ps res) (lifetimes rs ls m) (passed m) ws) ⊛ raw ((c (lifetimes rs ls m) (passed m)).ensures (g m) r (at_exit (Sig rs ps res) (lifetimes rs ls m) (passed m) ws))))) ∷ ‵ (Keeps rs ls m xs) ∷ []) ∵ updating ! $
        await ! tt $ pick ! (λ r. split ! $ move ! (1 ∷ []) $ pick ! (λ ws. split ! $ move ! (1 ∷ []) $ use1 𝓛 (raw (fact 𝓤 (φ r (lasts-in m ws)))) (told m r ws) $ heard ! (φ r (lasts-in m ws)) (λ f. move ! (1 ∷ []) $ split ! $ move ! (1 ∷ []) $
        peeks ! res.of (Is res.of) (shows 𝓛 res.of) r (u ∷ []) (λ is. drop ! $
        -- [the tokens; what is said; what is kept]
        move ! (1 ∷ []) $ use1 𝓛 (‵ (Saids rs m xs (lasts-in m ws))) (says_of 𝓛 (lifetimes rs ls m) (by_value n ps) (value-kepts n ps) rs (λ κs. κs) 0 ls m xs (value-args n (lifetimes rs ls m) ps a) ws) $ move ! (1 ∷ 2 ∷ 0 ∷ []) $
        use3 𝓛 (later (‵ (Alls rs ls (lasts-in m ws)))) (backs-all 𝓛 rs ls m xs (lasts-in m ws) p) $ await ! tt $ at_once ! $
        show ! (λ (r : res.of.Denot). ex 𝓤 (λ (zs : Helds rs). guard 𝓤 (Came u r zs) (sem 𝓛 (Alls rs ls zs)))) r $ show ! (λ (zs : Helds rs). guard 𝓤 (Came u r zs) (sem 𝓛 (Alls rs ls zs))) (lasts-in m ws) $ check ! (fits-of u r is, f) $ done !))))

    pub lent : (m : Marks rs) → Tolds rs ls xs → ent 𝓤 (sep 𝓤 (sem 𝓛 (Alls rs (lent-ats rs ls m) xs)) (sem 𝓛 (Keeps rs ls m xs))) (C k (pointers rs ls ++ machine ps a) Aft)
    lent m p = subst (λ (vs : List Val). ent 𝓤 (sep 𝓤 (sem 𝓛 (Alls rs (lent-ats rs ls m) xs)) (sem 𝓛 (Keeps rs ls m xs))) (C k vs Aft))
        (passes-as 𝓛 (lifetimes rs ls m) (by_value n ps) (value-kepts n ps) rs (λ κs. κs) 0 ls m (value-vals n (lifetimes rs ls m) ps a) ∙ ap (λ (vs : List Val). pointers rs ls ++ vs) (flat-values n (lifetimes rs ls m) ps a))
        (via 𝓤 (sep 𝓤 ((Ctr 𝓛 (Sig rs ps res) c).pre (y m)) (sem 𝓛 (Keeps rs ls m xs)))
        (mono_l 𝓤 (sem 𝓛 (Keeps rs ls m xs)) (qed 𝓛 (‵ (Alls rs (lent-ats rs ls m) xs) ∷ []) ∵ use0 𝓛 (‵ (owns (types_at (by_value n ps) (lifetimes rs ls m)) (value-args n (lifetimes rs ls m) ps a) (value-vals n (lifetimes rs ls m) ps a))) (value_owns n (lifetimes rs ls m) 𝓛 ps a fits) $ move ! (1 ∷ 0 ∷ []) $
        use2 𝓛 (raw (toks 𝓛 n (lifetimes rs ls m) (portions rs ls m)) ⊛ ‵ (owns (types_at (slots rs (λ κs. κs) 0 (by_value n ps)) (lifetimes rs ls m)) (passed m) (ref-vals (lifetimes rs ls m) (by_value n ps) (value-kepts n ps) rs (λ κs. κs) 0 (lent-ats rs ls m) (value-vals n (lifetimes rs ls m) ps a))))
        (enters 𝓛 (lifetimes rs ls m) (by_value n ps) (value-kepts n ps) rs (λ κs. κs) 0 ls m refl xs (value-args n (lifetimes rs ls m) ps a) (value-vals n (lifetimes rs ls m) ps a)) $ use0 𝓛 (raw ((c (lifetimes rs ls m) (passed m)).requires (g m))) (req m) $ move ! (1 ∷ 0 ∷ []) $ done !))
        (via 𝓤 (sep 𝓤 (C k ((Ctr 𝓛 (Sig rs ps res) c).args (y m)) ((Ctr 𝓛 (Sig rs ps res) c).post (y m))) (sem 𝓛 (Keeps rs ls m xs))) (mono_l 𝓤 (sem 𝓛 (Keeps rs ls m xs)) (known (y m)))
        (fm k ((Ctr 𝓛 (Sig rs ps res) c).args (y m)) ((Ctr 𝓛 (Sig rs ps res) c).post (y m)) Aft (sem 𝓛 (Keeps rs ls m xs)) (returned m p))))

    pub does : Does 𝓛 C k rs ls xs (pointers rs ls ++ machine ps a) res φ
    does = fact_use 𝓤 (Tolds rs ls xs) (tolds 𝓛 rs ls xs) (λ p.
        via 𝓤 (H.⇛ (ex 𝓤 (λ (m : Marks rs). sep 𝓤 (sem 𝓛 (Alls rs (lent-ats rs ls m) xs)) (sem 𝓛 (Keeps rs ls m xs))))) (lends-all 𝓛 rs ls xs)
        (𝓛.laws.⇛_mono _ _ (qed 𝓛 (some (λ (m : Marks rs). ‵ (Alls rs (lent-ats rs ls m) xs) ⊛ ‵ (Keeps rs ls m xs)) ∷ []) ∵ pick ! (λ m. by ! (lent m p)))))

-- the same where there is no reference
pub gives : {M : Type 1} {𝓤 : Ura M} (𝓛 : Logic 𝓤) (C : Calls 𝓤 𝓛.H) (fm : FmC 𝓤 𝓛.H 𝓛.laws C) (k : Callee) (ps : List Plain) (res : Plain) (c : Clauses 𝓤 (Sig [] ps res)) (known : Triple 𝓤 (C k) (Ctr 𝓛 (Sig [] ps res) c)) (a : Values ps) (fits : FitsAll ps a)
    (g : (c tt (value-args 0 tt ps a)).ghost) → ent 𝓤 (emp 𝓤) ((c tt (value-args 0 tt ps a)).requires g) → (φ : res.of.Denot → Type 0)
    → ((r : res.of.Denot) (ws : Lasts (Sig [] ps res) tt (value-args 0 tt ps a)) → ent 𝓤 ((c tt (value-args 0 tt ps a)).ensures g r (at_exit (Sig [] ps res) tt (value-args 0 tt ps a) ws)) (fact 𝓤 (φ r))) → Gives 𝓛 C k (machine ps a) res φ
gives {𝓤 = 𝓤} 𝓛 C fm k ps res c known a fits g req φ told = via 𝓤 (sep 𝓤 (emp 𝓤) (emp 𝓤)) (emp∗ 𝓤 (emp 𝓤)) (lent 𝓛 C fm k [] ps res c known tt tt a fits (λ m. g) (λ m. req) (λ r zs. φ r) (λ m r ws. told r ws) tt tt)

-- how a walk ends: at a result and last values of which φ holds
pub ended : {M : Type 1} {𝓤 : Ura M} (𝓛 : Logic 𝓤) (rs : List Ref) (ls : Locs rs) (res : Plain) (φ : res.of.Denot → Helds rs → Type 0) (r : res.of.Denot) (zs : Helds rs) → Fits res r → φ r zs → ent 𝓤 (⋆ 𝓛 (items rs ls zs)) (After 𝓛 rs ls res φ (res.val r))
ended {𝓤 = 𝓤} 𝓛 rs ls res φ r zs f e = via 𝓤 (sem 𝓛 (Alls rs ls zs)) (gather 𝓛 rs ls zs)
    (qed 𝓛 (‵ (Alls rs ls zs) ∷ []) ∵ updating ! $ at_once ! $ show ! (λ (w : res.of.Denot). ex 𝓤 (λ (zs' : Helds rs). guard 𝓤 (((res.val r ≡ res.val w) × Fits res w) × φ w zs') (sem 𝓛 (Alls rs ls zs')))) r $
    show ! (λ (zs' : Helds rs). guard 𝓤 (((res.val r ≡ res.val r) × Fits res r) × φ r zs') (sem 𝓛 (Alls rs ls zs'))) zs $ check ! ((refl, f), e) $ done !)

-- ---- as a step. The operands are read at their usual positions: while the references are lent, two entries of which nothing is known stand for each
abbrev pub blanks : {M : Type 1} {𝓤 : Ura M} → List Ref → List (Item 𝓤)
blanks [] = []
blanks (r ∷ rs) = ‵ ftrue ∷ ‵ ftrue ∷ blanks rs

module _ {M : Type 1} {𝓤 : Ura M} (𝓛 : Logic 𝓤) where
  blank-in : (rs : List Ref) (Γ : List (Item 𝓤)) → ent 𝓤 (⋆ 𝓛 Γ) (⋆ 𝓛 (blanks rs ++ Γ))
  blank-in [] Γ = id⊢ 𝓤 _
  blank-in (r ∷ rs) Γ = via 𝓤 _ (blank-in rs Γ) (via 𝓤 _ (emp∗ 𝓤 (⋆ 𝓛 (blanks rs ++ Γ))) (via 𝓤 _ (push 𝓛 (‵ ftrue) (blanks rs ++ Γ)) (via 𝓤 _ (emp∗ 𝓤 (⋆ 𝓛 (‵ ftrue ∷ (blanks rs ++ Γ)))) (push 𝓛 (‵ ftrue) (‵ ftrue ∷ (blanks rs ++ Γ))))))

  blank-out : (rs : List Ref) (Γ : List (Item 𝓤)) → ent 𝓤 (⋆ 𝓛 (blanks rs ++ Γ)) (⋆ 𝓛 Γ)
  blank-out [] Γ = id⊢ 𝓤 _
  blank-out (r ∷ rs) Γ = via 𝓤 _ (pop 𝓛 (‵ ftrue) (‵ ftrue ∷ (blanks rs ++ Γ))) (via 𝓤 _ (snd∗ 𝓤 (emp 𝓤) (⋆ 𝓛 (‵ ftrue ∷ (blanks rs ++ Γ)))) (via 𝓤 _ (pop 𝓛 (‵ ftrue) (blanks rs ++ Γ)) (via 𝓤 _ (snd∗ 𝓤 (emp 𝓤) (⋆ 𝓛 (blanks rs ++ Γ))) (blank-out rs Γ))))

module _ {M : Type 1} {𝓤 : Ura M} {𝓛 : Logic 𝓤} {K : Type 0} {Γ : List (Item 𝓤)} {G : Goal 𝓤 𝓛.H} where
  pub collects : (rs : List Ref) (ls : Locs rs) (hs : Helds rs) → Seq K 𝓛 (‵ (Alls rs ls hs) ∷ Γ) G → Seq K 𝓛 (items rs ls hs ++ Γ) G
  collects rs ls hs s = record { prf = via 𝓤 _ (⊢++ 𝓛 (items rs ls hs) Γ) (via 𝓤 _ (mono_l 𝓤 (⋆ 𝓛 Γ) (gather 𝓛 rs ls hs)) (via 𝓤 _ (push 𝓛 (‵ (Alls rs ls hs)) Γ) s.prf)) }

  pub spreads : (rs : List Ref) (ls : Locs rs) (hs : Helds rs) → Seq K 𝓛 (items rs ls hs ++ Γ) G → Seq K 𝓛 (‵ (Alls rs ls hs) ∷ Γ) G
  spreads rs ls hs s = record { prf = via 𝓤 _ (pop 𝓛 (‵ (Alls rs ls hs)) Γ) (via 𝓤 _ (mono_l 𝓤 (⋆ 𝓛 Γ) (spread 𝓛 rs ls hs)) (via 𝓤 _ (++⊢ 𝓛 (items rs ls hs) Γ) s.prf)) }

  pads : (rs : List Ref) (i : Item 𝓤) → Seq K 𝓛 (i ∷ ‵ ftrue ∷ (blanks rs ++ Γ)) G → Seq K 𝓛 (i ∷ Γ) G
  pads rs i s = record { prf = via 𝓤 _ (pop 𝓛 i Γ) (via 𝓤 _ (mono_r 𝓤 (mean 𝓛 i) (via 𝓤 _ (blank-in 𝓛 rs Γ) (via 𝓤 _ (emp∗ 𝓤 (⋆ 𝓛 (blanks rs ++ Γ))) (push 𝓛 (‵ ftrue) (blanks rs ++ Γ))))) s.prf) }

  unpads : (rs : List Ref) (i : Item 𝓤) → Seq K 𝓛 (i ∷ Γ) G → Seq K 𝓛 (i ∷ ‵ ftrue ∷ (blanks rs ++ Γ)) G
  unpads rs i s = record { prf = via 𝓤 _ (mono_r 𝓤 (mean 𝓛 i) (via 𝓤 _ (pop 𝓛 (‵ ftrue) (blanks rs ++ Γ)) (via 𝓤 _ (snd∗ 𝓤 (emp 𝓤) (⋆ 𝓛 (blanks rs ++ Γ))) (blank-out 𝓛 rs Γ)))) (via 𝓤 _ (push 𝓛 i Γ) s.prf) }

-- what stands after the first references of a context
abbrev rest_of : {M : Type 1} {𝓤 : Ura M} → List (Item 𝓤) → List (Item 𝓤)
rest_of [] = []
rest_of (i ∷ Γ) = Γ

abbrev pub past : {M : Type 1} {𝓤 : Ura M} → List Ref → List (Item 𝓤) → List (Item 𝓤)
past [] Γ = Γ
past (r ∷ rs) Γ = past rs (rest_of (rest_of Γ))

module _ {M : Type 1} {𝓤 : Ura M} {𝓛 : Logic 𝓤} {K : Type 0} (Γ : List (Item 𝓤)) (t : K) where
  -- after the call: any result and last values that the clause allows
  open 𝓛 use {H}

  heard-of : (r : Ref) (rs : List Ref) (ls : Locs (r ∷ rs)) (res : Plain) (φ : res.of.Denot → Helds (r ∷ rs) → Type 0) (G : Val → Goal 𝓤 H) → ((u : Val) → Soaks (G u)) → ((w : res.of.Denot) (zs : Helds (r ∷ rs)) → Fits res w → φ w zs → Seq K 𝓛 (items (r ∷ rs) ls zs ++ Γ) (G (res.val w)))
      → (u : Val) → Seq K 𝓛 (raw (After 𝓛 (r ∷ rs) ls res φ u) ∷ ‵ ftrue ∷ (blanks rs ++ Γ)) (G u)
  heard-of r rs ls res φ G z s u = unpads rs (raw (After 𝓛 (r ∷ rs) ls res φ u)) (
      use1 𝓛 (later (some (λ (w : res.of.Denot). some (λ (zs : Helds (r ∷ rs)). given (((u ≡ res.val w) × Fits res w) × φ w zs) (‵ (Alls (r ∷ rs) ls zs)))))) (id⊢ 𝓤 _) $ await t (z u) $ pick t (λ w. pick t (λ zs. learn t (λ e.
      subst (λ (v : Val). Seq K 𝓛 (‵ (Alls (r ∷ rs) ls zs) ∷ Γ) (G v)) (sym e.0.0) (spreads (r ∷ rs) ls zs (s w zs e.0.1 e.1))))))

  exactly : (r : Ref) (rs : List Ref) (ls : Locs (r ∷ rs)) (res : Plain) (f : res.of.Denot) (z : Helds (r ∷ rs)) (G : Val → Goal 𝓤 H) → (Fits res f → Seq K 𝓛 (items (r ∷ rs) ls z ++ Γ) (G (res.val f))) → (w : res.of.Denot) (zs : Helds (r ∷ rs)) → Fits res w → And (r ∷ rs) (w ≡ f) zs z → Seq K 𝓛 (items (r ∷ rs) ls zs ++ Γ) (G (res.val w))
  exactly r rs ls res f z G s w zs fw e = let p : (w ≡ f) × (zs ≡ z) = both (r ∷ rs) (w ≡ f) zs z e in
      subst (λ (zs' : Helds (r ∷ rs)). Seq K 𝓛 (items (r ∷ rs) ls zs' ++ Γ) (G (res.val w))) (sym p.1) (subst (λ (w' : res.of.Denot). Fits res w' → Seq K 𝓛 (items (r ∷ rs) ls z ++ Γ) (G (res.val w'))) (sym p.0) s fw)

  module _ {E : Env 𝓤 H} {C : Calls 𝓤 H} {k : Callee} {ops : List Operand} where
    called-value : FmC 𝓤 H 𝓛.laws C → (vs : List Val) (res : Plain) (φ : res.of.Denot → Type 0) → Gives 𝓛 C k vs res φ → Opds K 𝓛 Γ E ops vs → (G : Val → Goal 𝓤 H) → ((u : Val) → Soaks (G u)) → ((w : res.of.Denot) → Fits res w → φ w → Seq K 𝓛 Γ (G (res.val w)))
        → ent 𝓤 (⋆ 𝓛 Γ) (H.⇛ (eval_opds 𝓤 H E ops (λ us. C k us (λ u. aim 𝓤 H (G u)))))
    called-value fm vs res φ D os G z s = via 𝓤 (eval_opds 𝓤 H E ops (λ us. C k us (λ u. aim 𝓤 H (G u))))
        (os.go (λ us. C k us (λ u. aim 𝓤 H (G u)))
        (via 𝓤 (sep 𝓤 (C k vs (After 𝓛 [] tt res (λ r zs. φ r))) (⋆ 𝓛 Γ)) (via 𝓤 (sep 𝓤 (emp 𝓤) (⋆ 𝓛 Γ)) (emp∗ 𝓤 (⋆ 𝓛 Γ)) (mono_l 𝓤 (⋆ 𝓛 Γ) D))
        (fm k vs (After 𝓛 [] tt res (λ r zs. φ r)) (λ u. aim 𝓤 H (G u)) (⋆ 𝓛 Γ) (λ u. via 𝓤 (⋆ 𝓛 (raw (After 𝓛 [] tt res (λ r zs. φ r) u) ∷ Γ)) (push 𝓛 (raw (After 𝓛 [] tt res (λ r zs. φ r) u)) Γ) (lets u).prf))))
        (𝓛.laws.⇛_intro _)
      where
        lets : (u : Val) → Seq K 𝓛 (raw (After 𝓛 [] tt res (λ r zs. φ r) u) ∷ Γ) (G u)
        lets u = use1 𝓛 (later (some (λ (w : res.of.Denot). some (λ (zs : Unit {0}). given (((u ≡ res.val w) × Fits res w) × φ w) (‵ ftrue))))) (id⊢ 𝓤 _) $ await t (z u) $ pick t (λ w. pick t (λ zs. learn t (λ e. drop t $ subst (λ (v : Val). Seq K 𝓛 Γ (G v)) (sym e.0.0) (s w e.0.1 e.1))))

module _ {M : Type 1} {𝓤 : Ura M} {𝓛 : Logic 𝓤} {K : Type 0} {Γ : List (Item 𝓤)} where
  open 𝓛 use {H}

  module _ {E : Env 𝓤 H} {C : Calls 𝓤 H} {k : Callee} {ops : List Operand} {Λ : Loops 𝓤 H} {q : Post 𝓤 H} {d : Place} where
    -- the references stand at the head of the context, in the callee's order: `refl`
    pub calls-some : K → FmC 𝓤 H 𝓛.laws C → (r : Ref) (rs : List Ref) (ls : Locs (r ∷ rs)) (xs : Helds (r ∷ rs)) → Γ ≡ items (r ∷ rs) ls xs ++ past (r ∷ rs) Γ → (vs : List Val) (res : Plain) (φ : res.of.Denot → Helds (r ∷ rs) → Type 0) → Does 𝓛 C k (r ∷ rs) ls xs vs res φ
        → ((i : Item 𝓤) → Opds K 𝓛 (i ∷ ‵ ftrue ∷ (blanks rs ++ past (r ∷ rs) Γ)) E ops vs)
        → {rest : Body} → ((w : res.of.Denot) (zs : Helds (r ∷ rs)) → Fits res w → φ w zs → Seq K 𝓛 (items (r ∷ rs) ls zs ++ past (r ∷ rs) Γ) (lands C Λ E d (res.val w) rest q)) → Seq K 𝓛 Γ (runs C Λ E (seq (call k ops d) rest) q)
    calls-some t fm r rs ls xs at vs res φ D os {rest} s = subst (λ (Γ' : List (Item 𝓤)). Seq K 𝓛 Γ' (runs C Λ E (seq (call k ops d) rest) q)) (sym at)
        (collects (r ∷ rs) ls xs (use1 𝓛 (later (raw (C k vs (After 𝓛 (r ∷ rs) ls res φ)))) D $ await t tt $
        pads rs (raw (C k vs (After 𝓛 (r ∷ rs) ls res φ))) (calls_from t fm (raw (C k vs (After 𝓛 (r ∷ rs) ls res φ))) vs (After 𝓛 (r ∷ rs) ls res φ) (id⊢ 𝓤 _) (os (raw (C k vs (After 𝓛 (r ∷ rs) ls res φ)))) (heard-of (past (r ∷ rs) Γ) t r rs ls res φ (λ u. lands C Λ E d u rest q) (λ u. tt) s))))

    pub calls-some-last : K → FmC 𝓤 H 𝓛.laws C → (r : Ref) (rs : List Ref) (ls : Locs (r ∷ rs)) (xs : Helds (r ∷ rs)) → Γ ≡ items (r ∷ rs) ls xs ++ past (r ∷ rs) Γ → (vs : List Val) (res : Plain) (φ : res.of.Denot → Helds (r ∷ rs) → Type 0) → Does 𝓛 C k (r ∷ rs) ls xs vs res φ
        → ((i : Item 𝓤) → Opds K 𝓛 (i ∷ ‵ ftrue ∷ (blanks rs ++ past (r ∷ rs) Γ)) E ops vs)
        → ((w : res.of.Denot) (zs : Helds (r ∷ rs)) → Fits res w → φ w zs → Seq K 𝓛 (items (r ∷ rs) ls zs ++ past (r ∷ rs) Γ) (settles E d (res.val w) q)) → Seq K 𝓛 Γ (runs C Λ E (call k ops d) q)
    calls-some-last t fm r rs ls xs at vs res φ D os s = subst (λ (Γ' : List (Item 𝓤)). Seq K 𝓛 Γ' (runs C Λ E (call k ops d) q)) (sym at)
        (collects (r ∷ rs) ls xs (use1 𝓛 (later (raw (C k vs (After 𝓛 (r ∷ rs) ls res φ)))) D $ await t tt $
        pads rs (raw (C k vs (After 𝓛 (r ∷ rs) ls res φ))) (calls_from_last t fm (raw (C k vs (After 𝓛 (r ∷ rs) ls res φ))) vs (After 𝓛 (r ∷ rs) ls res φ) (id⊢ 𝓤 _) (os (raw (C k vs (After 𝓛 (r ∷ rs) ls res φ)))) (heard-of (past (r ∷ rs) Γ) t r rs ls res φ (λ u. settles E d u q) (λ u. tt) s))))

    -- the `ensures` says that the result is f and the last values are z
    pub calls : K → FmC 𝓤 H 𝓛.laws C → (r : Ref) (rs : List Ref) (ls : Locs (r ∷ rs)) (xs z : Helds (r ∷ rs)) → Γ ≡ items (r ∷ rs) ls xs ++ past (r ∷ rs) Γ → (vs : List Val) (res : Plain) (f : res.of.Denot) → Does 𝓛 C k (r ∷ rs) ls xs vs res (λ w zs. And (r ∷ rs) (w ≡ f) zs z)
        → ((i : Item 𝓤) → Opds K 𝓛 (i ∷ ‵ ftrue ∷ (blanks rs ++ past (r ∷ rs) Γ)) E ops vs)
        → {rest : Body} → (Fits res f → Seq K 𝓛 (items (r ∷ rs) ls z ++ past (r ∷ rs) Γ) (lands C Λ E d (res.val f) rest q)) → Seq K 𝓛 Γ (runs C Λ E (seq (call k ops d) rest) q)
    calls t fm r rs ls xs z at vs res f D os {rest} s = calls-some t fm r rs ls xs at vs res (λ w zs. And (r ∷ rs) (w ≡ f) zs z) D os (exactly (past (r ∷ rs) Γ) t r rs ls res f z (λ u. lands C Λ E d u rest q) s)

    pub calls_last : K → FmC 𝓤 H 𝓛.laws C → (r : Ref) (rs : List Ref) (ls : Locs (r ∷ rs)) (xs z : Helds (r ∷ rs)) → Γ ≡ items (r ∷ rs) ls xs ++ past (r ∷ rs) Γ → (vs : List Val) (res : Plain) (f : res.of.Denot) → Does 𝓛 C k (r ∷ rs) ls xs vs res (λ w zs. And (r ∷ rs) (w ≡ f) zs z)
        → ((i : Item 𝓤) → Opds K 𝓛 (i ∷ ‵ ftrue ∷ (blanks rs ++ past (r ∷ rs) Γ)) E ops vs)
        → (Fits res f → Seq K 𝓛 (items (r ∷ rs) ls z ++ past (r ∷ rs) Γ) (settles E d (res.val f) q)) → Seq K 𝓛 Γ (runs C Λ E (call k ops d) q)
    calls_last t fm r rs ls xs z at vs res f D os s = calls-some-last t fm r rs ls xs at vs res (λ w zs. And (r ∷ rs) (w ≡ f) zs z) D os (exactly (past (r ∷ rs) Γ) t r rs ls res f z (λ u. settles E d u q) s)

    -- no reference: the context stays as it is
    pub calls-value-some : K → FmC 𝓤 H 𝓛.laws C → (vs : List Val) (res : Plain) (φ : res.of.Denot → Type 0) → Gives 𝓛 C k vs res φ → Opds K 𝓛 Γ E ops vs → {rest : Body} → ((w : res.of.Denot) → Fits res w → φ w → Seq K 𝓛 Γ (lands C Λ E d (res.val w) rest q)) → Seq K 𝓛 Γ (runs C Λ E (seq (call k ops d) rest) q)
    calls-value-some t fm vs res φ D os {rest} s = record { prf = called-value Γ t fm vs res φ D os (λ u. lands C Λ E d u rest q) (λ u. tt) s }

    pub calls-value : K → FmC 𝓤 H 𝓛.laws C → (vs : List Val) (res : Plain) (f : res.of.Denot) → Gives 𝓛 C k vs res (λ w. w ≡ f) → Opds K 𝓛 Γ E ops vs → {rest : Body} → (Fits res f → Seq K 𝓛 Γ (lands C Λ E d (res.val f) rest q)) → Seq K 𝓛 Γ (runs C Λ E (seq (call k ops d) rest) q)
    calls-value t fm vs res f D os {rest} s = calls-value-some t fm vs res (λ w. w ≡ f) D os (λ w fw e. subst (λ (w' : res.of.Denot). Fits res w' → Seq K 𝓛 Γ (lands C Λ E d (res.val w') rest q)) (sym e) s fw)

    pub calls-value-last : K → FmC 𝓤 H 𝓛.laws C → (vs : List Val) (res : Plain) (f : res.of.Denot) → Gives 𝓛 C k vs res (λ w. w ≡ f) → Opds K 𝓛 Γ E ops vs → (Fits res f → Seq K 𝓛 Γ (settles E d (res.val f) q)) → Seq K 𝓛 Γ (runs C Λ E (call k ops d) q)
    calls-value-last t fm vs res f D os s = record { prf = called-value Γ t fm vs res (λ w. w ≡ f) D os (λ u. settles E d u q) (λ u. tt) (λ w fw e. subst (λ (w' : res.of.Denot). Fits res w' → Seq K 𝓛 Γ (settles E d (res.val w') q)) (sym e) s fw) }

  -- the test of a `while`: it holds and the turn goes on, or it fails and the loop is left
  pub tests : {E : Env 𝓤 H} {C : Calls 𝓤 H} {Λ : Loops 𝓤 H} {q : Post 𝓤 H} → K → {o : Operand} {n : ℕ} {b : Body} {y : Bool} → Opd K 𝓛 Γ E o (vbool y)
      → (Holds y → Seq K 𝓛 Γ (runs C Λ E b q)) → (Holds (not y) → Seq K 𝓛 Γ (prop (post 𝓤 H q (exits n)))) → Seq K 𝓛 Γ (runs C Λ E (seq (cond o skip (exit n)) b) q)
  tests t o held failed = first t $ branches t o (λ h. skips t $ record { prf = (held h).prf }) (λ h. jumps t $ record { prf = (failed h).prf })
