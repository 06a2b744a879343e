-- Plain data as a walk needs it: a row whose one machine value is a function of the value, which owns nothing, and which is at exit as it was passed.
-- `plain-struct`, `plain-enum`, `plain-uint`, `plain-bool`, `plain-unit` make one; `Fits` is all that is carried of a value. A list of them is a function's by_value parameters. Assumes nothing.
use mathlib.Core.Path.{◌≡◌, refl, sym, ap, subst, ◌∙◌}
use mathlib.Core.List.{List, [], ◌∷◌}
use Prim.Native.Nat.{ℕ}
use lib.Dec.{T as Holds}
use seplogic.Ra.Ura.{Ura}
use mir.Syntax.{Width}
use mir.Val.{Val, WT, has_ty, vint, vbool, vunit}
use base.Logic.{ent, emp, id⊢, via, emp∗, mono∗}
use types.Logic.{Logic, sem}
use contract.Lifetimes.{Lfts}
use types.Kit.{◌$◌, ◌∵◌, !, qed, feq_i, done}
use denote.RattleType.{RattleType, Denots, Valss, owns}
use denote.Exit.{Kept, Exit, Last, left, unchanged, yes}
use denote.Laws.{Is, Ises, Tells, Tellss, Spells, Makes, Typed}
use denote.Memory.{lone}
use denote.Plain.{UInt, Boolean, uint_Tells, uint_Makes, uint_Lawful, bool_Tells, bool_Makes, bool_Lawful}
use denote.Builtin.{unit}
use denote.Signature.{Slot, plain, types_at}
use denote.Struct.Declared.{Declared, row, fields}
use denote.Struct.Struct.{Plains}
use denote.Struct.Laws as LL
use denote.Enum.Declared.{Declared as EDeclared, row as erow, shape as eshape, variants as evariants}
use denote.Enum.Enum.{Few as EFew, Plainss as EPlainss}
use denote.Enum.Laws as EL
use denote.Triple.End.{Kepts, Fins, lasts_of}

pub record Plain : Type 2 where
  pub of : RattleType
  pub val : of.Denot → Val
  pub tells : Tells of (Is of) (λ x. val x ∷ [])
  pub makes : {M : Type 1} {𝓤 : Ura M} (𝓛 : Logic 𝓤) → Makes 𝓛 of (Is of)
  pub typed : {M : Type 1} {𝓤 : Ura M} (𝓛 : Logic 𝓤) (x : of.Denot) → Is of x (val x ∷ []) → Holds (has_ty (lone of.mir) (val x)) × WT (val x)
  pub law : {M : Type 1} {𝓤 : Ura M} (𝓛 : Logic 𝓤) (x : of.Denot) → Is of x (val x ∷ []) → Typed of.mir (val x ∷ [])
  pub still : (k : Kept) → of.exit k ≡ unchanged

-- the value is one of the type's, at its machine value
abbrev pub Fits : (P : Plain) → P.of.Denot → Type 0
Fits P x = Is P.of x (P.val x ∷ [])

abbrev pub plain-struct : (D : Declared) (L : LL.Laws D) → LL.Copyables D.parts → Plains (fields D) → Plain
plain-struct D L cp pl = record {
  of = row D;
  val = LL.val D L;
  tells = LL.tells D L;
  makes = λ 𝓛. LL.makes D pl 𝓛;
  typed = λ 𝓛 x g. ((LL.lawful D L 𝓛).typed x _ g).0;
  law = λ 𝓛 x g. (LL.lawful D L 𝓛).typed x _ g;
  still = LL.still D cp;
}

abbrev pub plain-enum : (D : EDeclared) (L : EL.Laws D) → EFew (eshape D) → EL.Copyabless D.parts → EPlainss (evariants D) → Plain
plain-enum D L few cp pl = record {
  of = erow D;
  val = EL.val D L;
  tells = EL.tells D L;
  makes = λ 𝓛. EL.makes D pl 𝓛;
  typed = λ 𝓛 x g. ((EL.lawful D L 𝓛 few).typed x _ g).0;
  law = λ 𝓛 x g. (EL.lawful D L 𝓛 few).typed x _ g;
  still = EL.still D cp;
}

abbrev pub plain-uint : (w : Width) → Plain
plain-uint w = record {
  of = UInt w;
  val = vint w;
  tells = uint_Tells w;
  makes = λ 𝓛. uint_Makes 𝓛 w;
  typed = λ 𝓛 x g. ((uint_Lawful 𝓛 w).typed x _ g).0;
  law = λ 𝓛 x g. (uint_Lawful 𝓛 w).typed x _ g;
  still = λ k. refl;
}

abbrev pub plain-bool : Plain
plain-bool = record {
  of = Boolean;
  val = vbool;
  tells = bool_Tells;
  makes = λ 𝓛. bool_Makes 𝓛;
  typed = λ 𝓛 x g. ((bool_Lawful 𝓛).typed x _ g).0;
  law = λ 𝓛 x g. (bool_Lawful 𝓛).typed x _ g;
  still = λ k. refl;
}

-- the same type under a name for its machine value: a walk that reads no field of it never computes that value
abbrev pub sealed : (P : Plain) (v : P.of.Denot → Val) → ((x : P.of.Denot) → v x ≡ P.val x) → Plain
sealed P v e = record {
  of = P.of;
  val = v;
  tells = λ x vs is. P.tells x vs is ∙ ap (λ (w : Val). w ∷ []) (sym (e x));
  makes = P.makes;
  typed = λ 𝓛 x is. subst (λ (w : Val). Holds (has_ty (lone P.of.mir) w) × WT w) (sym (e x)) (P.typed 𝓛 x (subst (λ (w : Val). Is P.of x (w ∷ [])) (e x) is));
  law = λ 𝓛 x is. subst (λ (w : Val). Typed P.of.mir (w ∷ [])) (sym (e x)) (P.law 𝓛 x (subst (λ (w : Val). Is P.of x (w ∷ [])) (e x) is));
  still = P.still;
}

last_of : {D : Type 0} (e : Exit D) → e ≡ unchanged → (x : D) → Last e x
last_of e p x = subst (λ (z : Exit _). Last z x) (sym p) tt

silent : {M : Type 1} {𝓤 : Ura M} (𝓛 : Logic 𝓤) {D : Type 0} (e : Exit D) (p : e ≡ unchanged) (x : D) (w : Last e x) → ent 𝓤 (emp 𝓤) (sem 𝓛 (left e x w))
silent {𝓤 = 𝓤} 𝓛 e p x = subst (λ (z : Exit _). (w : Last z x) → ent 𝓤 (emp 𝓤) (sem 𝓛 (left z x w))) (sym p) (λ w. id⊢ 𝓤 (emp 𝓤))

-- what a function gives back that gives nothing back
abbrev pub plain-unit : Plain
plain-unit = record {
  of = unit;
  val = λ x. vunit;
  tells = λ x vs is. is;
  makes = λ 𝓛 x vs is. qed 𝓛 [] ∵ feq_i ! (List Val) vs (vunit ∷ []) is $ done !;
  typed = λ 𝓛 x is. (tt, tt);
  law = λ 𝓛 x is. ((tt, tt), tt);
  still = λ k. refl;
}

-- ---- a list of them
abbrev pub Values : List Plain → Type 0
Values [] = Unit {0}
Values (P ∷ Ps) = P.of.Denot × Values Ps

abbrev pub FitsAll : (Ps : List Plain) → Values Ps → Type 0
FitsAll [] a = Unit {0}
FitsAll (P ∷ Ps) a = Fits P a.0 × FitsAll Ps a.1

abbrev pub machine : (Ps : List Plain) → Values Ps → List Val
machine [] a = []
machine (P ∷ Ps) a = P.val a.0 ∷ machine Ps a.1

abbrev pub by_value : (n : ℕ) → List Plain → List (Slot n)
by_value n [] = []
by_value n (P ∷ Ps) = plain (λ _. P.of) ∷ by_value n Ps

module _ (n : ℕ) where
  abbrev pub value-kepts : (Ps : List Plain) → Kepts (by_value n Ps)
  value-kepts [] = tt
  value-kepts (P ∷ Ps) = (yes, value-kepts Ps)

  module _ (κs : Lfts n) where
    abbrev pub value-args : (Ps : List Plain) → Values Ps → Denots (types_at (by_value n Ps) κs)
    value-args [] a = tt
    value-args (P ∷ Ps) a = (a.0, value-args Ps a.1)

    abbrev pub value-vals : (Ps : List Plain) → Values Ps → Valss (types_at (by_value n Ps) κs)
    value-vals [] a = tt
    value-vals (P ∷ Ps) a = (P.val a.0 ∷ [], value-vals Ps a.1)

    -- back from what a function is passed
    abbrev pub values_of : (Ps : List Plain) → Denots (types_at (by_value n Ps) κs) → Values Ps
    values_of [] a = tt
    values_of (P ∷ Ps) a = (a.0, values_of Ps a.1)

    abbrev pub value-spells : (Ps : List Plain) → Spells (types_at (by_value n Ps) κs)
    value-spells [] = tt
    value-spells (P ∷ Ps) = ((λ x. P.val x ∷ []), value-spells Ps)

    abbrev pub value_tells : (Ps : List Plain) → Tellss (types_at (by_value n Ps) κs) (Ises (types_at (by_value n Ps) κs)) (value-spells Ps)
    value_tells [] = tt
    value_tells (P ∷ Ps) = (P.tells, value_tells Ps)

    pub value_owns : {M : Type 1} {𝓤 : Ura M} (𝓛 : Logic 𝓤) (Ps : List Plain) (a : Values Ps) → FitsAll Ps a → ent 𝓤 (emp 𝓤) (sem 𝓛 (owns (types_at (by_value n Ps) κs) (value-args Ps a) (value-vals Ps a)))
    value_owns {𝓤 = 𝓤} 𝓛 [] a g = id⊢ 𝓤 (emp 𝓤)
    value_owns {𝓤 = 𝓤} 𝓛 (P ∷ Ps) a g = via 𝓤 _ (emp∗ 𝓤 (emp 𝓤)) (mono∗ 𝓤 (P.makes 𝓛 a.0 _ g.0) (value_owns 𝓛 Ps a.1 g.1))

    -- at exit each is as it was passed, and nothing is said of it
    pub value-lasts : (Ps : List Plain) (a : Denots (types_at (by_value n Ps) κs)) → Fins κs (by_value n Ps) (value-kepts Ps) a
    value-lasts [] a = tt
    value-lasts (P ∷ Ps) a = (last_of (P.of.exit yes) (P.still yes) a.0, value-lasts Ps a.1)

    module _ {M : Type 1} {𝓤 : Ura M} (𝓛 : Logic 𝓤) where
      pub value-silent : (Ps : List Plain) (a : Denots (types_at (by_value n Ps) κs)) (ws : Fins κs (by_value n Ps) (value-kepts Ps) a) → ent 𝓤 (emp 𝓤) (sem 𝓛 (lasts_of κs (by_value n Ps) (value-kepts Ps) a ws))
      value-silent [] a ws = id⊢ 𝓤 (emp 𝓤)
      value-silent (P ∷ Ps) a ws = via 𝓤 _ (emp∗ 𝓤 (emp 𝓤)) (mono∗ 𝓤 (silent 𝓛 (P.of.exit yes) (P.still yes) a.0 ws.0) (value-silent Ps a.1 ws.1))
