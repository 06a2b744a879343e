-- The `&mut [T]`, `&mut T`, `&[T]` and `&T` that a function takes, any number of them, each at a lifetime of its own, and then its by_value parameters.
-- `items` is a walk's context of them, two entries each (what it owns, its token); `Sig` is the signature; `lends-all`, `backs-all` lend all of them for a call. Assumes `Logic`.
-- A `&mut` is lent again for a lifetime that is made for the call. A `&` is handed on as it is, at its own lifetime, and a copy of it is kept: that asks of T what a `&` to it says twice (`RowLaws`).
use mathlib.Core.Path.{◌≡◌, refl, sym, ap, subst, ◌∙◌}
use Prim.Native.Nat.{ℕ, suc}
use mathlib.Core.List.{List, [], ◌∷◌}
use lib.ListN.{length}
use seplogic.Ra.Ura.{Ura}
use base.Fraction.{full_share}
use mir.Syntax.{Lifetime, erased, named}
use mir.Val.{Val, Vals, vint, vptr, vstruct, vunit, vbool, vfloat, vcode, vnil, vcons}
use base.Logic.{SProp, ent, sep, emp, ex, id⊢, via, mono_r, fst∗, snd∗}
use base.Fml.{Lft, GName, Share, Fml, ftrue, fsep, flft, fobs, fauth, flent, fobor, fres, feq}
use types.Logic.{Logic, sem}
use contract.Monad.{fact, fact_i, fact_use}
use contract.Lifetimes.{Lfts, Shares, toks}
use types.Kit.{Item, ‵, raw, ◌⊛◌, some, later, ⋆, pop, push, ◌$◌, ◌∵◌, !, qed, move, drop, use0, use1, use2, use3, split, pick, join, fsplit, fjoin, feq_l, rewrite, frame, await, updating, now as at_once, show, done}
use types.Tokens.{lft_new, lft_end}
use types.SemTy.{cells, Arr}
use denote.RattleType.{RattleType, RowLaws, Denots, Valss}
use denote.Shadow.{pure_l, pure_i}
use denote.Laws.{shows}
use denote.Memory.{mem}
use denote.Ref.{Bor, MutBor, MutRef, ShrRef, shr_copy}
use denote.Slice.{slice_val, MutSlice, ShrSlice, heres, Room, finally, mut_slice_at, coded_holeys, shr_slice_copy}
use denote.Lend as Lend
use denote.Index.{row as Cells-of, whole_out, whole_in, opens_slice, closes_slice}
use denote.Signature.{Slot, plain, types_at}
use denote.Exit.{yes}
use denote.Triple.Clauses.{Ended}
use denote.Triple.End.{Kepts, Fins}
use Rattle.lent.proofs.Plain.{Plain, by_value, value-kepts}

pub data Ref : Type 2 where
  slice : RattleType → Ref
  cell : RattleType → Ref
  seen-slice : (R : RattleType) → RowLaws R → Ref
  seen-cell : (R : RattleType) → RowLaws R → Ref

-- what a reference leads to
abbrev pub Held : Ref → Type 0
Held (slice R) = List R.Denot
Held (cell R) = R.Denot
Held (seen-slice R L) = List R.Denot
Held (seen-cell R L) = R.Denot

-- where it points, how many elements it says, its ghost name (a `&` has none), its lifetime, and the share of the token that is had
pub record Loc : Type 0 where
  pub b : ℕ
  pub o : ℕ
  pub n : ℕ
  pub γ : GName
  pub κ : Lft
  pub q : Share

abbrev pub Locs : List Ref → Type 0
Locs [] = Unit {0}
Locs (r ∷ rs) = Loc × Locs rs

abbrev pub Helds : List Ref → Type 0
Helds [] = Unit {0}
Helds (r ∷ rs) = Held r × Helds rs

abbrev pub ref-at : {X : Type 0} → Loc → X → MutBor X
ref-at l x = record { ref_ptr = (l.b, l.o); ghost_name = l.γ; now = x }

abbrev pub seen-at : {X : Type 0} → Loc → X → Bor X
seen-at l x = record { ref_ptr = (l.b, l.o); now = x }

-- its machine value
abbrev pub pointer : Ref → Loc → Val
pointer (slice R) l = slice_val (l.b, l.o) l.n
pointer (cell R) l = vptr l.b l.o
pointer (seen-slice R L) l = slice_val (l.b, l.o) l.n
pointer (seen-cell R L) l = vptr l.b l.o

abbrev pub pointers : (rs : List Ref) → Locs rs → List Val
pointers [] ls = []
pointers (r ∷ rs) ls = pointer r ls.0 ∷ pointers rs ls.1

-- what it owns. The name of the lifetime does not matter
abbrev pub Live : (r : Ref) → Loc → Held r → Fml
Live (slice R) l ys = (MutSlice erased l.κ R).own_val (ref-at l ys) (slice_val (l.b, l.o) l.n ∷ [])
Live (cell R) l y = (MutRef erased l.κ R).own_val (ref-at l y) (vptr l.b l.o ∷ [])
Live (seen-slice R L) l ys = (ShrSlice erased l.κ R).own_val (seen-at l ys) (slice_val (l.b, l.o) l.n ∷ [])
Live (seen-cell R L) l y = (ShrRef erased l.κ R).own_val (seen-at l y) (vptr l.b l.o ∷ [])

-- a walk's context of them, and the same as one formula
abbrev pub items : {M : Type 1} {𝓤 : Ura M} (rs : List Ref) → Locs rs → Helds rs → List (Item 𝓤)
items [] ls xs = []
items (r ∷ rs) ls xs = ‵ (Live r ls.0 xs.0) ∷ ‵ (flft ls.0.κ ls.0.q) ∷ items rs ls.1 xs.1

abbrev pub Alls : (rs : List Ref) → Locs rs → Helds rs → Fml
Alls [] ls xs = ftrue
Alls (r ∷ rs) ls xs = fsep (Live r ls.0 xs.0) (fsep (flft ls.0.κ ls.0.q) (Alls rs ls.1 xs.1))

-- what a reference knows of its count
abbrev pub Told : (r : Ref) → Loc → Held r → Type 0
Told (slice R) l ys = (slice_val (l.b, l.o) l.n ∷ [] ≡ slice_val (l.b, l.o) (length ys) ∷ []) × Room R (length ys)
Told (cell R) l y = Unit {0}
Told (seen-slice R L) l ys = (slice_val (l.b, l.o) l.n ∷ [] ≡ slice_val (l.b, l.o) (length ys) ∷ []) × Room R (length ys)
Told (seen-cell R L) l y = Unit {0}

abbrev pub Tolds : (rs : List Ref) → Locs rs → Helds rs → Type 0
Tolds [] ls xs = Unit {0}
Tolds (r ∷ rs) ls xs = Told r ls.0 xs.0 × Tolds rs ls.1 xs.1

-- the count in a slice's machine value
abbrev count-in : Vals → ℕ
count-in vnil = 0
count-in (vcons (vint w n) vs) = n
count-in (vcons (vptr b o) vs) = count-in vs
count-in (vcons vunit vs) = 0
count-in (vcons (vbool t) vs) = 0
count-in (vcons (vfloat f x) vs) = 0
count-in (vcons (vstruct us) vs) = 0
count-in (vcons (vcode c) vs) = 0

abbrev count_of : List Val → ℕ
count_of [] = 0
count_of (vstruct vs ∷ us) = count-in vs
count_of (vunit ∷ us) = 0
count_of (vbool t ∷ us) = 0
count_of (vfloat f x ∷ us) = 0
count_of (vint w n ∷ us) = 0
count_of (vptr b o ∷ us) = 0
count_of (vcode c ∷ us) = 0

pub counted : (b o m n : ℕ) → slice_val (b, o) m ∷ [] ≡ slice_val (b, o) n ∷ [] → m ≡ n
counted b o m n e = ap count_of e

module _ {M : Type 1} {𝓤 : Ura M} (𝓛 : Logic 𝓤) where
  open 𝓛 use {A}

  pub gather : (rs : List Ref) (ls : Locs rs) (xs : Helds rs) → ent 𝓤 (⋆ 𝓛 (items rs ls xs)) (sem 𝓛 (Alls rs ls xs))
  gather [] ls xs = id⊢ 𝓤 (emp 𝓤)
  gather (r ∷ rs) ls xs = mono_r 𝓤 (sem 𝓛 (Live r ls.0 xs.0)) (via 𝓤 _ (pop 𝓛 (‵ (flft ls.0.κ ls.0.q)) (items rs ls.1 xs.1)) (mono_r 𝓤 (A.lft ls.0.κ ls.0.q) (gather rs ls.1 xs.1)))

  pub spread : (rs : List Ref) (ls : Locs rs) (xs : Helds rs) → ent 𝓤 (sem 𝓛 (Alls rs ls xs)) (⋆ 𝓛 (items rs ls xs))
  spread [] ls xs = id⊢ 𝓤 (emp 𝓤)
  spread (r ∷ rs) ls xs = mono_r 𝓤 (sem 𝓛 (Live r ls.0 xs.0)) (via 𝓤 _ (mono_r 𝓤 (A.lft ls.0.κ ls.0.q) (spread rs ls.1 xs.1)) (push 𝓛 (‵ (flft ls.0.κ ls.0.q)) (items rs ls.1 xs.1)))

  told : (r : Ref) (l : Loc) (x : Held r) → ent 𝓤 (sem 𝓛 (Live r l x)) (fact 𝓤 (Told r l x))
  told (slice R) l ys = fact_use 𝓤 _ (shows 𝓛 (MutSlice erased l.κ R) (ref-at l ys) (slice_val (l.b, l.o) l.n ∷ [])) (λ is. fact_i 𝓤 _ _ is.0)
  told (cell R) l y = fact_i 𝓤 _ _ tt
  told (seen-slice R L) l ys = fact_use 𝓤 _ (shows 𝓛 (ShrSlice erased l.κ R) (seen-at l ys) (slice_val (l.b, l.o) l.n ∷ [])) (λ is. fact_i 𝓤 _ _ is.0)
  told (seen-cell R L) l y = fact_i 𝓤 _ _ tt

  -- what all of them know, and they are kept
  pub tolds : (rs : List Ref) (ls : Locs rs) (xs : Helds rs) → ent 𝓤 (sem 𝓛 (Alls rs ls xs)) (fact 𝓤 (Tolds rs ls xs))
  tolds [] ls xs = fact_i 𝓤 _ _ tt
  tolds (r ∷ rs) ls xs = fact_use 𝓤 _ (via 𝓤 _ (fst∗ 𝓤 (sem 𝓛 (Live r ls.0 xs.0)) (sem 𝓛 (fsep (flft ls.0.κ ls.0.q) (Alls rs ls.1 xs.1)))) (told r ls.0 xs.0))
      (λ t. fact_use 𝓤 _ (via 𝓤 _ (snd∗ 𝓤 (sem 𝓛 (Live r ls.0 xs.0)) (sem 𝓛 (fsep (flft ls.0.κ ls.0.q) (Alls rs ls.1 xs.1)))) (via 𝓤 _ (snd∗ 𝓤 (A.lft ls.0.κ ls.0.q) (sem 𝓛 (Alls rs ls.1 xs.1))) (tolds rs ls.1 xs.1))) (λ ts. fact_i 𝓤 _ _ (t, ts)))

-- ---- the signature of a function that takes them, and then plain data
abbrev pub row-at : Ref → Lifetime → Lft → RattleType
row-at (slice R) ℓ κ = MutSlice ℓ κ R
row-at (cell R) ℓ κ = MutRef ℓ κ R
row-at (seen-slice R L) ℓ κ = ShrSlice ℓ κ R
row-at (seen-cell R L) ℓ κ = ShrRef ℓ κ R

module _ {n : ℕ} where
  abbrev pub slots : (rs : List Ref) → (Lfts n → Lfts (length rs)) → ℕ → List (Slot n) → List (Slot n)
  slots [] sel i ps = ps
  slots (r ∷ rs) sel i ps = plain (λ κs. row-at r (named i) (sel κs).0) ∷ slots rs (λ κs. (sel κs).1) (suc i) ps

  abbrev pub kepts : (rs : List Ref) (sel : Lfts n → Lfts (length rs)) (i : ℕ) (ps : List (Slot n)) → Kepts ps → Kepts (slots rs sel i ps)
  kepts [] sel i ps ks = ks
  kepts (r ∷ rs) sel i ps ks = (yes, kepts rs (λ κs. (sel κs).1) (suc i) ps ks)

abbrev pub Sig : List Ref → List Plain → Plain → Ended
Sig rs ps res = record { signature = record { lifetimes = length rs; outlives = []; params = slots rs (λ κs. κs) 0 (by_value (length rs) ps); result = plain (λ _. res.of) }; kept = kepts rs (λ κs. κs) 0 (by_value (length rs) ps) (value-kepts (length rs) ps) }

module _ {n : ℕ} (κs : Lfts n) (ps : List (Slot n)) (ks : Kepts ps) where
  abbrev pub ref-args : (rs : List Ref) (sel : Lfts n → Lfts (length rs)) (i : ℕ) → Locs rs → Helds rs → Denots (types_at ps κs) → Denots (types_at (slots rs sel i ps) κs)
  ref-args [] sel i ls xs a = a
  ref-args (slice R ∷ rs) sel i ls xs a = (ref-at ls.0 xs.0, ref-args rs (λ κs. (sel κs).1) (suc i) ls.1 xs.1 a)
  ref-args (cell R ∷ rs) sel i ls xs a = (ref-at ls.0 xs.0, ref-args rs (λ κs. (sel κs).1) (suc i) ls.1 xs.1 a)
  ref-args (seen-slice R L ∷ rs) sel i ls xs a = (seen-at ls.0 xs.0, ref-args rs (λ κs. (sel κs).1) (suc i) ls.1 xs.1 a)
  ref-args (seen-cell R L ∷ rs) sel i ls xs a = (seen-at ls.0 xs.0, ref-args rs (λ κs. (sel κs).1) (suc i) ls.1 xs.1 a)

  abbrev pub ref-vals : (rs : List Ref) (sel : Lfts n → Lfts (length rs)) (i : ℕ) → Locs rs → Valss (types_at ps κs) → Valss (types_at (slots rs sel i ps) κs)
  ref-vals [] sel i ls vss = vss
  ref-vals (r ∷ rs) sel i ls vss = (pointer r ls.0 ∷ [], ref-vals rs (λ κs. (sel κs).1) (suc i) ls.1 vss)

  -- the last values that a clause binds: those of the references, and of a `&` the one that it was passed at
  abbrev pub ref-lasts : (rs : List Ref) (sel : Lfts n → Lfts (length rs)) (i : ℕ) (a : Denots (types_at (slots rs sel i ps) κs)) → Fins κs (slots rs sel i ps) (kepts rs sel i ps ks) a → Helds rs
  ref-lasts [] sel i a ws = tt
  ref-lasts (slice R ∷ rs) sel i a ws = (ws.0, ref-lasts rs (λ κs. (sel κs).1) (suc i) a.1 ws.1)
  ref-lasts (cell R ∷ rs) sel i a ws = (ws.0, ref-lasts rs (λ κs. (sel κs).1) (suc i) a.1 ws.1)
  ref-lasts (seen-slice R L ∷ rs) sel i a ws = (a.0.now, ref-lasts rs (λ κs. (sel κs).1) (suc i) a.1 ws.1)
  ref-lasts (seen-cell R L ∷ rs) sel i a ws = (a.0.now, ref-lasts rs (λ κs. (sel κs).1) (suc i) a.1 ws.1)

-- ---- all of them are lent: a `&mut` for a lifetime that is made for it, under a ghost name of its own, and a `&` as it is
abbrev pub Mark : Ref → Type 0
Mark (slice R) = ℕ × GName
Mark (cell R) = ℕ × GName
Mark (seen-slice R L) = Unit {0}
Mark (seen-cell R L) = Unit {0}

abbrev pub Marks : List Ref → Type 0
Marks [] = Unit {0}
Marks (r ∷ rs) = Mark r × Marks rs

abbrev pub lent_at : (r : Ref) → Loc → Mark r → Loc
lent_at (slice R) l m = record { b = l.b; o = l.o; n = l.n; γ = m.1; κ = m.0 ∷ []; q = full_share }
lent_at (cell R) l m = record { b = l.b; o = l.o; n = l.n; γ = m.1; κ = m.0 ∷ []; q = full_share }
lent_at (seen-slice R L) l m = l
lent_at (seen-cell R L) l m = l

abbrev pub lent-ats : (rs : List Ref) → Locs rs → Marks rs → Locs rs
lent-ats [] ls m = tt
lent-ats (r ∷ rs) ls m = (lent_at r ls.0 m.0, lent-ats rs ls.1 m.1)

-- the lifetimes that they are lent for, and the share of each one's token that goes along
abbrev pub lifetimes : (rs : List Ref) → Locs rs → Marks rs → Lfts (length rs)
lifetimes [] ls m = tt
lifetimes (r ∷ rs) ls m = ((lent_at r ls.0 m.0).κ, lifetimes rs ls.1 m.1)

abbrev pub portions : (rs : List Ref) → Locs rs → Marks rs → Shares (length rs)
portions [] ls m = tt
portions (r ∷ rs) ls m = ((lent_at r ls.0 m.0).q, portions rs ls.1 m.1)

-- of a `&mut` that is the whole of a new token
abbrev pub wholes : (rs : List Ref) → Shares (length rs)
wholes [] = tt
wholes (r ∷ rs) = (full_share, wholes rs)

pub mut-portions : (R T : RattleType) (ls : Locs (slice R ∷ cell T ∷ [])) (m : Marks (slice R ∷ cell T ∷ [])) → portions (slice R ∷ cell T ∷ []) ls m ≡ wholes (slice R ∷ cell T ∷ [])
mut-portions R T ls m = refl

pub mut-lifetimes : (R T : RattleType) (ls : Locs (slice R ∷ cell T ∷ [])) (m : Marks (slice R ∷ cell T ∷ [])) → lifetimes (slice R ∷ cell T ∷ []) ls m ≡ (m.0.0 ∷ [], (m.1.0.0 ∷ [], tt))
mut-lifetimes R T ls m = refl

-- what the lender keeps meanwhile
abbrev pub Keep : (r : Ref) → Loc → Mark r → Held r → Fml
Keep (slice R) l m ys = fsep (flent (m.0 ∷ []) (Lend.Held R (length ys) l.b l.o m.1)) (fsep (fobor l.κ l.q (Lend.Held R (length ys) l.b l.o l.γ)) (fsep (fobs l.γ ((coded_holeys R).code (heres R ys))) (fauth l.γ ((coded_holeys R).code (heres R ys)))))
Keep (cell R) l m y = Lend.LentAgain R l.κ (m.0 ∷ []) l.q l.γ l.b l.o m.1 y
Keep (seen-slice R L) l m ys = Live (seen-slice R L) l ys
Keep (seen-cell R L) l m y = Live (seen-cell R L) l y

abbrev pub Keeps : (rs : List Ref) → Locs rs → Marks rs → Helds rs → Fml
Keeps [] ls m xs = ftrue
Keeps (r ∷ rs) ls m xs = fsep (Keep r ls.0 m.0 xs.0) (Keeps rs ls.1 m.1 xs.1)

-- what says the last value of what was lent as z: of a `&` it is what it was
abbrev pub Said : (r : Ref) → Mark r → Held r → Held r → Fml
Said (slice R) m ys zs = fsep (finally R m.1 zs) (feq ℕ (length zs) (length ys))
Said (cell R) m y z = fres m.1 (R.coded.code z)
Said (seen-slice R L) m ys zs = feq (List R.Denot) zs ys
Said (seen-cell R L) m y z = feq R.Denot z y

abbrev pub Saids : (rs : List Ref) → Marks rs → Helds rs → Helds rs → Fml
Saids [] m xs zs = ftrue
Saids (r ∷ rs) m xs zs = fsep (Said r m.0 xs.0 zs.0) (Saids rs m.1 xs.1 zs.1)

module _ {M : Type 1} {𝓤 : Ura M} (𝓛 : Logic 𝓤) where
  open 𝓛 use {H, A}

  -- what there is once a reference is lent: itself, its token, and what is kept
  abbrev Lent : (r : Ref) (l : Loc) (x : Held r) → Mark r → SProp 𝓤
  Lent r l x m = sep 𝓤 (sep 𝓤 (sem 𝓛 (Live r (lent_at r l m) x)) (A.lft (lent_at r l m).κ (lent_at r l m).q)) (sem 𝓛 (Keep r l m x))

  again : (R : RattleType) (l : Loc) (ν : ℕ) (ys : List R.Denot) → ent 𝓤 (sep 𝓤 (sem 𝓛 (Live (slice R) l ys)) (A.lft l.κ l.q)) (H.⇛ (ex 𝓤 (λ (δ : GName). sep 𝓤 (sem 𝓛 (Live (slice R) (lent_at (slice R) l (ν, δ)) ys)) (sem 𝓛 (Keep (slice R) l (ν, δ) ys)))))
  again R l ν ys =
      qed 𝓛 (‵ (Live (slice R) l ys) ∷ ‵ (flft l.κ l.q) ∷ []) ∵ updating ! $ fsplit ! $ pure_l ! (mut_slice_at R (ref-at l ys) (slice_val (l.b, l.o) l.n ∷ [])) (λ p. fsplit ! $ opens_slice ! tt R ys l.b l.o $
      use1 𝓛 (‵ (cells (mem R) ys l.b l.o)) (whole_in 𝓛 R ys l.b l.o) $
      use1 𝓛 (later (some (λ (δ : GName). ‵ ((MutSlice erased (ν ∷ []) R).own_val (ref-at (lent_at (slice R) l (ν, δ)) ys) (slice_val (l.b, l.o) (length ys) ∷ [])) ⊛ ‵ (flent (ν ∷ []) (Lend.Held R (length ys) l.b l.o δ))))) (Lend.lends_slice 𝓛 R erased (ν ∷ []) ys l.b l.o p.1) $ await ! tt $ pick ! (λ δ. split ! $
      rewrite ! 0 (λ (us : List Val). ‵ ((MutSlice erased (ν ∷ []) R).own_val (ref-at (lent_at (slice R) l (ν, δ)) ys) us)) (sym p.0) refl $
      at_once ! $ show ! (λ (δ : GName). sep 𝓤 (sem 𝓛 (Live (slice R) (lent_at (slice R) l (ν, δ)) ys)) (sem 𝓛 (Keep (slice R) l (ν, δ) ys))) δ $ frame ! $
      move ! (2 ∷ 3 ∷ []) $ fjoin ! $ move ! (2 ∷ 0 ∷ []) $ fjoin ! $ move ! (1 ∷ 0 ∷ []) $ fjoin ! $ done !))

  lends : (r : Ref) (l : Loc) (x : Held r) → ent 𝓤 (sep 𝓤 (sem 𝓛 (Live r l x)) (A.lft l.κ l.q)) (H.⇛ (ex 𝓤 (Lent r l x)))
  lends (slice R) l ys =
      qed 𝓛 (‵ (Live (slice R) l ys) ∷ ‵ (flft l.κ l.q) ∷ []) ∵ updating ! $ lft_new ! tt (λ ν. move ! (1 ∷ 2 ∷ []) $
      use2 𝓛 (later (some (λ (δ : GName). ‵ (Live (slice R) (lent_at (slice R) l (ν, δ)) ys) ⊛ ‵ (Keep (slice R) l (ν, δ) ys)))) (again R l ν ys) $ await ! tt $ pick ! (λ δ. split ! $
      -- [lent; kept; the new token]
      at_once ! $ show ! (Lent (slice R) l ys) (ν, δ) $ move ! (0 ∷ 2 ∷ []) $ join ! $ frame ! $ done !))
  lends (cell R) l y =
      qed 𝓛 (‵ (Live (cell R) l y) ∷ ‵ (flft l.κ l.q) ∷ []) ∵ updating ! $ lft_new ! tt (λ ν. move ! (1 ∷ 2 ∷ []) $
      use2 𝓛 (later (some (λ (δ : GName). ‵ (Live (cell R) (lent_at (cell R) l (ν, δ)) y) ⊛ ‵ (Keep (cell R) l (ν, δ) y)))) (Lend.lends_again 𝓛 R erased l.κ (ν ∷ []) l.q l.γ l.b l.o erased y) $ await ! tt $ pick ! (λ δ. split ! $
      at_once ! $ show ! (Lent (cell R) l y) (ν, δ) $ move ! (0 ∷ 2 ∷ []) $ join ! $ frame ! $ done !))
  lends (seen-slice R L) l ys =
      qed 𝓛 (‵ (Live (seen-slice R L) l ys) ∷ ‵ (flft l.κ l.q) ∷ []) ∵ updating ! $ use1 𝓛 (‵ (Live (seen-slice R L) l ys) ⊛ ‵ (Live (seen-slice R L) l ys)) ((shr_slice_copy 𝓛 erased l.κ R L).twice (seen-at l ys) (slice_val (l.b, l.o) l.n ∷ [])) $ split ! $
      at_once ! $ show ! (Lent (seen-slice R L) l ys) tt $ move ! (0 ∷ 2 ∷ []) $ join ! $ frame ! $ done !
  lends (seen-cell R L) l y =
      qed 𝓛 (‵ (Live (seen-cell R L) l y) ∷ ‵ (flft l.κ l.q) ∷ []) ∵ updating ! $ use1 𝓛 (‵ (Live (seen-cell R L) l y) ⊛ ‵ (Live (seen-cell R L) l y)) ((shr_copy 𝓛 erased l.κ R L).twice (seen-at l y) (vptr l.b l.o ∷ [])) $ split ! $
      at_once ! $ show ! (Lent (seen-cell R L) l y) tt $ move ! (0 ∷ 2 ∷ []) $ join ! $ frame ! $ done !

  backs : (r : Ref) (l : Loc) (m : Mark r) (x z : Held r) → Told r l x → ent 𝓤 (sep 𝓤 (A.lft (lent_at r l m).κ (lent_at r l m).q) (sep 𝓤 (sem 𝓛 (Keep r l m x)) (sem 𝓛 (Said r m x z)))) (H.⇛ (sep 𝓤 (sem 𝓛 (Live r l z)) (A.lft l.κ l.q)))
  backs (slice R) l m ys zs p =
      qed 𝓛 (‵ (flft (m.0 ∷ []) full_share) ∷ ‵ (Keep (slice R) l m ys) ∷ ‵ (Said (slice R) m ys zs) ∷ []) ∵ updating ! $ lft_end ! tt $ move ! (2 ∷ []) $ fsplit ! $ move ! (1 ∷ []) $ feq_l ! (λ e. move ! (2 ∷ []) $ fsplit ! $ move ! (3 ∷ 0 ∷ 2 ∷ []) $
      use3 𝓛 (later (‵ ((Arr (mem R) (length ys)).own_at zs l.b l.o))) (Lend.slice_back 𝓛 R (m.0 ∷ []) m.1 zs (length ys) l.b l.o) $ await ! tt $ fsplit ! $ drop ! $ use1 𝓛 (‵ (Cells-of R full_share zs l.b l.o)) (whole_out 𝓛 R zs l.b l.o) $
      move ! (1 ∷ []) $ fsplit ! $ move ! (1 ∷ []) $ fsplit ! $ move ! (3 ∷ 2 ∷ 0 ∷ 1 ∷ []) $ closes_slice ! tt R ys zs e l.b l.o $ at_once ! $
      fjoin ! $ pure_i ! (mut_slice_at R (ref-at l zs) (slice_val (l.b, l.o) l.n ∷ [])) (tt, (tt, tt)) (p.0 ∙ ap (λ (m : ℕ). slice_val (l.b, l.o) m ∷ []) (sym e), subst (Room R) (sym e) p.1) $ fjoin ! $ done !)
  backs (cell R) l m y z p =
      qed 𝓛 (‵ (flft (m.0 ∷ []) full_share) ∷ ‵ (Keep (cell R) l m y) ∷ ‵ (Said (cell R) m y z) ∷ []) ∵ updating ! $ lft_end ! tt $
      use3 𝓛 (later (‵ (Live (cell R) l z) ⊛ ‵ (flft l.κ l.q))) (Lend.comes_back 𝓛 R erased l.κ (m.0 ∷ []) l.q l.γ l.b l.o m.1 y z) $ await ! tt $ at_once ! $ done !
  backs (seen-slice R L) l m ys zs p =
      qed 𝓛 (‵ (flft l.κ l.q) ∷ ‵ (Live (seen-slice R L) l ys) ∷ ‵ (feq (List R.Denot) zs ys) ∷ []) ∵ updating ! $ move ! (2 ∷ []) $ feq_l ! (λ e. rewrite ! 1 (λ (us : List R.Denot). ‵ (Live (seen-slice R L) l us)) (sym e) refl $ at_once ! $ move ! (1 ∷ 0 ∷ []) $ done !)
  backs (seen-cell R L) l m y z p =
      qed 𝓛 (‵ (flft l.κ l.q) ∷ ‵ (Live (seen-cell R L) l y) ∷ ‵ (feq R.Denot z y) ∷ []) ∵ updating ! $ move ! (2 ∷ []) $ feq_l ! (λ e. rewrite ! 1 (λ (u : R.Denot). ‵ (Live (seen-cell R L) l u)) (sym e) refl $ at_once ! $ move ! (1 ∷ 0 ∷ []) $ done !)

  pub lends-all : (rs : List Ref) (ls : Locs rs) (xs : Helds rs) → ent 𝓤 (sem 𝓛 (Alls rs ls xs)) (H.⇛ (ex 𝓤 (λ (m : Marks rs). sep 𝓤 (sem 𝓛 (Alls rs (lent-ats rs ls m) xs)) (sem 𝓛 (Keeps rs ls m xs)))))
  lends-all [] ls xs = qed 𝓛 (‵ ftrue ∷ []) ∵ updating ! $ at_once ! $ show ! (λ (m : Unit {0}). sep 𝓤 (emp 𝓤) (emp 𝓤)) tt $ frame ! $ use0 𝓛 (‵ ftrue) (id⊢ 𝓤 _) $ done !
  lends-all (r ∷ rs) ls xs =
      qed 𝓛 (‵ (Live r ls.0 xs.0) ∷ ‵ (fsep (flft ls.0.κ ls.0.q) (Alls rs ls.1 xs.1)) ∷ []) ∵ updating ! $ move ! (1 ∷ []) $ fsplit ! $ move ! (2 ∷ 0 ∷ []) $
      use2 𝓛 (later (some (λ (m : Mark r). (‵ (Live r (lent_at r ls.0 m) xs.0) ⊛ ‵ (flft (lent_at r ls.0 m).κ (lent_at r ls.0 m).q)) ⊛ ‵ (Keep r ls.0 m xs.0)))) (lends r ls.0 xs.0) $ await ! tt $ pick ! (λ m. split ! $ split ! $ move ! (3 ∷ []) $
      use1 𝓛 (later (some (λ (ms : Marks rs). ‵ (Alls rs (lent-ats rs ls.1 ms) xs.1) ⊛ ‵ (Keeps rs ls.1 ms xs.1)))) (lends-all rs ls.1 xs.1) $ await ! tt $ pick ! (λ ms. split ! $
      -- [all the others; what is kept of them; this one; its token; what is kept of it]
      at_once ! $ show ! (λ (m : Marks (r ∷ rs)). sep 𝓤 (sem 𝓛 (Alls (r ∷ rs) (lent-ats (r ∷ rs) ls m) xs)) (sem 𝓛 (Keeps (r ∷ rs) ls m xs))) (m, ms) $
      move ! (3 ∷ 0 ∷ []) $ fjoin ! $ move ! (2 ∷ 0 ∷ []) $ fjoin ! $ frame ! $ move ! (1 ∷ 0 ∷ []) $ fjoin ! $ done !))

  pub backs-all : (rs : List Ref) (ls : Locs rs) (m : Marks rs) (xs zs : Helds rs) → Tolds rs ls xs → ent 𝓤 (sep 𝓤 (toks 𝓛 (length rs) (lifetimes rs ls m) (portions rs ls m)) (sep 𝓤 (sem 𝓛 (Keeps rs ls m xs)) (sem 𝓛 (Saids rs m xs zs)))) (H.⇛ (sem 𝓛 (Alls rs ls zs)))
  backs-all [] ls m xs zs p = via 𝓤 (emp 𝓤) (fst∗ 𝓤 (emp 𝓤) (sep 𝓤 (emp 𝓤) (emp 𝓤))) (𝓛.laws.⇛_intro (emp 𝓤))
  backs-all (r ∷ rs) ls m xs zs p =
      qed 𝓛 ((‵ (flft (lent_at r ls.0 m.0).κ (lent_at r ls.0 m.0).q) ⊛ raw (toks 𝓛 (length rs) (lifetimes rs ls.1 m.1) (portions rs ls.1 m.1))) ∷ ‵ (Keeps (r ∷ rs) ls m xs) ∷ ‵ (Saids (r ∷ rs) m xs zs) ∷ []) ∵ updating ! $ split ! $ move ! (2 ∷ []) $ fsplit ! $ move ! (4 ∷ []) $ fsplit ! $
      -- [said; saids; kept; the others'; this one's token; the other tokens]
      move ! (4 ∷ 2 ∷ 0 ∷ []) $ use3 𝓛 (later (‵ (Live r ls.0 zs.0) ⊛ ‵ (flft ls.0.κ ls.0.q))) (backs r ls.0 m.0 xs.0 zs.0 p.0) $ await ! tt $ split ! $
      -- [live; token; saids; the others'; the other tokens]
      move ! (4 ∷ 3 ∷ 2 ∷ []) $ use3 𝓛 (later (‵ (Alls rs ls.1 zs.1))) (backs-all rs ls.1 m.1 xs.1 zs.1 p.1) $ await ! tt $ at_once ! $ move ! (2 ∷ 0 ∷ []) $ fjoin ! $ move ! (1 ∷ 0 ∷ []) $ fjoin ! $ done !
