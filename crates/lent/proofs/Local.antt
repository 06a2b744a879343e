-- A local of plain data that a function lends: for a while it is one more reference, at a lifetime that is made for it, and then a local again.
-- `plain-array`: an array of plain elements is plain. `lends-cell`, `backs-cell` for `&mut x`; `lends-array`, `backs-array` for `&mut xs` as a slice. Assumes `Logic`.
use mathlib.Core.Path.{◌≡◌, refl, sym, ap, subst}
use Prim.Native.Nat.{ℕ, zero, suc}
use mathlib.Core.List.{List, [], ◌∷◌, map}
use lib.ListN.{length, replicate}
use seplogic.Ra.Ura.{Ura}
use base.Fraction.{full_share}
use mir.Syntax.{Ty, erased}
use mir.Val.{Val}
use base.Logic.{ent, sep, via, mono_r}
use base.Fml.{GName, Fml, fsep, feq, flft, fat, flent, fres, fdead, fbor}
use types.Logic.{Logic, sem}
use types.Kit.{Item, ‵, raw, ◌⊛◌, some, later, mean, ⋆, nth, del, put, fill, pull, push, pop, Goal, Soaks, Seq, ◌$◌, ◌∵◌, !, qed, by, move, drop, use0, use1, use2, use3, split, pick, fsplit, fjoin, fpick, fpack, await, rewrite, done}
use types.Tokens.{lft_new, lft_end}
use types.SemTy.{cells, Arr, Body as Holds}
use denote.RattleType.{RattleType}
use denote.Laws.{Is, Typed, shows}
use denote.Memory.{mem, lone, cell_at, part_of}
use denote.Array.{Array, array_val, each, Array-Tells, Array-Makes, Array-Typed}
use denote.ArrayMemory.{Single, Array-apart, Array-whole}
use denote.Exit.{each_of}
use denote.Shadow.{shadow}
use denote.Slice.{Room, slice_val, MutSlice, finally}
use denote.Lend as Lend
use denote.Index.{row as Cells-of, whole_in, whole_out}
use denote.Signature.{plain}
use denote.Steps.{peeks}
use denote.Triple.Walked.{Goes-slice, Goes-ref}
use Rattle.lent.proofs.Plain.{Plain, Fits}
use Rattle.lent.proofs.Refs.{slice, cell, Loc, Live, ref-at}

-- ---- arrays
abbrev pub AllFit : (P : Plain) → List P.of.Denot → Type 0
AllFit P [] = Unit {0}
AllFit P (x ∷ xs) = Fits P x × AllFit P xs

pub all_fit : (P : Plain) (n : ℕ) (x : P.of.Denot) → Fits P x → AllFit P (replicate n x)
all_fit P zero x g = tt
all_fit P (suc n) x g = (g, all_fit P n x g)

abbrev pub plain-array : Plain → ℕ → Plain
plain-array P n = record {
  of = Array P.of n;
  val = λ xs. array_val (map P.val xs);
  tells = Array-Tells P.of (λ x. P.val x ∷ []) P.tells n;
  makes = λ 𝓛. Array-Makes 𝓛 P.of (P.makes 𝓛) n;
  typed = λ 𝓛 xs g. (Array-Typed P.of (λ x vs is. subst (Typed P.of.mir) (sym (P.tells x vs is)) (P.law 𝓛 x (subst (Is P.of x) (P.tells x vs is) is))) n xs _ g).0;
  law = λ 𝓛 xs g. Array-Typed P.of (λ x vs is. subst (Typed P.of.mir) (sym (P.tells x vs is)) (P.law 𝓛 x (subst (Is P.of x) (P.tells x vs is) is))) n xs _ g;
  still = λ k. ap each_of (P.still k);
}

each_fits : (P : Plain) (xs : List P.of.Denot) → AllFit P xs → shadow (each P.of.Denot P.of.own_val xs (map P.val xs))
each_fits P [] g = tt
each_fits P (x ∷ xs) g = (g.0, each_fits P xs g.1)

pub array-fits : (P : Plain) (n : ℕ) (xs : List P.of.Denot) → AllFit P xs → length xs ≡ n → Fits (plain-array P n) xs
array-fits P n xs g e = (map P.val xs, ((refl, e), each_fits P xs g))

-- ---- a local's cell, and the value lying in memory
module _ {M : Type 1} {𝓤 : Ura M} (𝓛 : Logic 𝓤) where
  open 𝓛 use {H}

  cell_in : (τs : List Ty) → Single τs → (v : Val) (b : ℕ) → ent 𝓤 (H.at full_share (lone τs) b zero v) (sem 𝓛 (cell_at full_share τs (v ∷ []) b zero))
  cell_in [] s v b = absurd s
  cell_in (τ ∷ []) s v b = 𝓛.laws.at_raw full_share τ b zero v
  cell_in (τ ∷ σ ∷ τs) s v b = absurd s

  cell_out : (τs : List Ty) → Single τs → (v : Val) (b : ℕ) → ent 𝓤 (sem 𝓛 (cell_at full_share τs (v ∷ []) b zero)) (H.at full_share (lone τs) b zero v)
  cell_out [] s v b = absurd s
  cell_out (τ ∷ []) s v b = 𝓛.laws.raw_at full_share τ b zero v
  cell_out (τ ∷ σ ∷ τs) s v b = absurd s

  lies_in : (P : Plain) → Single P.of.mir → (x : P.of.Denot) (b : ℕ) → Fits P x → ent 𝓤 (H.at full_share (lone P.of.mir) b zero (P.val x)) (sem 𝓛 ((mem P.of).own_at x b zero))
  unfolding part_of
  lies_in P s x b g = qed 𝓛 (‵ (fat full_share (lone P.of.mir) b zero (P.val x)) ∷ []) ∵ use1 𝓛 (‵ (cell_at full_share P.of.mir (P.val x ∷ []) b zero)) (cell_in P.of.mir s (P.val x) b) $
      use0 𝓛 (‵ (P.of.own_val x (P.val x ∷ []))) (P.makes 𝓛 x _ g) $ move ! (1 ∷ 0 ∷ []) $ fjoin ! $ fpack ! (List Val) (λ vs. fsep (cell_at full_share P.of.mir vs b zero) (P.of.own_val x vs)) (P.val x ∷ []) $ done !

  lies_out : (P : Plain) → Single P.of.mir → (x : P.of.Denot) (b : ℕ) → ent 𝓤 (sem 𝓛 ((mem P.of).own_at x b zero)) (H.at full_share (lone P.of.mir) b zero (P.val x))
  unfolding part_of
  lies_out P s x b = qed 𝓛 (‵ ((mem P.of).own_at x b zero) ∷ []) ∵ fpick ! (λ vs. fsplit ! $ move ! (1 ∷ []) $ peeks ! P.of (Is P.of) (shows 𝓛 P.of) x vs (λ is. drop ! $
      rewrite ! 0 (λ (us : List Val). ‵ (cell_at full_share P.of.mir us b zero)) (P.tells x vs is) refl $ by ! (cell_out P.of.mir s (P.val x) b)))

abbrev pub local-loc : ℕ → ℕ → ℕ → GName → Loc
local-loc b n ν δ = record { b = b; o = 0; n = n; γ = δ; κ = ν ∷ []; q = full_share }

-- what is kept meanwhile, where the local stood
abbrev pub Out-cell : RattleType → ℕ → ℕ → GName → Fml
Out-cell R b ν δ = flent (ν ∷ []) (Holds (mem R) b 0 δ)

abbrev pub Out-slice : RattleType → ℕ → ℕ → ℕ → GName → Fml
Out-slice R b n ν δ = flent (ν ∷ []) (Lend.Held R n b 0 δ)

given_back : {M : Type 1} {𝓤 : Ura M} {𝓛 : Logic 𝓤} {K : Type 0} {G : Goal 𝓤 𝓛.H} (i j : Item 𝓤) (Δ : List (Item 𝓤)) → Seq K 𝓛 (i ∷ j ∷ Δ) G → Seq K 𝓛 (i ∷ j ∷ raw (⋆ 𝓛 Δ) ∷ []) G
given_back {𝓤 = 𝓤} {𝓛} i j Δ s = record { prf = via 𝓤 _ (mono_r 𝓤 (mean 𝓛 i) (push 𝓛 j Δ)) s.prf }

module _ {M : Type 1} {𝓤 : Ura M} {𝓛 : Logic 𝓤} {K : Type 0} {Γ : List (Item 𝓤)} {G : Goal 𝓤 𝓛.H} where
  open 𝓛 use {A}

  taken : (p : ℕ) (i : Item 𝓤) → nth 𝓛 p Γ ≡ i → Seq K 𝓛 (i ∷ raw (⋆ 𝓛 (del 𝓛 p Γ)) ∷ []) G → Seq K 𝓛 Γ G
  taken p i e s = record { prf = via 𝓤 _ (subst (λ (j : Item 𝓤). ent 𝓤 (⋆ 𝓛 Γ) (sep 𝓤 (mean 𝓛 j) (⋆ 𝓛 (del 𝓛 p Γ)))) e (pull 𝓛 p Γ)) s.prf }

  pub lends-cell : K → Soaks G → (P : Plain) → Single P.of.mir → (p : ℕ) (b : ℕ) (x : P.of.Denot) → nth 𝓛 p Γ ≡ ‵ (fat full_share (lone P.of.mir) b zero (P.val x)) → Fits P x
      → ((ν : ℕ) (δ : GName) → Seq K 𝓛 (‵ (Live (cell P.of) (local-loc b 0 ν δ) x) ∷ ‵ (flft (ν ∷ []) full_share) ∷ put 𝓛 p (‵ (Out-cell P.of b ν δ)) Γ) G) → Seq K 𝓛 Γ G
  lends-cell t z P s p b x e g k = taken p (‵ (fat full_share (lone P.of.mir) b zero (P.val x))) e (use1 𝓛 (‵ ((mem P.of).own_at x b zero)) (lies_in 𝓛 P s x b g) $ lft_new t z (λ ν. move t (1 ∷ []) $
      use1 𝓛 (later (some (λ (δ : GName). ‵ (Live (cell P.of) (local-loc b 0 ν δ) x) ⊛ ‵ (Out-cell P.of b ν δ)))) (Lend.lends_ref 𝓛 P.of erased (ν ∷ []) x b zero) $ await t z $ pick t (λ δ. split t $ move t (1 ∷ 3 ∷ []) $
      use2 𝓛 (raw (⋆ 𝓛 (put 𝓛 p (‵ (Out-cell P.of b ν δ)) Γ))) (fill 𝓛 p (‵ (Out-cell P.of b ν δ)) Γ) $ move t (1 ∷ 2 ∷ 0 ∷ []) $ given_back (‵ (Live (cell P.of) (local-loc b 0 ν δ) x)) (‵ (flft (ν ∷ []) full_share)) (put 𝓛 p (‵ (Out-cell P.of b ν δ)) Γ) (k ν δ))))

  pub lends-array : K → Soaks G → (P : Plain) → Single P.of.mir → (n p : ℕ) (b : ℕ) (xs : List P.of.Denot) → nth 𝓛 p Γ ≡ ‵ (fat full_share (lone (Array P.of n).mir) b zero ((plain-array P n).val xs)) → Fits (plain-array P n) xs → length xs ≡ n → Room P.of n
      → ((ν : ℕ) (δ : GName) → Seq K 𝓛 (‵ (Live (slice P.of) (local-loc b n ν δ) xs) ∷ ‵ (flft (ν ∷ []) full_share) ∷ put 𝓛 p (‵ (Out-slice P.of b n ν δ)) Γ) G) → Seq K 𝓛 Γ G
  lends-array t z P s n p b xs e g len room k = taken p (‵ (fat full_share (lone (Array P.of n).mir) b zero ((plain-array P n).val xs))) e (use1 𝓛 (‵ ((mem (Array P.of n)).own_at xs b zero)) (lies_in 𝓛 (plain-array P n) tt xs b g) $
      use1 𝓛 (‵ (fsep (feq ℕ (length xs) n) (Cells-of P.of full_share xs b zero))) (Array-apart 𝓛 P.of full_share s n xs b zero) $ fsplit t $ drop t $ use1 𝓛 (‵ (cells (mem P.of) xs b zero)) (whole_in 𝓛 P.of xs b zero) $ lft_new t z (λ ν. move t (1 ∷ []) $
      use1 𝓛 (later (some (λ (δ : GName). ‵ ((MutSlice erased (ν ∷ []) P.of).own_val (ref-at (local-loc b n ν δ) xs) (slice_val (b, 0) (length xs) ∷ [])) ⊛ ‵ (Out-slice P.of b (length xs) ν δ)))) (Lend.lends_slice 𝓛 P.of erased (ν ∷ []) xs b zero (subst (Room P.of) (sym len) room)) $ await t z $ pick t (λ δ. split t $
      rewrite t 0 (λ (m : ℕ). ‵ ((MutSlice erased (ν ∷ []) P.of).own_val (ref-at (local-loc b n ν δ) xs) (slice_val (b, 0) m ∷ []))) len refl $ rewrite t 1 (λ (m : ℕ). ‵ (Out-slice P.of b m ν δ)) len refl $ move t (1 ∷ 3 ∷ []) $
      use2 𝓛 (raw (⋆ 𝓛 (put 𝓛 p (‵ (Out-slice P.of b n ν δ)) Γ))) (fill 𝓛 p (‵ (Out-slice P.of b n ν δ)) Γ) $ move t (1 ∷ 2 ∷ 0 ∷ []) $ given_back (‵ (Live (slice P.of) (local-loc b n ν δ) xs)) (‵ (flft (ν ∷ []) full_share)) (put 𝓛 p (‵ (Out-slice P.of b n ν δ)) Γ) (k ν δ))))

  pub backs-cell : K → Soaks G → (P : Plain) → Single P.of.mir → (p b : ℕ) {ν : ℕ} {δ : GName} (z : P.of.Denot) → nth 𝓛 p Γ ≡ ‵ (Out-cell P.of b ν δ)
      → Seq K 𝓛 (put 𝓛 p (‵ (fat full_share (lone P.of.mir) b zero (P.val z))) Γ) G → Seq K 𝓛 (‵ (Live (cell P.of) (local-loc b 0 ν δ) z) ∷ ‵ (flft (ν ∷ []) full_share) ∷ Γ) G
  backs-cell t q P s p b {ν} {δ} z e k =
      use1 𝓛 (later (‵ (fsep (fres δ (P.of.coded.code z)) (fbor (ν ∷ []) (Holds (mem P.of) b 0 δ))))) (Goes-ref 𝓛 1 0 tt (plain (λ _. P.of)) (ν ∷ [], tt) (ref-at (local-loc b 0 ν δ) z) z _ tt) $ await t q $ fsplit t $ move t (1 ∷ []) $ drop t $ move t (1 ∷ []) $ lft_end t q $ record {
        prf = via 𝓤 _ (mono_r 𝓤 (A.dead (ν ∷ [])) (via 𝓤 _ (pop 𝓛 (‵ (fres δ (P.of.coded.code z))) Γ) (mono_r 𝓤 (A.res δ (P.of.coded.code z)) (subst (λ (j : Item 𝓤). ent 𝓤 (⋆ 𝓛 Γ) (sep 𝓤 (mean 𝓛 j) (⋆ 𝓛 (del 𝓛 p Γ)))) e (pull 𝓛 p Γ))))) rest.prf;
      }
    where
      rest : Seq K 𝓛 (‵ (fdead (ν ∷ [])) ∷ ‵ (fres δ (P.of.coded.code z)) ∷ ‵ (Out-cell P.of b ν δ) ∷ raw (⋆ 𝓛 (del 𝓛 p Γ)) ∷ []) G
      rest = move t (0 ∷ 2 ∷ 1 ∷ []) $ use3 𝓛 (later (‵ ((mem P.of).own_at z b zero))) (Lend.ref_back 𝓛 P.of (ν ∷ []) δ z b zero) $ await t q $ use1 𝓛 (‵ (fat full_share (lone P.of.mir) b zero (P.val z))) (lies_out 𝓛 P s z b) $
          record { prf = via 𝓤 _ (fill 𝓛 p (‵ (fat full_share (lone P.of.mir) b zero (P.val z))) Γ) k.prf }

  pub backs-array : K → Soaks G → (P : Plain) → Single P.of.mir → (n p b : ℕ) {ν : ℕ} {δ : GName} (zs : List P.of.Denot) → nth 𝓛 p Γ ≡ ‵ (Out-slice P.of b n ν δ)
      → Seq K 𝓛 (put 𝓛 p (‵ (fat full_share (lone (Array P.of n).mir) b zero ((plain-array P n).val zs))) Γ) G → Seq K 𝓛 (‵ (Live (slice P.of) (local-loc b n ν δ) zs) ∷ ‵ (flft (ν ∷ []) full_share) ∷ Γ) G
  backs-array t q P s n p b {ν} {δ} zs e k =
      use1 𝓛 (later (‵ (fsep (fsep (finally P.of δ zs) (feq ℕ (length zs) (length zs))) (fbor (ν ∷ []) (Lend.Held P.of (length zs) b 0 δ))))) (Goes-slice 𝓛 1 0 tt (plain (λ _. P.of)) (ν ∷ [], tt) (ref-at (local-loc b n ν δ) zs) zs _ refl) $ await t q $ fsplit t $ move t (1 ∷ []) $ drop t $ fsplit t $ move t (1 ∷ []) $ drop t $ move t (1 ∷ []) $ lft_end t q $ record {
        prf = via 𝓤 _ (mono_r 𝓤 (A.dead (ν ∷ [])) (via 𝓤 _ (pop 𝓛 (‵ (finally P.of δ zs)) Γ) (mono_r 𝓤 (sem 𝓛 (finally P.of δ zs)) (subst (λ (j : Item 𝓤). ent 𝓤 (⋆ 𝓛 Γ) (sep 𝓤 (mean 𝓛 j) (⋆ 𝓛 (del 𝓛 p Γ)))) e (pull 𝓛 p Γ))))) rest.prf;
      }
    where
      rest : Seq K 𝓛 (‵ (fdead (ν ∷ [])) ∷ ‵ (finally P.of δ zs) ∷ ‵ (Out-slice P.of b n ν δ) ∷ raw (⋆ 𝓛 (del 𝓛 p Γ)) ∷ []) G
      rest = move t (0 ∷ 2 ∷ 1 ∷ []) $ use3 𝓛 (later (‵ ((Arr (mem P.of) n).own_at zs b zero))) (Lend.slice_back 𝓛 P.of (ν ∷ []) δ zs n b zero) $ await t q $ fsplit t $ move t (1 ∷ []) $ use1 𝓛 (‵ (Cells-of P.of full_share zs b zero)) (whole_out 𝓛 P.of zs b zero) $ move t (1 ∷ 0 ∷ []) $ fjoin t $ use1 𝓛 (‵ ((mem (Array P.of n)).own_at zs b zero)) (Array-whole 𝓛 P.of full_share n zs b zero) $
          use1 𝓛 (‵ (fat full_share (lone (Array P.of n).mir) b zero ((plain-array P n).val zs))) (lies_out 𝓛 (plain-array P n) tt zs b) $ record { prf = via 𝓤 _ (fill 𝓛 p (‵ (fat full_share (lone (Array P.of n).mir) b zero ((plain-array P n).val zs))) Γ) k.prf }
