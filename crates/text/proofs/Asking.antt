-- How the words that follow a call's first are read as so many numbers. Assumes nothing.
use mathlib.Core.Path.{◌≡◌, refl, sym, ap, ap₂, ◌∙◌}
use mathlib.Core.List.{List, [], ◌∷◌, ◌++◌, append_assoc, append-nil}
use Prim.Native.Nat.{ℕ, suc, ◌+◌, ◌-◌, ◌≤◌, ◌<◌}
use native.Mathlib.Omega.{arith}
use native.Mathlib.Numerals.{add-one}
use lib.ListN.{length, take, drop, set, replicate, length-set, take-append-drop}
use lib.Seq.{take-suc-set, drop-set-lt, drop-drop, length-take-le}
use Rattle.std.specs.Prelude.{Option, Some, None, option_map}
use Rattle.text.specs.Number.{number_of}
use Rattle.text.specs.Line.{with_number, numbers_of, padded}

-- numbers in front of others
abbrev ahead : List ℕ → Option (List ℕ) → Option (List ℕ)
ahead ns None = None
ahead ns (Some ms) = Some (ns ++ ms)

ahead-one : (ns : List ℕ) (v : ℕ) (m : Option (List ℕ)) → ahead ns (with_number (Some v) m) ≡ ahead (ns ++ (v ∷ [])) m
ahead-one ns v None = refl
ahead-one ns v (Some ms) = ap Some (sym (append_assoc ns (v ∷ []) ms))

-- i of n numbers are read, from the words ws₀; the words ws are left
pub record Gathered (ws₀ : List (List ℕ)) (n : ℕ) (ws : List (List ℕ)) (i : ℕ) (args : List ℕ) : Type 0 where
  pub few : i ≤ n
  pub long : length args ≡ 11
  pub zeros : drop i args ≡ replicate (11 - i) 0
  pub left : numbers_of n ws₀ ≡ ahead (take i args) (numbers_of (n - i) ws)

numbers_more : (n i : ℕ) (ws : List (List ℕ)) → i < n → numbers_of (n - i) ws ≡ numbers_of (suc (n - (i + 1))) ws
numbers_more n i ws h =
    let one : n - i ≡ suc (n - (i + 1)) = omega arith in
    ap (λ (m : ℕ). numbers_of m ws) one

zeros-more : (args : List ℕ) (i v : ℕ) → i < 11 → drop i args ≡ replicate (11 - i) 0 → drop (i + 1) (set args i v) ≡ replicate (11 - (i + 1)) 0
zeros-more args i v h e =
    let one : 11 - i ≡ suc (11 - (i + 1)) = omega arith in
    drop-set-lt (i + 1) args i v (omega arith) ∙ sym (drop-drop 1 i args) ∙ ap (drop 1) (e ∙ ap (λ (m : ℕ). replicate m 0) one)

module _ {ws₀ ws : List (List ℕ)} {n i : ℕ} {args : List ℕ} where
  pub gathered-more : {w : List ℕ} {ws' : List (List ℕ)} {v : ℕ} → Gathered ws₀ n ws i args → i < n → n ≤ 11 → ws ≡ w ∷ ws' → number_of w ≡ Some v
      → Gathered ws₀ n ws' (i + 1) (set args i v)
  unfolding numbers_of
  gathered-more {w} {ws'} {v} g h k t e =
      let rest : Option (List ℕ) = numbers_of (n - (i + 1)) ws' in
      let taken : take (i + 1) (set args i v) ≡ take i args ++ (v ∷ []) = rw add-one (take-suc-set args i v (omega (arith, g.long))) in
      record {
        few = omega arith;
        long = length-set args i v ∙ g.long;
        zeros = zeros-more args i v (omega arith) g.zeros;
        left = g.left
            ∙ ap (ahead (take i args)) (numbers_more n i ws h ∙ ap (numbers_of (suc (n - (i + 1)))) t ∙ ap (λ (x : Option ℕ). with_number x rest) e)
            ∙ ahead-one (take i args) v rest
            ∙ ap (λ (ns : List ℕ). ahead ns rest) (sym taken);
      }

  fails : Gathered ws₀ n ws i args → numbers_of (n - i) ws ≡ None → None ≡ option_map padded (numbers_of n ws₀)
  fails g h = sym (ap (option_map padded) (g.left ∙ ap (ahead (take i args)) h))

  pub gathered-missing : Gathered ws₀ n ws i args → i < n → ws ≡ [] → None ≡ option_map padded (numbers_of n ws₀)
  unfolding numbers_of
  gathered-missing g h t = fails g (numbers_more n i ws h ∙ ap (numbers_of (suc (n - (i + 1)))) t)

  pub gathered-not : {w : List ℕ} {ws' : List (List ℕ)} → Gathered ws₀ n ws i args → i < n → ws ≡ w ∷ ws' → number_of w ≡ None
      → None ≡ option_map padded (numbers_of n ws₀)
  unfolding numbers_of
  gathered-not {w} {ws'} g h t e =
      fails g (numbers_more n i ws h ∙ ap (numbers_of (suc (n - (i + 1)))) t ∙ ap (λ (x : Option ℕ). with_number x (numbers_of (n - (i + 1)) ws')) e)

  pub gathered-extra : {w : List ℕ} {ws' : List (List ℕ)} → Gathered ws₀ n ws i args → n ≤ i → ws ≡ w ∷ ws'
      → None ≡ option_map padded (numbers_of n ws₀)
  unfolding numbers_of
  gathered-extra g h t =
      let all : n - i ≡ 0 = omega arith in
      fails g (ap₂ numbers_of all t)

  pub gathered-end : Gathered ws₀ n ws i args → n ≤ i → n ≤ 11 → ws ≡ [] → Some args ≡ option_map padded (numbers_of n ws₀)
  unfolding numbers_of
  gathered-end g h k t =
      let all : n - i ≡ 0 = omega arith in
      let size : length (take i args) ≡ i = length-take-le i args (omega (arith, g.few, g.long)) in
      let whole : args ≡ padded (take i args)
      = rw (size, ← g.zeros) (sym (take-append-drop i args)) in
      ap Some whole
      ∙ sym (ap (option_map padded) (g.left ∙ ap (ahead (take i args)) (ap₂ numbers_of all t) ∙ ap Some (append-nil (take i args))))
