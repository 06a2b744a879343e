-- What a line that is too long answers. Assumes nothing.
use mathlib.Core.Path.{◌≡◌, sym, ap, ◌∙◌}
use mathlib.Core.List.{List}
use Prim.Native.Nat.{ℕ, ◌<◌}
use native.Mathlib.Omega.{arith}
use native.Mathlib.Decide.{dec_lt}
use lib.ListN.{length, take, length-take}
use lib.Seq.{take_all}
use Rattle.text.specs.declared.Parsed.{Parsed}
use Rattle.text.proofs.Lines.{too_long}
use Rattle.answers.specs.Said.{unread_text}
use Rattle.answers.specs.Plain.{ask_text, text_of}

-- by its front: keeping 20,001 bytes of it loses nothing

unread : (l : List ℕ) (n : ℕ) → 20000 < length l → unread_text n ≡ text_of l n
unfolding text_of
unread l n h = ap (λ (p : Parsed). ask_text p.ask p.args l n) (too_long l h)

pub kept-text : (l : List ℕ) (n : ℕ) → text_of (take 20001 l) n ≡ text_of l n
kept-text l n = go (dec_lt 20000 (length l))
  where
    go : Dec (20000 < length l) → text_of (take 20001 l) n ≡ text_of l n
    go (yes h) = sym (unread (take 20001 l) n (simp length-take (omega arith))) ∙ unread l n h
    go (no h) = ap (λ (x : List ℕ). text_of x n) (take_all 20001 l (omega arith))
