-- Bytes that are put in the place of others.
use mathlib.Core.Path.{◌≡◌, sym, ◌∙◌}
use mathlib.Core.List.{List, ◌++◌, append_assoc}
use Prim.Native.Nat.{ℕ, ◌+◌, ◌≤◌, ◌<◌}
use native.Mathlib.Omega.{arith}
use borrow.Author.Tests.{le-leb, lt-leb}
use borrow.Rule.Slice.PartMut.{put_mid}
use lib.ListN.{length, take, drop, length-append}
use lib.Seq.{take-append_seam, drop-append-add, drop-drop}
use Rattle.rules.specs.Calls.{overlaid}
use Rattle.walks.specs.Acting.{placed}

-- ---- where there is room, and where there is not

pub placed-in : (at : ℕ) (new old : List ℕ) → at + length new ≤ length old → placed at new old ≡ take at old ++ new ++ drop (at + length new) old
unfolding placed
placed-in at new old h = rw (le-leb (at + length new) (length old) h)

pub placed-out : (at : ℕ) (new old : List ℕ) → length old < at + length new → placed at new old ≡ old
unfolding placed
placed-out at new old h = rw (lt-leb (at + length new) (length old) h)

-- behind what is written already, new bytes take the place of as many
pub placed-behind : (front new rest : List ℕ) (at : ℕ) → at ≡ length front → length new ≤ length rest
    → placed at new (front ++ rest) ≡ (front ++ new) ++ drop (length new) rest
placed-behind front new rest at e h =
    rw e (placed-in (length front) new (front ++ rest) (omega (arith, length-append front rest)) ∙ rw (take-append_seam front rest, drop-append-add front rest (length new)))

pub overlaid-behind : (new more old : List ℕ) → new ++ overlaid more (drop (length new) old) ≡ overlaid (new ++ more) old
overlaid-behind new more old =
    rw (length-append new more, drop-drop (length more) (length new) old) (sym (append_assoc new more (drop (length new + length more) old)))

-- bytes that are copied into a slice
pub copied-placed : (at k : ℕ) (new old now : List ℕ) → now ≡ new → k ≡ length new → at + length new ≤ length old → put_mid at k old now ≡ placed at new old
copied-placed at k new old now e l h =
    rw (e, l, drop-drop (length new) at old) (sym (append_assoc (take at old) new (drop (at + length new) old)) ∙ sym (placed-in at new old h))
