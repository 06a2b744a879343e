-- Keeping 20,001 bytes of a line that is too long loses nothing of what it asks. Assumes nothing.
use mathlib.Core.Path.{◌≡◌, ap}
use mathlib.Core.List.{List}
use Prim.Native.Nat.{ℕ}
use lib.ListN.{take}
use Rattle.text.proofs.Lines.{kept-enough}
use Rattle.orders.specs.Ordered.{ordered, order_of}

pub kept-order : (l : List ℕ) → order_of (take 20001 l) ≡ order_of l
unfolding order_of
kept-order l = ap ordered (kept-enough l)
