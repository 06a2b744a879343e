-- Facts on tests, for code.
use mathlib.Core.Path.{◌≡◌}
use mathlib.Core.Bool.{false}
use Prim.Native.Nat.{ℕ}
use native.Mathlib.Omega.{arith}
use lib.Dec.{ltb}
use borrow.Author.Tests.{le-ltb}

-- no buffer is too short where none is needed
pub never-short : (n : ℕ) → ltb n 0 ≡ false
never-short n = le-ltb n 0 (omega arith)
