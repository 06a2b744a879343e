-- `put_bit` meets its contract: a bit that is 0 has room.
use Prim.Native.Nat.{◌/◌, ◌%◌, ◌^◌}
use native.Mathlib.Omega.{arith}
use lib.ListN.{get_or}
use borrow.Author.Tests.{eqb-false}
use Rattle.rules.specs.Passes.Tables.{has, put}
use Rattle.audit.proofs.Bits.{shift_one, bit-room}
use Rattle.audit.proofs.tally.put_bit.Goals as goal

pub overflow_add-words : goal.overflow_add-words
unfolding has
overflow_add-words c =
    let b = c.args.i % 64 in
    let word = get_or c.args.words (c.args.i / 64) 0 in
    let free = eqb-false (word / 2 ^ b % 2) 1 c.requires.1 in
    record { fits = rw (shift_one b (omega arith)) (bit-room word b c.element_fits.fits (omega arith) (omega (arith, free))) }

pub returns : goal.returns
unfolding put
returns c = simp (shift_one (c.args.i % 64) (omega arith))
