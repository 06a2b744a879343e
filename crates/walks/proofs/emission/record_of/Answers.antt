-- The header's bytes, or zeros, and each number behind what is there.
use Rattle.std.proofs.Common.{◌≡◌, refl, ℕ, Result, Ok, Err}
use Rattle.std.specs.Result.{result_unwrap_or}
use Rattle.refusal.specs.declared.Refusal.{Refusal}
use Rattle.wire.specs.Header.{length_of}
use Rattle.message.specs.Capped.{capped}
use Rattle.walks.proofs.Recorded.{record-built}
use Rattle.walks.proofs.emission.record_of.Goals as goal

-- 0 stands for the length of a refused header
stands : (r : Result ℕ Refusal) → result_unwrap_or r 0 ≡ length_of r
stands (Ok k) = refl
stands (Err r) = refl

pub returns : goal.returns
returns c =
    rw (
      c.put_number-4.ensures,
      c.put_number-3.ensures,
      c.put_number-2.ensures,
      c.put_number.ensures,
      c.copy_from_slice.ensures.after,
      c.unwrap_or.ensures,
      stands c.write-written.result.size,
      c.write-written.ensures,
      c.header_of.ensures,
    ) (record-built (capped c.args.s) c.args.q)
