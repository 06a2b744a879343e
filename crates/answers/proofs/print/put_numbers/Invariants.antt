-- The numbers so far are put.
use Rattle.std.proofs.Common.{length, ◌≡◌}
use Rattle.text.specs.Out.{out as Out·out}
use Rattle.text.proofs.Putting.{Putting}
use Rattle.answers.specs.Said.{spaced}
use Rattle.answers.proofs.print.put_numbers.Given as goal

abbrev pub invariant-loop-n : goal.invariant-loop-n
invariant-loop-n l =
    record {
      same : l.out.bytes.ghost_name ≡ l.initial.out.bytes.ghost_name;
      long : length l.out.bytes.now ≡ length l.initial.out.bytes.now;
      put : Putting spaced l.numbers (Out·out l.initial.out.bytes.now l.initial.out.at) l.out.bytes.now l.out.at l.n-index;
    }
