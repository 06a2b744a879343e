-- Those up to `i` are put.
use Rattle.std.proofs.Common.{length, ◌≡◌}
use Rattle.text.specs.Out.{out as Out·out}
use Rattle.answers.proofs.Saying.{Joining}
use Rattle.answers.proofs.buffers.put_items.Given as goal

abbrev pub invariant-loop-i : goal.invariant-loop-i
invariant-loop-i g l =
    record {
      same : l.out.bytes.ghost_name ≡ l.initial.out.bytes.ghost_name;
      long : length l.out.bytes.now ≡ length l.initial.out.bytes.now;
      put : Joining (g.T.Items.text l.items) l.count (Out·out l.initial.out.bytes.now l.initial.out.at) l.out.bytes.now l.out.at l.i;
    }
