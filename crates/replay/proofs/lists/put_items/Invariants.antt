-- The slots that are left come after those that are put.
use Rattle.std.proofs.Common.{◌≡◌, ◌-◌}
use Rattle.text.specs.Out.{out as Out·out}
use Rattle.replay.specs.Answer.{put_listed}
use Rattle.replay.proofs.lists.put_items.Given as goal

abbrev pub invariant-loop : goal.invariant-loop
invariant-loop l =
    record {
      same : l.out.bytes.ghost_name ≡ l.initial.out.bytes.ghost_name;
      put : put_listed l.slots l.full (l.count - l.counter) l.at (Out·out l.out.bytes.now l.out.at)
          ≡ put_listed l.slots l.full l.count l.first (Out·out l.initial.out.bytes.now l.initial.out.at);
    }
