-- After the walks: the pair's next record, the free queue's ends, the answer.
use Rattle.std.specs.Prelude.{ℕ, Result, Ok, Err}
use Rattle.refusal.specs.declared.Refusal.{Refusal}
use Rattle.rules.specs.declared.Answer.{Answer}
use Rattle.rules.specs.declared.Ends.{Ends}
use Rattle.rules.specs.declared.Pair.{Pair}
use Rattle.rules.specs.declared.Reply.TheVariants as reply
use Rattle.rules.specs.Emission.{moved_to}
use Rattle.walks.specs.declared.Moving.{Moving}
use Rattle.walks.specs.declared.Leaving.{Leaving}
use Rattle.walks.specs.declared.Joining.{Joining}
use Rattle.walks.specs.declared.Emitting.{Emitting}
use Rattle.walks.specs.Ended.{shorter, longer, free_longer, free_shorter}
use Rattle.engine.specs.declared.Told.{Told}
use Rattle.engine.specs.declared.Told.TheVariants.{Answered, First, Count}
use Rattle.engine.specs.declared.Plan.{Plan}
use Rattle.engine.specs.declared.Settled.{Settled}

-- nothing is written
abbrev pub refused_settled : Pair → Ends → Refusal → Settled
refused_settled p e r = record { pair = p; ends = e; reply = Err r }

-- slots have left the pair for the free queue
abbrev pub left_settled : Pair → Plan → Moving → Answer → ℕ → ℕ → Settled
left_settled p g w a messages place =
    record {
      pair = record { standing = g.standing; queue = shorter p.queue g.leaving.moving.left w };
      ends = free_longer w;
      reply = Ok (reply.Answered a messages place);
    }

-- slots of the free queue have joined the pair
abbrev pub joined_settled : Pair → Ends → Plan → Moving → ℕ → Settled
joined_settled p e g w n =
    record {
      pair = record { standing = g.standing; queue = longer p.queue g.joining.total w };
      ends = free_shorter e w;
      reply = Ok (reply.First n);
    }

-- packets have gone out; every slot is where it was
abbrev pub emitted_settled : Pair → Ends → Plan → Emitting → Settled
emitted_settled p e g m =
    record { pair = record { standing = moved_to m.x g.standing; queue = p.queue }; ends = e; reply = Ok (reply.Count m.total) }

abbrev pub settled_by : Result Told Refusal → Pair → Ends → Plan → Leaving → Joining → Emitting → Settled
settled_by (Err r) p e g l j m = refused_settled p e r
settled_by (Ok (Answered a place)) p e g l j m = left_settled p g l.moving a l.messages place
settled_by (Ok (First n)) p e g l j m = joined_settled p e g j.moving n
settled_by (Ok Count) p e g l j m = emitted_settled p e g m

unfoldable pub settled_of : Pair → Ends → Plan → Leaving → Joining → Emitting → Settled
settled_of p e g l j m = settled_by g.told p e g l j m
