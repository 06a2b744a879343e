-- What each kind of plan comes to, once its walks have run.
use Rattle.std.specs.Prelude.{Ok, Err}
use mathlib.Core.Path.{◌≡◌, sym, ap, ◌∙◌}
use mathlib.Core.Bool.{false}
use mathlib.Core.List.{List}
use Prim.Native.Nat.{ℕ, ◌+◌, ◌%◌, ◌^◌, ◌≤◌, ◌<◌}
use native.Mathlib.Omega.{arith}
use lib.ListN.{length, set}
use lib.Seq.{set-get_or}
use Rattle.refusal.specs.declared.Refusal.{Refusal}
use Rattle.rules.specs.declared.Answer.{Answer}
use Rattle.rules.specs.declared.Outcome.{Outcome}
use Rattle.rules.specs.declared.Pair.{Pair}
use Rattle.rules.specs.declared.Post.{Post}
use Rattle.rules.specs.declared.Reply.TheVariants as reply
use Rattle.rules.specs.declared.Standing.{Standing}
use Rattle.rules.specs.Audit.{Whole}
use Rattle.rules.specs.Card.{small, completion_buffer}
use Rattle.rules.specs.Calls.{overlaid}
use Rattle.rules.specs.Outcome.{departures, completions, messages_of}
use Rattle.rules.specs.Emission.{moved_to}
use Rattle.rules.specs.Message.{slots_for, packets_of}
use Rattle.rules.specs.Ranges.{bad_settings}
use Rattle.rules.specs.Slots.{Tables, pair_at, free, side, freed, stored}
use Rattle.rules.specs.WholeMessages.{Allowed}
use Rattle.rules.proofs.Slots.Freed.{freed-none}
use Rattle.engine.specs.declared.Told.TheVariants.{Answered, First, Count}
use Rattle.walks.specs.Acting.{emit}
use Rattle.walks.specs.Begun.{to_free, to_pair, no_post, outward}
use Rattle.engine.specs.Planning.{planned, resting, leaving_plan}
use Rattle.engine.specs.Settling.{settled_of}
use Rattle.engine.specs.Body.{acted}
use Rattle.walks.proofs.Left.{held-most, left_is}
use Rattle.walks.proofs.Joined.{joined_is}

as_read : (ps : List Pair) (i : ℕ) → set ps i (pair_at ps i) ≡ ps
unfolding pair_at
as_read ps i = set-get_or ps i _

module _ (at : ℕ) (t : Tables) (done out : List ℕ) where
  abbrev pr : Pair
  pr = pair_at t.pairs at

  -- a refused call leaves everything as it was
  pub refused-leaves : (r : Refusal) (st : Standing)
      → acted at t done out (resting pr t.ends (Err r) st) ≡ record { reply = Err r; tables = t; numbers = done; bytes = out }
  unfolding acted settled_of
  refused-leaves r st = λ i. record { reply = Err r; tables = record { pairs = as_read t.pairs at i; ends = t.ends; slots = t.slots }; numbers = done; bytes = out }

  module _ (w : Whole small t) (low : at < small.pairs) where
    -- an answer, after so many slots have left
    pub slots-leave : (o : Outcome) (place : ℕ) → o.released + o.flushed ≤ pr.queue.held → completion_buffer small ≤ length done
        → acted at t done out (leaving_plan pr t.ends o place)
        ≡ record {
          reply = Ok (reply.Answered o.answer (messages_of (departures o.released o.flushed (side t at).packets)) (place % 2 ^ 32));
          tables = freed small.none at o.standing (o.released + o.flushed) t;
          numbers = overlaid (completions (departures o.released o.flushed (side t at).packets)) done;
          bytes = out;
        }
    unfolding acted settled_of
    slots-leave o place few room =
        let l = left_is t w at low o.standing o.released o.flushed few done (omega (arith, room, few, held-most t w at low)) in
        λ i. record { reply = Ok (reply.Answered o.answer (l.messages i) (place % 2 ^ 32)); tables = l.tables i; numbers = l.done i; bytes = out }

    -- an answer, where none has left
    pub none-leaves : (a : Answer) (st : Standing)
        → acted at t done out (resting pr t.ends (Ok (Answered a 0)) st)
        ≡ record { reply = Ok (reply.Answered a 0 0); tables = freed small.none at st 0 t; numbers = done; bytes = out }
    unfolding acted settled_of
    none-leaves a st =
        let l = left_is t w at low st 0 0 (omega arith) done (omega arith) in
        λ i. record { reply = Ok (reply.Answered a 0 0); tables = l.tables i; numbers = done; bytes = out }

    -- a post's packets have joined the pair
    pub packets-join : (m : Post) (n : ℕ) (st : Standing) → Allowed pr.standing.settings m → bad_settings small pr.standing.settings ≡ false
        → slots_for pr.standing.settings m ≤ length (free t)
        → acted at t done out (planned (Ok (First n)) st (to_free pr t.ends 0 0) (to_pair pr t.ends (slots_for pr.standing.settings m) m) (outward pr 0 0))
        ≡ record {
          reply = Ok (reply.First n);
          tables = stored small.none at st (packets_of pr.standing.settings m pr.standing.line.n) t;
          numbers = done;
          bytes = out;
        }
    unfolding acted settled_of
    packets-join m n st ok good room =
        λ i. record { reply = Ok (reply.First n); tables = joined_is t w at low st m ok good room i; numbers = done; bytes = out }

    -- packets have gone out, which leaves every slot where it is
    pub packets-go : (k slot x : ℕ) (st : Standing) (after : List ℕ)
        → (let y = emit t.slots (record { work = outward pr k slot; out = out }) in (y.work.total ≡ k) × (y.work.x ≡ x) × (y.out ≡ after))
        → acted at t done out (planned (Ok Count) st (to_free pr t.ends 0 0) (to_pair pr t.ends 0 no_post) (outward pr k slot))
        ≡ record { reply = Ok (reply.Count k); tables = freed small.none at (moved_to x st) 0 t; numbers = done; bytes = after }
    unfolding acted settled_of
    packets-go k slot x st after e =
        (λ i. record {
          reply = Ok (reply.Count (e.0 i));
          tables = record { pairs = set t.pairs at (record { standing = moved_to (e.1 i) st; queue = pr.queue }); ends = t.ends; slots = t.slots };
          numbers = done;
          bytes = e.2 i;
        })
        ∙ ap (λ (n : Tables). record { reply = Ok (reply.Count k); tables = n; numbers = done; bytes = after }) (sym (freed-none small t w at low (moved_to x st)))
