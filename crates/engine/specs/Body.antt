-- One body for every call, over the tables: audit, the pair's record, scan, plan, the three walks, settle, write back. `body_is` says that it is the rules' call.
use Rattle.std.specs.Prelude.{List, ℕ, length, set, Result}
use Rattle.refusal.specs.declared.Refusal.{Refusal}
use Rattle.rules.specs.declared.Reply.{Reply}
use Rattle.rules.specs.Card.{small}
use Rattle.rules.specs.Slots.{Tables, pair_at}
use Rattle.rules.specs.Requests.{on}
use Rattle.rules.specs.Calls.{call}
use Rattle.audit.specs.Loops.{audited}
use Rattle.engine.specs.declared.Ask.{Ask}
use Rattle.engine.specs.declared.Scan.{Scan}
use Rattle.engine.specs.declared.Plan.{Plan}
use Rattle.engine.specs.declared.Settled.{Settled}
use Rattle.engine.specs.Asked.{asked, lent_of, numbers_after, bytes_after}
use Rattle.engine.specs.Scanning.{begin_scan, scanned}
use Rattle.engine.specs.Planning.{plan_of}
use Rattle.walks.specs.Acting.{Left, leave, Joined, join, Emitted, emit}
use Rattle.engine.specs.Settling.{settled_of}

-- what a call leaves: its answer, the tables, and both buffers
pub record Ran : Type 0 where
  pub reply : Result Reply Refusal
  pub tables : Tables
  pub numbers : List ℕ
  pub bytes : List ℕ

-- the three walks of a plan, one after the other, and what is written back
module _ (at : ℕ) (t : Tables) (done out : List ℕ) (g : Plan) where
  abbrev pub left_by : Left
  left_by = leave (record { work = g.leaving; slots = t.slots; done = done })

  abbrev pub joined_by : Joined
  joined_by = join (record { work = g.joining; slots = left_by.slots })

  abbrev pub emitted_by : Emitted
  emitted_by = emit joined_by.slots (record { work = g.emitting; out = out })

  abbrev pub settled_after : Settled
  settled_after = settled_of (pair_at t.pairs at) t.ends g left_by.work joined_by.work emitted_by.work

  unfoldable pub acted : Ran
  acted =
      record {
        reply = settled_after.reply;
        tables = record { pairs = set t.pairs at settled_after.pair; ends = settled_after.ends; slots = joined_by.slots };
        numbers = left_by.done;
        bytes = emitted_by.out;
      }

-- the whole call
unfoldable pub scan_of : ℕ → Ask → Tables → Scan
scan_of at ask t = scanned t.slots (begin_scan (audited t) (pair_at t.pairs at) ask)

unfoldable pub plan_for : ℕ → Ask → Tables → List ℕ → List ℕ → Plan
plan_for at ask t done out =
    plan_of (audited t) at (pair_at t.pairs at) t.ends (scan_of at ask t) ask (lent_of ask (length done) (length out))

unfoldable pub body : ℕ → Ask → Tables → List ℕ → List ℕ → Ran
body at ask t done out = acted at t done out (plan_for at ask t done out)

-- the rules' call, with the buffer that was not lent as it was
unfoldable pub ruled : ℕ → Ask → Tables → List ℕ → List ℕ → Ran
ruled at ask t done out =
    let c = call small (on at (asked ask (lent_of ask done out))) t in
    record {
      reply = c.said.reply;
      tables = c.next;
      numbers = numbers_after ask c.said.buffer done;
      bytes = bytes_after ask c.said.buffer out;
    }
