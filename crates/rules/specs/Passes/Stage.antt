-- The messages of a ready pair: each record is compared as a whole with the one that must stand there.
use Rattle.std.specs.Prelude.{Bool, true, false, not, Option, None, Some, ℕ, suc, ◌+◌, ◌-◌, ◌*◌, ◌/◌, ◌%◌, ltb, leb, eqb, if◌then◌else◌}
use Rattle.psn.specs.Psn.{psns, plus}
use Rattle.rules.specs.declared.Packet.{Packet}
use Rattle.rules.specs.declared.Settings.{Settings}
use Rattle.rules.specs.declared.Post.{Post}
use Rattle.rules.specs.declared.carried.Begun.{Begun}
use Rattle.rules.specs.declared.carried.Stage.{Stage}
use Rattle.rules.specs.declared.carried.Stage.TheVariants.{Start, Between, Inside}
use Rattle.wire.specs.Opcodes.{has_immediate}
use Rattle.rules.specs.Message.{pmtu, packets_for, read_request, is_read, made, packet_at}
use Rattle.rules.specs.Ranges.{bad_post, over_ceiling}
use Rattle.rules.specs.Passes.Tests.{◌and◌}

-- the same in every field
unfoldable pub same : Packet → Packet → Bool
same p q =
    eqb p.psn q.psn and eqb p.ticket q.ticket and eqb p.opcode q.opcode
    and eqb p.offset q.offset and eqb p.length q.length and eqb p.address q.address
    and eqb p.key q.key and eqb p.total q.total and eqb p.value q.value

-- a post that meets neither 3 nor 5: posting's own tests
unfoldable pub allowed_to : Settings → Post → Bool
allowed_to s m = not (bad_post m) and not (over_ceiling s m)

-- ---- a message of one record

-- the post that a record tells of by itself
abbrev pub alone : Packet → Post
alone p =
    record {
      kind = p.opcode / 6;
      immediate = has_immediate p.opcode;
      fenced = false;
      ticket = p.ticket;
      offset = p.offset;
      length = p.length;
      address = p.address;
      key = p.key;
      value = p.value;
    }

-- a read or an Only
unfoldable pub single : Settings → Packet → Bool
single s p =
    let m = alone p in
    allowed_to s m
    and (if is_read p
    then same p (made read_request m p.psn p.offset p.length)
    else leb p.opcode 11 and eqb (packets_for (pmtu s) p.length) 1 and same p (packet_at s m p.psn 0))

-- ---- a message of several

-- the post that a First tells of: its length is the one announced
abbrev pub heading : Packet → Post
heading p =
    record {
      kind = p.opcode / 6;
      immediate = false;
      fenced = false;
      ticket = p.ticket;
      offset = p.offset;
      length = p.total;
      address = p.address;
      key = p.key;
      value = 0;
    }

-- a First
unfoldable pub opens : Settings → Packet → Bool
opens s p = leb p.opcode 6 and same p (made (6 * (p.opcode / 6)) (heading p) (p.psn % psns) p.offset (pmtu s))

-- after a First, of a message whose length a Send does not tell
abbrev pub begun : Packet → Begun
begun p =
    record {
      whole = true;
      kind = p.opcode / 6;
      ticket = p.ticket;
      offset = p.offset;
      address = p.address;
      total = p.total;
      first = p.psn;
      count = 1;
    }

-- the first record of a message; none where it begins none
abbrev pub new_message : Settings → Packet → Option Stage
new_message s p = if single s p then Some Between else if opens s p then Some (Inside (begun p)) else None

-- the post of a message that is not at its end; no later record shows its key
abbrev pub post_of : Begun → Bool → ℕ → ℕ → Post
post_of w immediate length value =
    record {
      kind = w.kind;
      immediate = immediate;
      fenced = false;
      ticket = w.ticket;
      offset = w.offset;
      length = length;
      address = w.address;
      key = 0;
      value = value;
    }

-- after one more Middle
abbrev pub more : Begun → Begun
more w =
    record {
      whole = w.whole;
      kind = w.kind;
      ticket = w.ticket;
      offset = w.offset;
      address = w.address;
      total = w.total;
      first = w.first;
      count = suc w.count;
    }

-- the Middle that may stand here
abbrev pub middle : Settings → Begun → Packet
middle s w =
    made (6 * w.kind + 1) (post_of w false w.total 0) (plus w.first w.count) (w.offset + w.count * pmtu s) (pmtu s)

-- a Middle, and one record more is within the ceiling
unfoldable pub goes_on : Settings → Begun → Packet → Bool
goes_on s w p = same p (middle s w) and ltb (suc w.count) s.ceiling

-- the post, once the last record is there
abbrev pub whole_post : Settings → Begun → Packet → Post
whole_post s w p = post_of w (has_immediate p.opcode) (w.count * pmtu s + p.length) p.value

-- the last record: the whole post is allowed, and as long as a Write's First said
unfoldable pub closes : Settings → Begun → Packet → Bool
closes s w p =
    let m = whole_post s w p in
    allowed_to s m
    and eqb (packets_for (pmtu s) m.length) (suc w.count)
    and same p (packet_at s m w.first w.count)
    and (if w.whole and eqb w.kind 1 then eqb w.total m.length else true)

-- a record after the first
abbrev pub inner : Settings → Begun → Packet → Option Stage
inner s w p = if goes_on s w p then Some (Inside (more w)) else if closes s w p then Some Between else None

-- ---- a message of which only the rear is held

-- a Middle or Last
abbrev pub is_rear : Packet → Bool
is_rear p = leb p.opcode 11 and leb 1 (p.opcode % 6) and leb (p.opcode % 6) 3

-- as if one packet stood ahead of it
abbrev pub behind : Settings → Packet → Begun
behind s p =
    record {
      whole = false;
      kind = p.opcode / 6;
      ticket = p.ticket;
      offset = p.offset - pmtu s;
      address = 0;
      total = 0;
      first = plus p.psn (psns - 1);
      count = 1;
    }

-- the first record of a rear part
abbrev pub rear_step : Settings → Packet → Option Stage
rear_step s p = if leb (pmtu s) p.offset then inner s (behind s p) p else None

-- ---- all messages

-- one record on; none once some record went on with no message
abbrev pub stage_step : Settings → Option Stage → Packet → Option Stage
stage_step s None p = None
stage_step s (Some Start) p = if is_rear p then rear_step s p else new_message s p
stage_step s (Some Between) p = new_message s p
stage_step s (Some (Inside w)) p = inner s w p

-- what it must be after the last record: no message is left open
abbrev pub stage_ends : Option Stage → Bool
stage_ends None = false
stage_ends (Some Start) = true
stage_ends (Some Between) = true
stage_ends (Some (Inside w)) = false
