-- The calls run, by computing: 01's example of shares, and three short histories on a card of two pairs and four slots.
use mathlib.Core.Path.{◌≡◌, refl}
use mathlib.Core.Bool.{false}
use mathlib.Core.List.{List, [], ◌∷◌, ◌++◌, map}
use Prim.Native.Nat.{ℕ, ◌*◌}
use native.Mathlib.Omega.{arith}
use lib.ListN.{replicate, take}
use Rattle.psn.specs.Psn.{distance}
use Rattle.wire.specs.Bytes.{bytes}
use Rattle.wire.specs.Layout.{laid}
use Rattle.wire.specs.Opcodes.{layout, header_length}
use Rattle.wire.specs.Header as header
use Rattle.wire.specs.Header.{write_of}
use Rattle.rules.specs.declared.Settings.{Settings}
use Rattle.rules.specs.declared.Post.{Post}
use Rattle.rules.specs.declared.Answer.TheVariants.{Dropped, Done, Resending, Held, Resumed, Idle, Ended}
use Rattle.std.specs.Prelude.{Result, Ok, Err}
use Rattle.refusal.specs.declared.Refusal.{Refusal}
use Rattle.refusal.specs.declared.Refusal.TheVariants as refusal
use Rattle.rules.specs.declared.Reply.{Reply}
use Rattle.rules.specs.declared.Reply.TheVariants.{Answered, First, Count}
use Rattle.rules.specs.Card.{Card, small}
use Rattle.rules.specs.Message.{packets_of}
use Rattle.rules.specs.Ranges.{bad_settings, bad_post}
use Rattle.rules.specs.Posting.{posted}
use Rattle.rules.specs.Emission.{emitted}
use Rattle.rules.specs.Release.{release}
use Rattle.rules.specs.Acknowledge.{acknowledge}
use Rattle.rules.specs.Response.{response}
use Rattle.rules.specs.Timer.{timer}
use Rattle.rules.specs.Slots.{slot_at, pair_at, side_of, relinked, holding, arranged, free, queues, fresh}
use Rattle.rules.specs.Calls.{account, Said, call}
use Rattle.rules.specs.History.{run, accounted, called}
use Rattle.rules.specs.Passes.Links.{links_pass}
use Rattle.rules.specs.Passes.Queue.{queue_passes}
use Rattle.rules.specs.Passes.Record.{record_passes}
use Rattle.rules.specs.Passes.Stage.{same, allowed_to, single, opens, closes, goes_on}
use Rattle.rules.specs.Passes.Tables.{has, put, none_of, pair_passes, passes}
use Rattle.rules.specs.Passes.Tests.{◌and◌}
use Rattle.rules.specs.Refusals.{side_at}
use Rattle.rules.specs.Requests.{Call, on, opening, posting, emitting, acknowledging, responding, ticking, closing}

-- a pair's settings by share and ceiling
abbrev settings : ℕ → ℕ → Settings
settings share ceiling = record { far = 7; pkey = 65535; pmtu = 1; share = share; ceiling = ceiling; retry = 7; rnr = 7; timeout = 14 }

-- a Send of some packets of 256 bytes, its ticket their number
abbrev sends : ℕ → Post
sends n = record { kind = 0; immediate = false; fenced = false; ticket = n; offset = 0; length = 256 * n; address = 0; key = 0; value = 0 }

abbrev replies : List Said → List (Result Reply Refusal)
replies ss = map (λ s. s.reply) ss

abbrev done : Result Reply Refusal
done = Ok (Answered Done 0 0)

-- "one pair of share 100 holds 200, one of share 56 none, ceilings 256. One more for the first: 8. 56 for the second: accepted; 57 instead: 8. Opening a third of
-- share 1: 8."
pub shares :
    replies
    (accounted small
    (on 0 (opening (settings 100 256) 0)
    ∷ on 1 (opening (settings 56 256) 5)
    ∷ on 0 (posting (sends 200))
    ∷ on 0 (posting (sends 1))
    ∷ on 1 (posting (sends 57))
    ∷ on 2 (opening (settings 1 256) 0)
    ∷ on 1 (posting (sends 56))
    ∷ [])).said
    ≡ done ∷ done ∷ Ok (First 0) ∷ Err refusal.Room ∷ Err refusal.Room ∷ Err refusal.Room ∷ Ok (First 5) ∷ []
unfolding account side_at distance packets_of posted bad_settings bad_post
shares = refl

-- ---- two pairs, four slots

abbrev tiny : Card
tiny = record { pairs = 2; slots = 4; none = 4; apart = omega arith }

-- three packets posted from PSN 16,777,215 on, two emitted and acknowledged, two more posted
abbrev half-way : List Call
half-way =
    on 1 (opening (settings 2 4) 16777215)
    ∷ on 1 (posting (sends 3))
    ∷ on 1 (emitting 2 (replicate 100 9))
    ∷ on 1 (acknowledging 0 0 (replicate 9 9))
    ∷ on 1 (posting (sends 2))
    ∷ []

-- slot 1 alone is free, and pair 1 holds 2, 3, 0: the slots came back in their order
pub half-queues :
    (free (called tiny half-way).last ∷ queues (called tiny half-way).last) ≡ (1 ∷ []) ∷ [] ∷ (2 ∷ 3 ∷ 0 ∷ []) ∷ []
unfolding call passes none_of has put pair_passes record_passes links_pass queue_passes ◌and◌ same allowed_to single opens closes goes_on bad_settings bad_post fresh
    side_at side_of slot_at pair_at relinked holding arranged distance packets_of posted emitted release acknowledge
half-queues = refl

-- all three go out; then a NAK of code 3 for PSN 1 ends the pair, which is closed
abbrev ending : List Call
ending = on 1 (emitting 3 (replicate 144 9)) ∷ on 1 (acknowledging 1 99 (replicate 9 9)) ∷ on 1 (closing (replicate 8 9)) ∷ []

-- a BTH of opcode and PSN, zeros after it
abbrev bth_of : ℕ → ℕ → List ℕ
bth_of op psn = op ∷ 128 ∷ 255 ∷ 255 ∷ 0 ∷ 0 ∷ 0 ∷ 7 ∷ 128 ∷ 0 ∷ 0 ∷ psn ∷ replicate 20 0

-- header length, ticket, payload offset and length, each below 65,536
abbrev four : ℕ → ℕ → ℕ → ℕ → ℕ → ℕ → List ℕ
four len ticket hi lo high low = 0 ∷ 0 ∷ 0 ∷ len ∷ 0 ∷ 0 ∷ 0 ∷ ticket ∷ 0 ∷ 0 ∷ hi ∷ lo ∷ 0 ∷ 0 ∷ high ∷ low ∷ []

pub ended-replies :
    replies (run (call tiny) ending (called tiny half-way).last).said ≡ Ok (Count 3) ∷ Ok (Answered Ended 2 0) ∷ done ∷ []
unfolding call passes none_of has put pair_passes record_passes links_pass queue_passes ◌and◌ same allowed_to single opens closes goes_on bad_settings bad_post fresh
    side_at side_of slot_at pair_at relinked holding arranged distance packets_of posted emitted release acknowledge
ended-replies = refl

-- the records that go out, then ticket and status of both messages, flushed; what is not written stays
pub ended-buffers :
    map (λ s. s.buffer) (run (call tiny) ending (called tiny half-way).last).said
    ≡ (bth_of 2 1 ++ four 12 3 2 0 1 0 ++ bth_of 0 2 ++ four 12 2 0 0 1 0 ++ bth_of 2 3 ++ four 12 2 1 0 1 0)
    ∷ (3 ∷ 1 ∷ 2 ∷ 1 ∷ 9 ∷ 9 ∷ 9 ∷ 9 ∷ 9 ∷ [])
    ∷ replicate 8 9
    ∷ []
unfolding call passes none_of has put pair_passes record_passes links_pass queue_passes ◌and◌ same allowed_to single opens closes goes_on bad_settings bad_post fresh
    side_at side_of slot_at pair_at relinked holding arranged distance packets_of posted emitted release acknowledge
    write_of header.written bytes laid layout header_length
ended-buffers = refl

-- a read of 600 bytes at PSNs 16,777,215 to 1, a Send at 2: answered in part, passed by an ACK, then answered
abbrev reading : List Call
reading =
    on 0 (opening (settings 2 4) 16777215)
    ∷ on 0
    (posting (record { kind = 2; immediate = false; fenced = false; ticket = 7; offset = 1000; length = 600; address = 5000; key = 3; value = 0 }))
    ∷ on 0 (posting (sends 1))
    ∷ on 0 (emitting 2 (replicate 96 9))
    ∷ on 0 (responding 16777215 13 256 (replicate 8 9))
    ∷ on 0 (responding 0 15 256 (replicate 8 9))
    ∷ on 0 (acknowledging 2 0 (replicate 8 9))
    ∷ on 0 (responding 1 15 88 (replicate 8 9))
    ∷ on 0 (responding 0 14 256 (replicate 8 9))
    ∷ on 0 (responding 1 16 88 (replicate 8 9))
    ∷ on 0 (acknowledging 1 31 (replicate 8 9))
    ∷ on 0 (acknowledging 2 31 (replicate 8 9))
    ∷ []

pub read-replies :
    replies (called tiny reading).said
    ≡ done
    ∷ Ok (First 16777215)
    ∷ Ok (First 2)
    ∷ Ok (Count 2)
    ∷ Ok (Answered Done 0 1000)
    ∷ Err refusal.Response
    ∷ Ok (Answered Resending 0 0)
    ∷ Ok (Answered Resending 0 0)
    ∷ Ok (Answered Done 0 1256)
    ∷ Ok (Answered Done 1 1512)
    ∷ Ok (Answered Dropped 0 0)
    ∷ Ok (Answered Done 1 0)
    ∷ []
unfolding call passes none_of has put pair_passes record_passes links_pass queue_passes ◌and◌ same allowed_to single opens closes goes_on bad_settings bad_post fresh
    side_at side_of slot_at pair_at relinked holding arranged distance packets_of posted emitted release acknowledge response
read-replies = refl

-- after one response and the ACK that passed the read, it goes out again from U: PSN 0, address 5,256, length 344, offset 1,256; then the Send
pub read_again :
    map (λ s. s.buffer) (run (call tiny) (on 0 (emitting 2 (replicate 97 9)) ∷ []) (called tiny (take 7 reading)).last).said
    ≡ ((12 ∷ 128 ∷ 255 ∷ 255 ∷ 0 ∷ 0 ∷ 0 ∷ 7 ∷ 128 ∷ 0 ∷ 0 ∷ 0 ∷ [])
    ++ (0 ∷ 0 ∷ 0 ∷ 0 ∷ 0 ∷ 0 ∷ 20 ∷ 136 ∷ 0 ∷ 0 ∷ 0 ∷ 3 ∷ 0 ∷ 0 ∷ 1 ∷ 88 ∷ 0 ∷ 0 ∷ 0 ∷ 0 ∷ [])
    ++ four 28 7 4 232 0 0
    ++ bth_of 4 2
    ++ four 12 1 0 0 1 0
    ++ (9 ∷ []))
    ∷ []
unfolding call passes none_of has put pair_passes record_passes links_pass queue_passes ◌and◌ same allowed_to single opens closes goes_on bad_settings bad_post fresh
    side_at side_of slot_at pair_at relinked holding arranged distance packets_of posted emitted release acknowledge response
    write_of header.written bytes laid layout header_length
read_again = refl

-- a timeout of 8,192 ns and one retry of each kind: resent, then held for 10,000 ns by an RNR, resumed, and ended by the next timeout
abbrev impatient : Settings
impatient = record { far = 7; pkey = 65535; pmtu = 1; share = 2; ceiling = 4; retry = 1; rnr = 1; timeout = 1 }

pub timers :
    replies
    (called tiny
    (on 0 (opening impatient 10)
    ∷ on 0 (posting (sends 1))
    ∷ on 0 (ticking 9000 (replicate 8 9))
    ∷ on 0 (emitting 1 (replicate 48 9))
    ∷ on 0 (ticking 8191 (replicate 8 9))
    ∷ on 0 (ticking 1 (replicate 8 9))
    ∷ on 0 (acknowledging 10 33 (replicate 8 9))
    ∷ on 0 (emitting 1 (replicate 48 9))
    ∷ on 0 (ticking 9999 (replicate 8 9))
    ∷ on 0 (ticking 50 (replicate 8 9))
    ∷ on 0 (emitting 1 (replicate 48 9))
    ∷ on 0 (ticking 8192 (replicate 8 9))
    ∷ on 0 (ticking 1 (replicate 8 9))
    ∷ on 0 (closing (replicate 8 9))
    ∷ on 0 (closing (replicate 8 9))
    ∷ [])).said
    ≡ done
    ∷ Ok (First 10)
    ∷ Ok (Answered Idle 0 0)
    ∷ Ok (Count 1)
    ∷ Ok (Answered Idle 0 0)
    ∷ Ok (Answered Resending 0 0)
    ∷ Ok (Answered Held 0 0)
    ∷ Ok (Count 0)
    ∷ Ok (Answered Idle 0 0)
    ∷ Ok (Answered Resumed 0 0)
    ∷ Ok (Count 1)
    ∷ Ok (Answered Ended 1 0)
    ∷ Err refusal.State
    ∷ done
    ∷ Err refusal.State
    ∷ []
unfolding call passes none_of has put pair_passes record_passes links_pass queue_passes ◌and◌ same allowed_to single opens closes goes_on bad_settings bad_post fresh
    side_at side_of slot_at pair_at relinked holding arranged distance packets_of posted emitted release acknowledge timer
timers = refl
