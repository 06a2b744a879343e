-- tools/agreement wrote this from the second program's answers to its own random trace of seed 625.
use mathlib.Core.Path.{refl}
use mathlib.Core.List.{[], ◌∷◌}
use Rattle.psn.specs.Psn.{distance}
use Rattle.refusal.specs.declared.Refusal.TheVariants as refusal
use Rattle.wire.specs.Bytes.{number, bytes}
use Rattle.wire.specs.Layout.{laid}
use Rattle.wire.specs.Opcodes.{layout, header_length}
use Rattle.wire.specs.Header.{write_of, written}
use Rattle.rules.specs.declared.Answer.TheVariants.{Dropped, Done, Resending, Held, Resumed, Idle, Ended}
use Rattle.rules.specs.declared.Reply.TheVariants.{Answered, First, Count}
use Rattle.rules.specs.Message.{packets_of}
use Rattle.rules.specs.Ranges.{bad_settings, bad_post}
use Rattle.rules.specs.Posting.{posted}
use Rattle.rules.specs.Emission.{emitted}
use Rattle.rules.specs.Release.{release}
use Rattle.rules.specs.Acknowledge.{acknowledge}
use Rattle.rules.specs.Response.{response}
use Rattle.rules.specs.Timer.{timer}
use Rattle.rules.specs.Requests.{starting}
use Rattle.rules.specs.Refusals.{side_at}
use Rattle.rules.specs.Calls.{account}
use Rattle.agreement.specs.Trace.{opens, posts, emits, acks, responds, ticks, closes, ◌gets◌, ◌refused◌, ◌reading◌, Agrees}

pub seed-625 :
    Agrees
    (opens 20 2667480 1811011 26196 5 8 13 0 1 5
    gets Answered Done 0 0
    ∷ posts 20 6209 0 0 3806986702 0 8193 371116621 18446744073709543424 1821172295
    gets First 1811011
    ∷ ticks 20 0
    gets Answered Idle 0 0
    ∷ ticks 20 78916
    gets Answered Idle 0 0
    ∷ emits 20 5
    gets Count 3
    reading (8414804 ∷ 2667480 ∷ 2149294659 ∷ 0 ∷ 0 ∷ 0 ∷ 0 ∷ 0 ∷ 12 ∷ 6209 ∷ 371116621 ∷ 4096
    ∷ 25192020 ∷ 2667480 ∷ 2149294660 ∷ 0 ∷ 0 ∷ 0 ∷ 0 ∷ 0 ∷ 12 ∷ 6209 ∷ 371120717 ∷ 4096
    ∷ 45114964 ∷ 2667480 ∷ 2149294661 ∷ 0 ∷ 0 ∷ 0 ∷ 0 ∷ 0 ∷ 12 ∷ 6209 ∷ 371124813 ∷ 1
    ∷ [])
    ∷ ticks 20 4294967295
    gets Answered Ended 1 0 reading (6209 ∷ 1 ∷ [])
    ∷ closes 20
    gets Answered Done 0 0
    ∷ opens 63 4099686 1 31431 2 135 256 6 0 13
    gets Answered Done 0 0
    ∷ ticks 63 33554432
    gets Answered Idle 0 0
    ∷ ticks 20 3297285573
    refused refusal.State
    ∷ starting
    gets Answered Done 0 0
    ∷ opens 20 11436333 10851860 57286 5 5 5 0 7 18
    gets Answered Done 0 0
    ∷ ticks 20 4294967295
    gets Answered Idle 0 0
    ∷ ticks 20 1004879990
    gets Answered Idle 0 0
    ∷ responds 20 10851860 16 163
    gets Answered Dropped 0 0
    ∷ opens 63 13152099 16777187 23607 5 194 194 0 0 10
    gets Answered Done 0 0
    ∷ opens 63 1 1 1 1 1 1 1 1 1
    refused refusal.State
    ∷ ticks 63 4294967295
    gets Answered Idle 0 0
    ∷ ticks 63 3996596
    gets Answered Idle 0 0
    ∷ posts 63 2509 0 0 54742228 0 8191 3579081791 0 948221499
    gets First 16777187
    ∷ posts 63 3526 1 0 2486972937 0 4827 0 17098474412649342949 2103127969
    gets First 16777189
    ∷ posts 63 1794 1 0 1656872068 0 8566 1429522774 2751765195097752828 1150147783
    gets First 16777191
    ∷ ticks 63 4194304
    gets Answered Idle 0 0
    ∷ posts 20 796 2 0 1870842771 0 12288 3828755785 2091770695612967589 2626582350
    gets First 10851860
    ∷ emits 20 39
    gets Count 1
    reading (209772486 ∷ 11436333 ∷ 2158335508 ∷ 487028317 ∷ 1872046757 ∷ 2626582350 ∷ 12288 ∷ 0 ∷ 28 ∷ 796 ∷ 3828755785 ∷ 0
    ∷ [])
    ∷ acks 20 10851860 98
    gets Answered Resending 0 0
    ∷ emits 20 64
    gets Count 1
    reading (209772486 ∷ 11436333 ∷ 2158335508 ∷ 487028317 ∷ 1872046757 ∷ 2626582350 ∷ 12288 ∷ 0 ∷ 28 ∷ 796 ∷ 3828755785 ∷ 0
    ∷ [])
    ∷ responds 20 10851860 13 4096
    gets Answered Done 0 3828755785
    ∷ ticks 20 1073741825
    gets Answered Ended 1 0 reading (796 ∷ 1 ∷ [])
    ∷ closes 20
    gets Answered Done 0 0
    ∷ posts 20 1 1 0 0 0 1150 0 0 0
    refused refusal.State
    ∷ opens 20 1 1 1 5 1 1 1 1 1
    gets Answered Done 0 0
    ∷ emits 63 8
    gets Count 7
    reading (8412215 ∷ 13152099 ∷ 2164260835 ∷ 0 ∷ 0 ∷ 0 ∷ 0 ∷ 0 ∷ 12 ∷ 2509 ∷ 3579081791 ∷ 4096
    ∷ 43015223 ∷ 13152099 ∷ 2164260836 ∷ 0 ∷ 0 ∷ 0 ∷ 0 ∷ 0 ∷ 12 ∷ 2509 ∷ 3579085887 ∷ 4095
    ∷ 109075511 ∷ 13152099 ∷ 2164260837 ∷ 3981048802 ∷ 4279363557 ∷ 2103127969 ∷ 4827 ∷ 0 ∷ 28 ∷ 3526 ∷ 0 ∷ 4096
    ∷ 143678519 ∷ 13152099 ∷ 2164260838 ∷ 0 ∷ 0 ∷ 0 ∷ 0 ∷ 0 ∷ 12 ∷ 3526 ∷ 4096 ∷ 731
    ∷ 109075511 ∷ 13152099 ∷ 2164260839 ∷ 640695261 ∷ 2400568572 ∷ 1150147783 ∷ 8566 ∷ 0 ∷ 28 ∷ 1794 ∷ 1429522774 ∷ 4096
    ∷ 125852727 ∷ 13152099 ∷ 2164260840 ∷ 0 ∷ 0 ∷ 0 ∷ 0 ∷ 0 ∷ 12 ∷ 1794 ∷ 1429526870 ∷ 4096
    ∷ 144727095 ∷ 13152099 ∷ 2164260841 ∷ 0 ∷ 0 ∷ 0 ∷ 0 ∷ 0 ∷ 12 ∷ 1794 ∷ 1429530966 ∷ 374
    ∷ [])
    ∷ posts 63 2281 2 0 1419321760 0 0 3602447906 12143114500444613999 1895761708
    gets First 16777194
    ∷ posts 63 5898 0 1 2782505766 0 446463 4282969976 8345216159446848630 1625597401
    gets First 16777195
    ∷ responds 20 1 14 144
    gets Answered Dropped 0 0
    ∷ posts 20 5958 0 0 3071078259 0 3299 4294963997 2373204046033608640 2333328856
    gets First 1
    ∷ opens 20 1 1 1 1 1 1 1 1 1
    refused refusal.State
    ∷ ticks 20 6510
    gets Answered Idle 0 0
    ∷ responds 20 1 13 70
    gets Answered Dropped 0 0
    ∷ emits 20 0
    refused refusal.Range
    ∷ acks 20 1 0
    gets Answered Dropped 0 0
    ∷ emits 20 8
    gets Count 1
    reading (76546049 ∷ 1 ∷ 2147483649 ∷ 0 ∷ 0 ∷ 0 ∷ 0 ∷ 0 ∷ 12 ∷ 5958 ∷ 4294963997 ∷ 3299
    ∷ [])
    ∷ acks 20 1 32
    gets Answered Held 0 0
    ∷ emits 20 4
    gets Count 0
    ∷ acks 20 2 48
    gets Answered Dropped 0 0
    ∷ acks 20 0 17
    gets Answered Dropped 0 0
    ∷ acks 20 2 98
    gets Answered Dropped 0 0
    ∷ ticks 63 4194304
    gets Answered Ended 5 0 reading (2509 ∷ 1 ∷ 3526 ∷ 1 ∷ 1794 ∷ 1 ∷ 2281 ∷ 1 ∷ 5898 ∷ 1 ∷ [])
    ∷ closes 63
    gets Answered Done 0 0
    ∷ closes 63
    refused refusal.State
    ∷ opens 63 11285263 8388573 55419 1 7 12 2 2 16
    gets Answered Done 0 0
    ∷ acks 63 8388573 63
    gets Answered Dropped 0 0
    ∷ ticks 63 78643516
    gets Answered Idle 0 0
    ∷ acks 63 8388573 96
    gets Answered Dropped 0 0
    ∷ responds 63 8388572 14 178
    gets Answered Dropped 0 0
    ∷ posts 63 1584 0 0 1068752355 0 65388 917419992 9215177611198979020 2816036210
    refused refusal.Ceiling
    ∷ responds 63 8388573 14 261
    gets Answered Dropped 0 0
    ∷ ticks 63 268435455
    gets Answered Idle 0 0
    ∷ posts 63 9085 2 0 1117644551 1 0 1901064126 17160969486881811433 941619537
    gets First 8388573
    ∷ [])
unfolding account side_at distance packets_of posted bad_settings bad_post emitted release acknowledge response timer
    write_of written bytes laid layout header_length number
seed-625 = refl
