-- tools/agreement wrote this from the second program's answers to its own random trace of seed 2139.
use mathlib.Core.Path.{refl}
use mathlib.Core.List.{[], ◌∷◌}
use Rattle.psn.specs.Psn.{distance}
use Rattle.refusal.specs.declared.Refusal.TheVariants as refusal
use Rattle.wire.specs.Bytes.{number, bytes}
use Rattle.wire.specs.Layout.{laid}
use Rattle.wire.specs.Opcodes.{layout, header_length}
use Rattle.wire.specs.Header.{write_of, written}
use Rattle.rules.specs.declared.Answer.TheVariants.{Dropped, Done, Resending, Held, Resumed, Idle, Ended}
use Rattle.rules.specs.declared.Reply.TheVariants.{Answered, First, Count}
use Rattle.rules.specs.Message.{packets_of}
use Rattle.rules.specs.Ranges.{bad_settings, bad_post}
use Rattle.rules.specs.Posting.{posted}
use Rattle.rules.specs.Emission.{emitted}
use Rattle.rules.specs.Release.{release}
use Rattle.rules.specs.Acknowledge.{acknowledge}
use Rattle.rules.specs.Response.{response}
use Rattle.rules.specs.Timer.{timer}
use Rattle.rules.specs.Requests.{starting}
use Rattle.rules.specs.Refusals.{side_at}
use Rattle.rules.specs.Calls.{account}
use Rattle.agreement.specs.Trace.{opens, posts, emits, acks, responds, ticks, closes, ◌gets◌, ◌refused◌, ◌reading◌, Agrees}

pub seed-2139 :
    Agrees
    (opens 9 1 1 1 5 1 1 1 1 1
    gets Answered Done 0 0
    ∷ ticks 9 8192
    gets Answered Idle 0 0
    ∷ posts 64 4178790672 2 0 274447510 1 8193 2367279891 8719491277238872006 597810626
    refused refusal.Pair
    ∷ ticks 9 4294967295
    gets Answered Idle 0 0
    ∷ acks 9 1 57
    gets Answered Dropped 0 0
    ∷ ticks 9 4294967295
    gets Answered Idle 0 0
    ∷ ticks 9 8192
    gets Answered Idle 0 0
    ∷ ticks 9 5073
    gets Answered Idle 0 0
    ∷ ticks 9 8193
    gets Answered Idle 0 0
    ∷ posts 9 2660529882 0 0 4250521445 0 12289 3190662656 1293038698252576824 2750716739
    refused refusal.Ceiling
    ∷ ticks 9 8192
    gets Answered Idle 0 0
    ∷ posts 9 6243 1 1 3205784866 0 8996 3549804101 846817863902063339 3596502990
    refused refusal.Ceiling
    ∷ ticks 9 8192
    gets Answered Idle 0 0
    ∷ ticks 9 8193
    gets Answered Idle 0 0
    ∷ posts 9 2473 2 0 3669739926 0 2147483647 0 0 2330063270
    gets First 1
    ∷ ticks 9 8191
    gets Answered Idle 0 0
    ∷ emits 9 64
    gets Count 1
    reading (209715201 ∷ 1 ∷ 2147483649 ∷ 0 ∷ 0 ∷ 2330063270 ∷ 2147483647 ∷ 0 ∷ 28 ∷ 2473 ∷ 0 ∷ 0
    ∷ [])
    ∷ responds 9 1 13 4096
    gets Answered Done 0 0
    ∷ ticks 9 6521
    gets Answered Idle 0 0
    ∷ acks 9 201934 32
    gets Answered Held 0 0
    ∷ responds 9 2 13 4096
    gets Answered Done 0 4096
    ∷ responds 9 524288 16 4095
    gets Answered Resending 0 0
    ∷ ticks 9 0
    gets Answered Idle 0 0
    ∷ ticks 9 655360000
    gets Answered Resumed 0 0
    ∷ acks 9 3 24
    gets Answered Resending 0 0
    ∷ acks 9 99030 59
    gets Answered Held 0 0
    ∷ acks 9 3 56
    gets Answered Ended 1 0 reading (2473 ∷ 1 ∷ [])
    ∷ closes 9
    gets Answered Done 0 0
    ∷ opens 9 9653138 14490242 58764 1 4 256 0 2 17
    gets Answered Done 0 0
    ∷ posts 9 1867 0 1 1760014013 0 123 420924907 3424982002387724439 2176428457
    gets First 14490242
    ∷ opens 40 3967259 16777178 35453 5 179 179 0 1 14
    gets Answered Done 0 0
    ∷ ticks 40 4294967295
    gets Answered Idle 0 0
    ∷ posts 40 2682 0 1 668258686 0 4095 4294963201 18446744073709547522 1717584255
    gets First 16777178
    ∷ ticks 40 67108865
    gets Answered Idle 0 0
    ∷ posts 40 3500 0 1 115984006 0 1 0 9164833106395328093 690456726
    gets First 16777179
    ∷ ticks 40 67108864
    gets Answered Idle 0 0
    ∷ posts 9 6687 0 0 1225962496 0 878 2122987451 14912507560971337851 1705684160
    gets First 14490243
    ∷ emits 9 5
    gets Count 5
    reading (93382028 ∷ 9653138 ∷ 2161973890 ∷ 1760014013 ∷ 0 ∷ 0 ∷ 0 ∷ 0 ∷ 16 ∷ 1867 ∷ 420924907 ∷ 123
    ∷ 8447372 ∷ 9653138 ∷ 2161973891 ∷ 0 ∷ 0 ∷ 0 ∷ 0 ∷ 0 ∷ 12 ∷ 6687 ∷ 2122987451 ∷ 256
    ∷ 25224588 ∷ 9653138 ∷ 2161973892 ∷ 0 ∷ 0 ∷ 0 ∷ 0 ∷ 0 ∷ 12 ∷ 6687 ∷ 2122987707 ∷ 256
    ∷ 25224588 ∷ 9653138 ∷ 2161973893 ∷ 0 ∷ 0 ∷ 0 ∷ 0 ∷ 0 ∷ 12 ∷ 6687 ∷ 2122987963 ∷ 256
    ∷ 44098956 ∷ 9653138 ∷ 2161973894 ∷ 0 ∷ 0 ∷ 0 ∷ 0 ∷ 0 ∷ 12 ∷ 6687 ∷ 2122988219 ∷ 110
    ∷ [])
    ∷ ticks 9 536870912
    gets Answered Ended 2 0 reading (1867 ∷ 1 ∷ 6687 ∷ 1 ∷ [])
    ∷ closes 9
    gets Answered Done 0 0
    ∷ ticks 9 2296738739
    refused refusal.State
    ∷ opens 9 1765488 16777196 31931 5 5 10 7 7 14
    gets Answered Done 0 0
    ∷ posts 9 8648 2 0 1251532867 1 99042 754088830 8573043814510319356 436355334
    gets First 16777196
    ∷ ticks 9 66324622
    gets Answered Idle 0 0
    ∷ ticks 0 4294967295
    refused refusal.State
    ∷ emits 40 5
    gets Count 2
    reading (93358717 ∷ 3967259 ∷ 2164260826 ∷ 668258686 ∷ 0 ∷ 0 ∷ 0 ∷ 0 ∷ 16 ∷ 2682 ∷ 4294963201 ∷ 4095
    ∷ 95455869 ∷ 3967259 ∷ 2164260827 ∷ 115984006 ∷ 0 ∷ 0 ∷ 0 ∷ 0 ∷ 16 ∷ 3500 ∷ 0 ∷ 1
    ∷ [])
    ∷ posts 40 1628 0 0 2526434343 0 4097 1263083066 7830913114029887816 3933775528
    gets First 16777180
    ∷ emits 40 2
    gets Count 2
    reading (8424061 ∷ 3967259 ∷ 2164260828 ∷ 0 ∷ 0 ∷ 0 ∷ 0 ∷ 0 ∷ 12 ∷ 1628 ∷ 1263083066 ∷ 4096
    ∷ 45124221 ∷ 3967259 ∷ 2164260829 ∷ 0 ∷ 0 ∷ 0 ∷ 0 ∷ 0 ∷ 12 ∷ 1628 ∷ 1263087162 ∷ 1
    ∷ [])
    ∷ posts 40 4469 0 0 2787678115 0 716800 4288379070 2669669979120644331 3264869131
    gets First 16777182
    ∷ ticks 40 0
    gets Answered Idle 0 0
    ∷ emits 40 3
    gets Count 3
    reading (8424061 ∷ 3967259 ∷ 2164260830 ∷ 0 ∷ 0 ∷ 0 ∷ 0 ∷ 0 ∷ 12 ∷ 4469 ∷ 4288379070 ∷ 4096
    ∷ 25201277 ∷ 3967259 ∷ 2164260831 ∷ 0 ∷ 0 ∷ 0 ∷ 0 ∷ 0 ∷ 12 ∷ 4469 ∷ 4288383166 ∷ 4096
    ∷ 25201277 ∷ 3967259 ∷ 2164260832 ∷ 0 ∷ 0 ∷ 0 ∷ 0 ∷ 0 ∷ 12 ∷ 4469 ∷ 4288387262 ∷ 4096
    ∷ [])
    ∷ opens 63 1796158 16777164 13783 5 4 113 2 7 5
    gets Answered Done 0 0
    ∷ ticks 63 131071
    gets Answered Idle 0 0
    ∷ ticks 63 131071
    gets Answered Idle 0 0
    ∷ responds 63 16777163 13 246
    gets Answered Dropped 0 0
    ∷ ticks 63 4294967295
    gets Answered Idle 0 0
    ∷ ticks 9 67108864
    gets Answered Idle 0 0
    ∷ ticks 9 32380505
    gets Answered Idle 0 0
    ∷ ticks 9 67108864
    gets Answered Idle 0 0
    ∷ emits 9 7
    gets Count 1
    reading (209747131 ∷ 1765488 ∷ 2164260844 ∷ 1996067309 ∷ 1740592892 ∷ 436355334 ∷ 99042 ∷ 0 ∷ 28 ∷ 8648 ∷ 754088830 ∷ 0
    ∷ [])
    ∷ [])
unfolding account side_at distance packets_of posted bad_settings bad_post emitted release acknowledge response timer
    write_of written bytes laid layout header_length number
seed-2139 = refl
