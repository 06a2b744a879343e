-- tools/agreement wrote this from the second program's answers to its own random trace of seed 2034.
use mathlib.Core.Path.{refl}
use mathlib.Core.List.{[], ◌∷◌}
use Rattle.psn.specs.Psn.{distance}
use Rattle.refusal.specs.declared.Refusal.TheVariants as refusal
use Rattle.wire.specs.Bytes.{number, bytes}
use Rattle.wire.specs.Layout.{laid}
use Rattle.wire.specs.Opcodes.{layout, header_length}
use Rattle.wire.specs.Header.{write_of, written}
use Rattle.rules.specs.declared.Answer.TheVariants.{Dropped, Done, Resending, Held, Resumed, Idle, Ended}
use Rattle.rules.specs.declared.Reply.TheVariants.{Answered, First, Count}
use Rattle.rules.specs.Message.{packets_of}
use Rattle.rules.specs.Ranges.{bad_settings, bad_post}
use Rattle.rules.specs.Posting.{posted}
use Rattle.rules.specs.Emission.{emitted}
use Rattle.rules.specs.Release.{release}
use Rattle.rules.specs.Acknowledge.{acknowledge}
use Rattle.rules.specs.Response.{response}
use Rattle.rules.specs.Timer.{timer}
use Rattle.rules.specs.Requests.{starting}
use Rattle.rules.specs.Refusals.{side_at}
use Rattle.rules.specs.Calls.{account}
use Rattle.agreement.specs.Trace.{opens, posts, emits, acks, responds, ticks, closes, ◌gets◌, ◌refused◌, ◌reading◌, Agrees}

pub seed-2034 :
    Agrees
    (opens 40 6608900 16777161 42665 1 12 231 2 6 5
    gets Answered Done 0 0
    ∷ posts 40 7527 2 0 69419429 0 562 1987389410 0 590003293
    gets First 16777161
    ∷ responds 40 16777161 16 248
    gets Answered Dropped 0 0
    ∷ ticks 40 131072
    gets Answered Idle 0 0
    ∷ ticks 40 131071
    gets Answered Idle 0 0
    ∷ ticks 40 131072
    gets Answered Idle 0 0
    ∷ ticks 40 70358
    gets Answered Idle 0 0
    ∷ posts 40 8467 1 0 1421040114 1 512 1446470464 5365571591530280135 1999358369
    refused refusal.Fence
    ∷ posts 40 4832 2 0 2984590358 0 397 4294966899 4452996566671672913 475636754
    gets First 16777164
    ∷ posts 40 2364 0 0 1587678008 0 65024 4143996587 3188024290910082737 1153907776
    refused refusal.Ceiling
    ∷ emits 40 2
    gets Count 2
    reading (209757865 ∷ 6608900 ∷ 2164260809 ∷ 0 ∷ 0 ∷ 590003293 ∷ 562 ∷ 0 ∷ 28 ∷ 7527 ∷ 1987389410 ∷ 0
    ∷ 209757865 ∷ 6608900 ∷ 2164260812 ∷ 1036794056 ∷ 3464480337 ∷ 475636754 ∷ 397 ∷ 0 ∷ 28 ∷ 4832 ∷ 4294966899 ∷ 0
    ∷ [])
    ∷ posts 40 8133 1 0 79843563 0 255 3289646900 18446744073709551361 798758964
    gets First 16777166
    ∷ posts 64 8741 2 0 4187661886 0 2147483647 1176363781 13761190553834588107 4096703743
    refused refusal.Pair
    ∷ opens 40 1 1 1 1 1 1 1 1 1
    refused refusal.State
    ∷ emits 40 3
    gets Count 1
    reading (177252009 ∷ 6608900 ∷ 2164260814 ∷ 4294967295 ∷ 4294967041 ∷ 798758964 ∷ 255 ∷ 0 ∷ 28 ∷ 8133 ∷ 3289646900 ∷ 255
    ∷ [])
    ∷ responds 40 16777161 13 256
    gets Answered Done 0 1987389410
    ∷ ticks 40 10039
    gets Answered Idle 0 0
    ∷ responds 40 16777163 15 50
    gets Answered Resending 0 0
    ∷ posts 40 6204 0 0 1058170786 0 398 730711516 1805209053737816872 1552375752
    gets First 16777167
    ∷ emits 40 5
    gets Count 5
    reading (209757865 ∷ 6608900 ∷ 2164260810 ∷ 0 ∷ 256 ∷ 590003293 ∷ 306 ∷ 0 ∷ 28 ∷ 7527 ∷ 1987389666 ∷ 0
    ∷ 209757865 ∷ 6608900 ∷ 2164260812 ∷ 1036794056 ∷ 3464480337 ∷ 475636754 ∷ 397 ∷ 0 ∷ 28 ∷ 4832 ∷ 4294966899 ∷ 0
    ∷ 177252009 ∷ 6608900 ∷ 2164260814 ∷ 4294967295 ∷ 4294967041 ∷ 798758964 ∷ 255 ∷ 0 ∷ 28 ∷ 8133 ∷ 3289646900 ∷ 255
    ∷ 8431273 ∷ 6608900 ∷ 2164260815 ∷ 0 ∷ 0 ∷ 0 ∷ 0 ∷ 0 ∷ 12 ∷ 6204 ∷ 730711516 ∷ 256
    ∷ 44082857 ∷ 6608900 ∷ 2164260816 ∷ 0 ∷ 0 ∷ 0 ∷ 0 ∷ 0 ∷ 12 ∷ 6204 ∷ 730711772 ∷ 142
    ∷ [])
    ∷ acks 40 16777162 3
    gets Answered Resending 0 0
    ∷ ticks 40 131072
    gets Answered Resending 0 0
    ∷ acks 40 16777162 4
    gets Answered Resending 0 0
    ∷ ticks 40 0
    gets Answered Idle 0 0
    ∷ responds 40 16777162 13 256
    gets Answered Done 0 1987389666
    ∷ posts 40 4175 1 0 3052684922 0 256 2464542773 13773434747983555172 3835460040
    gets First 16777169
    ∷ acks 40 16777163 51
    gets Answered Held 0 0
    ∷ responds 40 16777163 16 50
    gets Answered Done 1 1987389922 reading (7527 ∷ 0 ∷ [])
    ∷ ticks 40 3627027
    gets Answered Idle 0 0
    ∷ ticks 40 4052973
    gets Answered Resumed 0 0
    ∷ ticks 40 121894
    gets Answered Idle 0 0
    ∷ responds 40 16777164 14 256
    gets Answered Done 0 4294966899
    ∷ responds 40 16777165 15 140
    refused refusal.Response
    ∷ posts 40 7888 1 1 2459240899 0 223 0 0 2859487205
    gets First 16777170
    ∷ responds 40 16777165 16 142
    refused refusal.Response
    ∷ emits 40 64
    gets Count 6
    reading (209757865 ∷ 6608900 ∷ 2164260813 ∷ 1036794056 ∷ 3464480593 ∷ 475636754 ∷ 141 ∷ 0 ∷ 28 ∷ 4832 ∷ 4294967155 ∷ 0
    ∷ 177252009 ∷ 6608900 ∷ 2164260814 ∷ 4294967295 ∷ 4294967041 ∷ 798758964 ∷ 255 ∷ 0 ∷ 28 ∷ 8133 ∷ 3289646900 ∷ 255
    ∷ 8431273 ∷ 6608900 ∷ 2164260815 ∷ 0 ∷ 0 ∷ 0 ∷ 0 ∷ 0 ∷ 12 ∷ 6204 ∷ 730711516 ∷ 256
    ∷ 44082857 ∷ 6608900 ∷ 2164260816 ∷ 0 ∷ 0 ∷ 0 ∷ 0 ∷ 0 ∷ 12 ∷ 6204 ∷ 730711772 ∷ 142
    ∷ 176203433 ∷ 6608900 ∷ 2164260817 ∷ 3206877677 ∷ 2996103780 ∷ 3835460040 ∷ 256 ∷ 0 ∷ 28 ∷ 4175 ∷ 2464542773 ∷ 256
    ∷ 194029225 ∷ 6608900 ∷ 2164260818 ∷ 0 ∷ 0 ∷ 2859487205 ∷ 223 ∷ 2459240899 ∷ 32 ∷ 7888 ∷ 0 ∷ 223
    ∷ [])
    ∷ responds 40 16777165 16 141
    gets Answered Done 1 4294967155 reading (4832 ∷ 0 ∷ [])
    ∷ responds 40 16777168 14 185
    refused refusal.Response
    ∷ ticks 40 23410
    gets Answered Idle 0 0
    ∷ posts 40 41 0 0 458050156 0 41 2825497787 3208996035418566361 3493194249
    gets First 16777171
    ∷ ticks 40 107662
    gets Answered Resending 0 0
    ∷ emits 40 4
    gets Count 4
    reading (177252009 ∷ 6608900 ∷ 2164260814 ∷ 4294967295 ∷ 4294967041 ∷ 798758964 ∷ 255 ∷ 0 ∷ 28 ∷ 8133 ∷ 3289646900 ∷ 255
    ∷ 8431273 ∷ 6608900 ∷ 2164260815 ∷ 0 ∷ 0 ∷ 0 ∷ 0 ∷ 0 ∷ 12 ∷ 6204 ∷ 730711516 ∷ 256
    ∷ 44082857 ∷ 6608900 ∷ 2164260816 ∷ 0 ∷ 0 ∷ 0 ∷ 0 ∷ 0 ∷ 12 ∷ 6204 ∷ 730711772 ∷ 142
    ∷ 176203433 ∷ 6608900 ∷ 2164260817 ∷ 3206877677 ∷ 2996103780 ∷ 3835460040 ∷ 256 ∷ 0 ∷ 28 ∷ 4175 ∷ 2464542773 ∷ 256
    ∷ [])
    ∷ posts 40 6690 1 1 4162245745 0 63999 2145629396 2193788866656938851 2747200122
    refused refusal.Ceiling
    ∷ emits 40 1
    gets Count 1
    reading (194029225 ∷ 6608900 ∷ 2164260818 ∷ 0 ∷ 0 ∷ 2859487205 ∷ 223 ∷ 2459240899 ∷ 32 ∷ 7888 ∷ 0 ∷ 223
    ∷ [])
    ∷ ticks 18446744073709551615 131072
    refused refusal.Pair
    ∷ emits 40 2
    gets Count 1
    reading (78685865 ∷ 6608900 ∷ 2164260819 ∷ 0 ∷ 0 ∷ 0 ∷ 0 ∷ 0 ∷ 12 ∷ 41 ∷ 2825497787 ∷ 41
    ∷ [])
    ∷ ticks 40 131073
    gets Answered Resending 0 0
    ∷ acks 40 16777171 20
    gets Answered Done 5 0 reading (8133 ∷ 0 ∷ 6204 ∷ 0 ∷ 4175 ∷ 0 ∷ 7888 ∷ 0 ∷ 41 ∷ 0 ∷ [])
    ∷ acks 40 16777172 17
    gets Answered Dropped 0 0
    ∷ ticks 40 131071
    gets Answered Idle 0 0
    ∷ posts 40 1655 0 1 1740604996 0 513 3573957315 2807579566750338526 2438132370
    gets First 16777172
    ∷ ticks 40 66
    gets Answered Idle 0 0
    ∷ posts 40 6752 1 0 322512408 0 325 2892864623 5914761758493579868 2140164409
    gets First 16777175
    ∷ responds 40 16777172 13 160
    gets Answered Dropped 0 0
    ∷ emits 40 7
    gets Count 5
    reading (8431273 ∷ 6608900 ∷ 2164260820 ∷ 0 ∷ 0 ∷ 0 ∷ 0 ∷ 0 ∷ 12 ∷ 1655 ∷ 3573957315 ∷ 256
    ∷ 25208489 ∷ 6608900 ∷ 2164260821 ∷ 0 ∷ 0 ∷ 0 ∷ 0 ∷ 0 ∷ 12 ∷ 1655 ∷ 3573957571 ∷ 256
    ∷ 61908649 ∷ 6608900 ∷ 2164260822 ∷ 1740604996 ∷ 0 ∷ 0 ∷ 0 ∷ 0 ∷ 16 ∷ 1655 ∷ 3573957827 ∷ 1
    ∷ 109094569 ∷ 6608900 ∷ 2164260823 ∷ 1377137787 ∷ 1242765916 ∷ 2140164409 ∷ 325 ∷ 0 ∷ 28 ∷ 6752 ∷ 2892864623 ∷ 256
    ∷ 145794729 ∷ 6608900 ∷ 2164260824 ∷ 0 ∷ 0 ∷ 0 ∷ 0 ∷ 0 ∷ 12 ∷ 6752 ∷ 2892864879 ∷ 69
    ∷ [])
    ∷ ticks 40 34695
    gets Answered Idle 0 0
    ∷ posts 40 4822 1 0 1228522622 0 64326 933089410 16174191447183204862 127646047
    refused refusal.Ceiling
    ∷ acks 40 16777176 21
    gets Answered Done 2 0 reading (1655 ∷ 0 ∷ 6752 ∷ 0 ∷ [])
    ∷ posts 40 4142 1 0 872242584 0 1 332967393 0 4210695187
    gets First 16777177
    ∷ emits 40 8
    gets Count 1
    reading (179349161 ∷ 6608900 ∷ 2164260825 ∷ 0 ∷ 0 ∷ 4210695187 ∷ 1 ∷ 0 ∷ 28 ∷ 4142 ∷ 332967393 ∷ 1
    ∷ [])
    ∷ [])
unfolding account side_at distance packets_of posted bad_settings bad_post emitted release acknowledge response timer
    write_of written bytes laid layout header_length number
seed-2034 = refl
