-- tools/agreement wrote this from the second program's answers to its own random trace of seed 2412.
use mathlib.Core.Path.{refl}
use mathlib.Core.List.{[], ◌∷◌}
use Rattle.psn.specs.Psn.{distance}
use Rattle.refusal.specs.declared.Refusal.TheVariants as refusal
use Rattle.wire.specs.Bytes.{number, bytes}
use Rattle.wire.specs.Layout.{laid}
use Rattle.wire.specs.Opcodes.{layout, header_length}
use Rattle.wire.specs.Header.{write_of, written}
use Rattle.rules.specs.declared.Answer.TheVariants.{Dropped, Done, Resending, Held, Resumed, Idle, Ended}
use Rattle.rules.specs.declared.Reply.TheVariants.{Answered, First, Count}
use Rattle.rules.specs.Message.{packets_of}
use Rattle.rules.specs.Ranges.{bad_settings, bad_post}
use Rattle.rules.specs.Posting.{posted}
use Rattle.rules.specs.Emission.{emitted}
use Rattle.rules.specs.Release.{release}
use Rattle.rules.specs.Acknowledge.{acknowledge}
use Rattle.rules.specs.Response.{response}
use Rattle.rules.specs.Timer.{timer}
use Rattle.rules.specs.Requests.{starting}
use Rattle.rules.specs.Refusals.{side_at}
use Rattle.rules.specs.Calls.{account}
use Rattle.agreement.specs.Trace.{opens, posts, emits, acks, responds, ticks, closes, ◌gets◌, ◌refused◌, ◌reading◌, Agrees}

pub seed-2412 :
    Agrees
    (opens 9 11184177 9943872 28149 1 9 116 1 1 28
    gets Answered Done 0 0
    ∷ opens 53 5648339 16777183 40276 2 9 256 2 1 5
    gets Answered Done 0 0
    ∷ ticks 53 131071
    gets Answered Idle 0 0
    ∷ emits 53 5
    gets Count 0
    ∷ posts 53 2821 1 1 3259616767 0 1 1644081886 18446744073709551615 2846163788
    gets First 16777183
    ∷ ticks 53 131072
    gets Answered Idle 0 0
    ∷ emits 53 6
    gets Count 1
    reading (196123988 ∷ 5648339 ∷ 2164260831 ∷ 4294967295 ∷ 4294967295 ∷ 2846163788 ∷ 1 ∷ 3259616767 ∷ 32 ∷ 2821 ∷ 1644081886 ∷ 1
    ∷ [])
    ∷ acks 53 16777184 62
    gets Answered Dropped 0 0
    ∷ ticks 53 131073
    gets Answered Resending 0 0
    ∷ ticks 53 3643
    gets Answered Idle 0 0
    ∷ responds 53 17 14 57
    gets Answered Dropped 0 0
    ∷ posts 9 4684 1 0 1865515116 1 393 2611890164 2927170036674703350 2630367827
    gets First 9943872
    ∷ posts 9 6421 0 0 3075516854 0 0 4294967296 9329270676224104412 2588096168
    refused refusal.Range
    ∷ posts 9 247 2 0 756553637 0 2147482691 507267671 6137319079565393293 1711854744
    gets First 9943874
    ∷ emits 9 2
    gets Count 2
    reading (109080053 ∷ 11184177 ∷ 2157427520 ∷ 681534883 ∷ 3106516982 ∷ 2630367827 ∷ 393 ∷ 0 ∷ 28 ∷ 4684 ∷ 2611890164 ∷ 256
    ∷ 145780213 ∷ 11184177 ∷ 2157427521 ∷ 0 ∷ 0 ∷ 0 ∷ 0 ∷ 0 ∷ 12 ∷ 4684 ∷ 2611890420 ∷ 137
    ∷ [])
    ∷ posts 9 442 0 0 3899652325 0 13 0 13926608631531953987 2584521132
    refused refusal.Distance
    ∷ emits 9 5
    gets Count 1
    reading (209743349 ∷ 11184177 ∷ 2157427522 ∷ 1428955951 ∷ 2595814797 ∷ 1711854744 ∷ 2147482691 ∷ 0 ∷ 28 ∷ 247 ∷ 507267671 ∷ 0
    ∷ [])
    ∷ ticks 9 1805945432
    gets Answered Idle 0 0
    ∷ closes 9
    gets Answered Done 2 0 reading (4684 ∷ 1 ∷ 247 ∷ 1 ∷ [])
    ∷ opens 9 11790166 12821736 59223 1 6 11 1 7 2
    gets Answered Done 0 0
    ∷ acks 9 12821736 48
    gets Answered Dropped 0 0
    ∷ ticks 9 16383
    gets Answered Idle 0 0
    ∷ ticks 9 16383
    gets Answered Idle 0 0
    ∷ ticks 9 7051
    gets Answered Idle 0 0
    ∷ ticks 9 16383
    gets Answered Idle 0 0
    ∷ emits 53 6
    gets Count 1
    reading (196123988 ∷ 5648339 ∷ 2164260831 ∷ 4294967295 ∷ 4294967295 ∷ 2846163788 ∷ 1 ∷ 3259616767 ∷ 32 ∷ 2821 ∷ 1644081886 ∷ 1
    ∷ [])
    ∷ acks 53 16777183 60
    gets Answered Held 0 0
    ∷ acks 53 16777183 96
    gets Answered Resending 0 0
    ∷ posts 9 3126 0 1 953508027 0 122 0 2987712090444196918 119571862
    gets First 12821736
    ∷ posts 9 696 0 1 3408132815 0 0 104252827 11439266332882850872 3849512621
    gets First 12821737
    ∷ ticks 9 16383
    gets Answered Idle 0 0
    ∷ emits 9 64
    gets Count 2
    reading (94431063 ∷ 11790166 ∷ 2160305384 ∷ 953508027 ∷ 0 ∷ 0 ∷ 0 ∷ 0 ∷ 16 ∷ 3126 ∷ 0 ∷ 122
    ∷ 92333911 ∷ 11790166 ∷ 2160305385 ∷ 3408132815 ∷ 0 ∷ 0 ∷ 0 ∷ 0 ∷ 16 ∷ 696 ∷ 104252827 ∷ 0
    ∷ [])
    ∷ posts 9 4377 0 0 1988961734 0 2147483646 0 1338274191260753755 3849691719
    refused refusal.Ceiling
    ∷ posts 53 698 0 0 4156585784 1 473 0 0 4219216115
    gets First 16777184
    ∷ posts 53 9080 2 0 4044382514 1 1023 0 1753616233417347515 2269467826
    gets First 16777185
    ∷ ticks 53 31672786
    gets Answered Idle 0 0
    ∷ posts 53 6843 2 0 3575051937 0 512 2891304326 13668377993290177697 3112274838
    gets First 16777187
    ∷ posts 53 1196 0 0 619365261 0 128688 0 0 3030546877
    refused refusal.Room
    ∷ posts 53 1096 0 1 3668251918 0 1023 3769670114 9117251716154005300 3666577118
    gets First 16777188
    ∷ posts 53 545 1 0 2570003195 0 1 4294967295 0 3682194252
    gets First 16777190
    ∷ posts 53 2417 0 1 881133610 0 1536 3473115858 4789801314356797922 3235175466
    gets First 16777191
    ∷ responds 53 16777183 15 27
    refused refusal.Response
    ∷ ticks 53 18344929
    gets Answered Idle 0 0
    ∷ ticks 53 107328102
    gets Answered Idle 0 0
    ∷ acks 53 16777185 28
    gets Answered Dropped 0 0
    ∷ ticks 53 6494182
    gets Answered Idle 0 0
    ∷ emits 53 8
    gets Count 0
    ∷ ticks 53 1
    gets Answered Resumed 0 0
    ∷ posts 53 1463 2 0 1610518276 0 2048 1994622559 6858520348291012752 2646268819
    gets First 16777194
    ∷ posts 53 4362 1 1 2897310600 1 1 2626101 31752534724121253 3359881688
    refused refusal.Fence
    ∷ responds 53 16777183 13 76
    refused refusal.Response
    ∷ ticks 53 131072
    gets Answered Resending 0 0
    ∷ posts 53 3870 0 1 571091942 0 513 2985431373 16053220324115203334 2569029569
    gets First 16777198
    ∷ ticks 9 2006
    gets Answered Idle 0 0
    ∷ acks 9 12821736 11
    gets Answered Done 1 0 reading (3126 ∷ 0 ∷ [])
    ∷ posts 9 4168 0 0 3777398994 0 266 842184876 4571486592658411544 3511868594
    gets First 12821738
    ∷ ticks 9 16385
    gets Answered Resending 0 0
    ∷ ticks 9 16384
    gets Answered Ended 2 0 reading (696 ∷ 1 ∷ 4168 ∷ 1 ∷ [])
    ∷ closes 9
    gets Answered Done 0 0
    ∷ opens 9 15966622 1 19705 1 3 3 2 2 3
    gets Answered Done 0 0
    ∷ [])
unfolding account side_at distance packets_of posted bad_settings bad_post emitted release acknowledge response timer
    write_of written bytes laid layout header_length number
seed-2412 = refl
