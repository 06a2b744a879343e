-- tools/agreement wrote this from the second program's answers to its own random trace of seed 1621.
use mathlib.Core.Path.{refl}
use mathlib.Core.List.{[], ◌∷◌}
use Rattle.psn.specs.Psn.{distance}
use Rattle.refusal.specs.declared.Refusal.TheVariants as refusal
use Rattle.wire.specs.Bytes.{number, bytes}
use Rattle.wire.specs.Layout.{laid}
use Rattle.wire.specs.Opcodes.{layout, header_length}
use Rattle.wire.specs.Header.{write_of, written}
use Rattle.rules.specs.declared.Answer.TheVariants.{Dropped, Done, Resending, Held, Resumed, Idle, Ended}
use Rattle.rules.specs.declared.Reply.TheVariants.{Answered, First, Count}
use Rattle.rules.specs.Message.{packets_of}
use Rattle.rules.specs.Ranges.{bad_settings, bad_post}
use Rattle.rules.specs.Posting.{posted}
use Rattle.rules.specs.Emission.{emitted}
use Rattle.rules.specs.Release.{release}
use Rattle.rules.specs.Acknowledge.{acknowledge}
use Rattle.rules.specs.Response.{response}
use Rattle.rules.specs.Timer.{timer}
use Rattle.rules.specs.Requests.{starting}
use Rattle.rules.specs.Refusals.{side_at}
use Rattle.rules.specs.Calls.{account}
use Rattle.agreement.specs.Trace.{opens, posts, emits, acks, responds, ticks, closes, ◌gets◌, ◌refused◌, ◌reading◌, Agrees}

pub seed-1621 :
    Agrees
    (opens 12 9563909 16777164 52174 2 7 151 7 7 21
    gets Answered Done 0 0
    ∷ ticks 12 4294967295
    gets Answered Idle 0 0
    ∷ ticks 12 1022234331
    gets Answered Idle 0 0
    ∷ posts 12 2714 1 1 2414706059 0 0 0 0 1500070000
    gets First 16777164
    ∷ ticks 12 3911749416
    gets Answered Idle 0 0
    ∷ posts 12 2928 0 1 2948437035 0 1535 0 16967605006798593335 1670752093
    gets First 16777165
    ∷ opens 12 1 1 1 1 1 1 1 1 1
    refused refusal.State
    ∷ emits 12 1
    gets Count 1
    reading (192990158 ∷ 9563909 ∷ 2164260812 ∷ 0 ∷ 0 ∷ 1500070000 ∷ 0 ∷ 2414706059 ∷ 32 ∷ 2714 ∷ 0 ∷ 0
    ∷ [])
    ∷ ticks 12 2244142842
    gets Answered Idle 0 0
    ∷ posts 12 5440 2 0 4170448746 0 0 2052368493 0 442510702
    gets First 16777168
    ∷ ticks 12 1228462934
    gets Answered Idle 0 0
    ∷ acks 12 16777164 28
    gets Answered Done 1 0 reading (2714 ∷ 0 ∷ [])
    ∷ posts 12 5051 0 0 3344224320 1 129535 4294837761 11202754743900006602 3576806946
    refused refusal.Ceiling
    ∷ emits 12 65
    refused refusal.Range
    ∷ posts 12 4866 1 0 3346617151 0 1771 3313014139 0 1579092990
    gets First 16777169
    ∷ emits 12 7
    gets Count 7
    reading (8440782 ∷ 9563909 ∷ 2164260813 ∷ 0 ∷ 0 ∷ 0 ∷ 0 ∷ 0 ∷ 12 ∷ 2928 ∷ 0 ∷ 512
    ∷ 25217998 ∷ 9563909 ∷ 2164260814 ∷ 0 ∷ 0 ∷ 0 ∷ 0 ∷ 0 ∷ 12 ∷ 2928 ∷ 512 ∷ 512
    ∷ 59821006 ∷ 9563909 ∷ 2164260815 ∷ 2948437035 ∷ 0 ∷ 0 ∷ 0 ∷ 0 ∷ 16 ∷ 2928 ∷ 1024 ∷ 511
    ∷ 209767374 ∷ 9563909 ∷ 2164260816 ∷ 0 ∷ 0 ∷ 442510702 ∷ 0 ∷ 0 ∷ 28 ∷ 5440 ∷ 2052368493 ∷ 0
    ∷ 109104078 ∷ 9563909 ∷ 2164260817 ∷ 0 ∷ 0 ∷ 1579092990 ∷ 1771 ∷ 0 ∷ 28 ∷ 4866 ∷ 3313014139 ∷ 512
    ∷ 125881294 ∷ 9563909 ∷ 2164260818 ∷ 0 ∷ 0 ∷ 0 ∷ 0 ∷ 0 ∷ 12 ∷ 4866 ∷ 3313014651 ∷ 512
    ∷ 125881294 ∷ 9563909 ∷ 2164260819 ∷ 0 ∷ 0 ∷ 0 ∷ 0 ∷ 0 ∷ 12 ∷ 4866 ∷ 3313015163 ∷ 512
    ∷ [])
    ∷ posts 12 1230 0 0 2813773069 1 1025 1663685848 17977269366357870465 3026170658
    refused refusal.Fence
    ∷ emits 12 4
    gets Count 1
    reading (143707086 ∷ 9563909 ∷ 2164260820 ∷ 0 ∷ 0 ∷ 0 ∷ 0 ∷ 0 ∷ 12 ∷ 4866 ∷ 3313015675 ∷ 235
    ∷ [])
    ∷ ticks 12 4294967294
    gets Answered Idle 0 0
    ∷ acks 12 16777167 21
    gets Answered Done 1 0 reading (2928 ∷ 0 ∷ [])
    ∷ posts 12 3023 1 1 922500160 1 0 2512732686 11549524964682178123 186842058
    refused refusal.Fence
    ∷ ticks 12 4294967295
    gets Answered Idle 0 0
    ∷ responds 12 16777168 16 0
    gets Answered Done 1 2052368493 reading (5440 ∷ 0 ∷ [])
    ∷ responds 12 16777168 15 0
    gets Answered Dropped 0 0
    ∷ posts 12 4176 1 0 1516315959 0 1 3615334306 18091536900636938044 3026012920
    gets First 16777173
    ∷ posts 12 6435 2 0 3934697165 0 1 0 12956326554365570959 963704800
    gets First 16777174
    ∷ responds 12 16777168 15 0
    gets Answered Dropped 0 0
    ∷ responds 12 16777168 16 0
    gets Answered Dropped 0 0
    ∷ emits 12 7
    gets Count 2
    reading (179358670 ∷ 9563909 ∷ 2164260821 ∷ 4212264181 ∷ 1129713468 ∷ 3026012920 ∷ 1 ∷ 0 ∷ 28 ∷ 4176 ∷ 3615334306 ∷ 1
    ∷ 209767374 ∷ 9563909 ∷ 2164260822 ∷ 3016629851 ∷ 183218063 ∷ 963704800 ∷ 1 ∷ 0 ∷ 28 ∷ 6435 ∷ 0 ∷ 0
    ∷ [])
    ∷ acks 12 16777171 59
    gets Answered Held 0 0
    ∷ posts 12 510459970 2 0 3506799597 0 1535 3283714446 3578734280396507135 3124174005
    gets First 16777175
    ∷ posts 12 4959 1 0 3237028140 0 512 1773054529 13561478436113388392 2910930258
    gets First 16777178
    ∷ responds 12 16777168 16 1
    gets Answered Dropped 0 0
    ∷ responds 12 16777168 15 0
    gets Answered Dropped 0 0
    ∷ ticks 12 4294967295
    gets Answered Resumed 0 0
    ∷ ticks 12 4294967294
    gets Answered Idle 0 0
    ∷ emits 12 6
    gets Count 6
    reading (125881294 ∷ 9563909 ∷ 2164260819 ∷ 0 ∷ 0 ∷ 0 ∷ 0 ∷ 0 ∷ 12 ∷ 4866 ∷ 3313015163 ∷ 512
    ∷ 143707086 ∷ 9563909 ∷ 2164260820 ∷ 0 ∷ 0 ∷ 0 ∷ 0 ∷ 0 ∷ 12 ∷ 4866 ∷ 3313015675 ∷ 235
    ∷ 179358670 ∷ 9563909 ∷ 2164260821 ∷ 4212264181 ∷ 1129713468 ∷ 3026012920 ∷ 1 ∷ 0 ∷ 28 ∷ 4176 ∷ 3615334306 ∷ 1
    ∷ 209767374 ∷ 9563909 ∷ 2164260822 ∷ 3016629851 ∷ 183218063 ∷ 963704800 ∷ 1 ∷ 0 ∷ 28 ∷ 6435 ∷ 0 ∷ 0
    ∷ 209767374 ∷ 9563909 ∷ 2164260823 ∷ 833239005 ∷ 4169926655 ∷ 3124174005 ∷ 1535 ∷ 0 ∷ 28 ∷ 510459970 ∷ 3283714446 ∷ 0
    ∷ 176212942 ∷ 9563909 ∷ 2164260826 ∷ 3157527753 ∷ 766022504 ∷ 2910930258 ∷ 512 ∷ 0 ∷ 28 ∷ 4959 ∷ 1773054529 ∷ 512
    ∷ [])
    ∷ ticks 12 1116275311
    gets Answered Idle 0 0
    ∷ acks 12 16777167 97
    gets Answered Dropped 0 0
    ∷ responds 12 16777169 15 0
    gets Answered Dropped 0 0
    ∷ responds 12 16777168 15 0
    gets Answered Dropped 0 0
    ∷ acks 12 16777165 41
    gets Answered Dropped 0 0
    ∷ responds 12 16777168 15 0
    gets Answered Dropped 0 0
    ∷ responds 12 16777168 16 0
    gets Answered Dropped 0 0
    ∷ responds 12 16777174 16 1
    gets Answered Done 3 0 reading (4866 ∷ 0 ∷ 4176 ∷ 0 ∷ 6435 ∷ 0 ∷ [])
    ∷ responds 12 16777175 16 512
    refused refusal.Response
    ∷ responds 12 16777176 14 511
    refused refusal.Response
    ∷ posts 12 142 0 0 2547429246 0 1 1655320686 0 2522635719
    gets First 16777179
    ∷ responds 12 16777175 13 512
    gets Answered Done 0 3283714446
    ∷ ticks 12 3984578089
    gets Answered Idle 0 0
    ∷ posts 12 5043 0 1 2616968181 0 1537 769573279 15299172212075680172 3879872460
    gets First 16777180
    ∷ emits 12 5
    gets Count 5
    reading (78695374 ∷ 9563909 ∷ 2164260827 ∷ 0 ∷ 0 ∷ 0 ∷ 0 ∷ 0 ∷ 12 ∷ 142 ∷ 1655320686 ∷ 1
    ∷ 8440782 ∷ 9563909 ∷ 2164260828 ∷ 0 ∷ 0 ∷ 0 ∷ 0 ∷ 0 ∷ 12 ∷ 5043 ∷ 769573279 ∷ 512
    ∷ 25217998 ∷ 9563909 ∷ 2164260829 ∷ 0 ∷ 0 ∷ 0 ∷ 0 ∷ 0 ∷ 12 ∷ 5043 ∷ 769573791 ∷ 512
    ∷ 25217998 ∷ 9563909 ∷ 2164260830 ∷ 0 ∷ 0 ∷ 0 ∷ 0 ∷ 0 ∷ 12 ∷ 5043 ∷ 769574303 ∷ 512
    ∷ 61918158 ∷ 9563909 ∷ 2164260831 ∷ 2616968181 ∷ 0 ∷ 0 ∷ 0 ∷ 0 ∷ 16 ∷ 5043 ∷ 769574815 ∷ 1
    ∷ [])
    ∷ emits 12 5
    gets Count 0
    ∷ posts 12 8 2 0 1946170491 0 1025 2815899906 0 3075421215
    gets First 16777184
    ∷ responds 12 16777177 16 511
    gets Answered Resending 0 0
    ∷ responds 12 16777176 13 512
    gets Answered Done 0 3283714958
    ∷ emits 12 3
    gets Count 3
    reading (209767374 ∷ 9563909 ∷ 2164260825 ∷ 833239005 ∷ 4169927679 ∷ 3124174005 ∷ 511 ∷ 0 ∷ 28 ∷ 510459970 ∷ 3283715470 ∷ 0
    ∷ 176212942 ∷ 9563909 ∷ 2164260826 ∷ 3157527753 ∷ 766022504 ∷ 2910930258 ∷ 512 ∷ 0 ∷ 28 ∷ 4959 ∷ 1773054529 ∷ 512
    ∷ 78695374 ∷ 9563909 ∷ 2164260827 ∷ 0 ∷ 0 ∷ 0 ∷ 0 ∷ 0 ∷ 12 ∷ 142 ∷ 1655320686 ∷ 1
    ∷ [])
    ∷ responds 12 16777177 65537 511
    refused refusal.Range
    ∷ emits 12 6
    gets Count 5
    reading (8440782 ∷ 9563909 ∷ 2164260828 ∷ 0 ∷ 0 ∷ 0 ∷ 0 ∷ 0 ∷ 12 ∷ 5043 ∷ 769573279 ∷ 512
    ∷ 25217998 ∷ 9563909 ∷ 2164260829 ∷ 0 ∷ 0 ∷ 0 ∷ 0 ∷ 0 ∷ 12 ∷ 5043 ∷ 769573791 ∷ 512
    ∷ 25217998 ∷ 9563909 ∷ 2164260830 ∷ 0 ∷ 0 ∷ 0 ∷ 0 ∷ 0 ∷ 12 ∷ 5043 ∷ 769574303 ∷ 512
    ∷ 61918158 ∷ 9563909 ∷ 2164260831 ∷ 2616968181 ∷ 0 ∷ 0 ∷ 0 ∷ 0 ∷ 16 ∷ 5043 ∷ 769574815 ∷ 1
    ∷ 209767374 ∷ 9563909 ∷ 2164260832 ∷ 0 ∷ 0 ∷ 3075421215 ∷ 1025 ∷ 0 ∷ 28 ∷ 8 ∷ 2815899906 ∷ 0
    ∷ [])
    ∷ posts 12 4800 2 0 3917483875 0 308 0 11242692462768371192 3929103131
    gets First 16777187
    ∷ [])
unfolding account side_at distance packets_of posted bad_settings bad_post emitted release acknowledge response timer
    write_of written bytes laid layout header_length number
seed-1621 = refl
