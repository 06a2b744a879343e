-- tools/agreement wrote this from the second program's answers to its own random trace of seed 295.
use mathlib.Core.Path.{refl}
use mathlib.Core.List.{[], ◌∷◌}
use Rattle.psn.specs.Psn.{distance}
use Rattle.refusal.specs.declared.Refusal.TheVariants as refusal
use Rattle.wire.specs.Bytes.{number, bytes}
use Rattle.wire.specs.Layout.{laid}
use Rattle.wire.specs.Opcodes.{layout, header_length}
use Rattle.wire.specs.Header.{write_of, written}
use Rattle.rules.specs.declared.Answer.TheVariants.{Dropped, Done, Resending, Held, Resumed, Idle, Ended}
use Rattle.rules.specs.declared.Reply.TheVariants.{Answered, First, Count}
use Rattle.rules.specs.Message.{packets_of}
use Rattle.rules.specs.Ranges.{bad_settings, bad_post}
use Rattle.rules.specs.Posting.{posted}
use Rattle.rules.specs.Emission.{emitted}
use Rattle.rules.specs.Release.{release}
use Rattle.rules.specs.Acknowledge.{acknowledge}
use Rattle.rules.specs.Response.{response}
use Rattle.rules.specs.Timer.{timer}
use Rattle.rules.specs.Requests.{starting}
use Rattle.rules.specs.Refusals.{side_at}
use Rattle.rules.specs.Calls.{account}
use Rattle.agreement.specs.Trace.{opens, posts, emits, acks, responds, ticks, closes, ◌gets◌, ◌refused◌, ◌reading◌, Agrees}

pub seed-295 :
    Agrees
    (opens 25 1548052 8388591 40484 1 9 256 1 1 8
    gets Answered Done 0 0
    ∷ posts 25 7527 0 1 300537745 0 256 0 716781938398642868 123357749
    gets First 8388591
    ∷ emits 25 3
    gets Count 1
    reading (92315172 ∷ 1548052 ∷ 2155872239 ∷ 300537745 ∷ 0 ∷ 0 ∷ 0 ∷ 0 ∷ 16 ∷ 7527 ∷ 0 ∷ 256
    ∷ [])
    ∷ acks 25 13320540 19
    gets Answered Dropped 0 0
    ∷ opens 38 5808861 16777213 30773 2 6 256 0 6 8
    gets Answered Done 0 0
    ∷ ticks 38 1048577
    gets Answered Idle 0 0
    ∷ ticks 38 1048576
    gets Answered Idle 0 0
    ∷ posts 38 8069 2 0 2199381597 0 2147483647 648222242 17419435198247683828 3722669512
    gets First 16777213
    ∷ acks 25 8388591 21
    gets Answered Done 1 0 reading (7527 ∷ 0 ∷ [])
    ∷ ticks 25 318358
    gets Answered Idle 0 0
    ∷ emits 25 3
    gets Count 0
    ∷ responds 25 8388631 15 255
    gets Answered Dropped 0 0
    ∷ posts 25 5419 1 0 1805677032 1 459 948059759 4120159600178098114 4268108428
    gets First 8388592
    ∷ opens 42 11267979 16777178 34345 3 234 236 7 1 3
    gets Answered Done 0 0
    ∷ posts 42 4454 1 1 1513837790 0 1023 3692474221 13120111048573488113 1936448754
    gets First 16777178
    ∷ emits 42 8
    gets Count 1
    reading (194020905 ∷ 11267979 ∷ 2164260826 ∷ 3054763900 ∷ 1072073713 ∷ 1936448754 ∷ 1023 ∷ 1513837790 ∷ 32 ∷ 4454 ∷ 3692474221 ∷ 1023
    ∷ [])
    ∷ acks 42 16777178 30
    gets Answered Done 1 0 reading (4454 ∷ 0 ∷ [])
    ∷ posts 42 2780 2 0 3626498390 0 0 2274265298 9087747868976947528 998636111
    gets First 16777179
    ∷ emits 42 4
    gets Count 1
    reading (209749545 ∷ 11267979 ∷ 2164260827 ∷ 2115906185 ∷ 2997821768 ∷ 998636111 ∷ 0 ∷ 0 ∷ 28 ∷ 2780 ∷ 2274265298 ∷ 0
    ∷ [])
    ∷ posts 42 2852 2 0 1801433741 0 0 0 4349600541609243219 3033257521
    gets First 16777180
    ∷ emits 42 4
    gets Count 1
    reading (209749545 ∷ 11267979 ∷ 2164260828 ∷ 1012720293 ∷ 3178705491 ∷ 3033257521 ∷ 0 ∷ 0 ∷ 28 ∷ 2852 ∷ 0 ∷ 0
    ∷ [])
    ∷ responds 65 16777179 13 0
    refused refusal.Pair
    ∷ posts 42 1680 1 0 98871367 0 352 0 10618674569569352934 3062917968
    gets First 16777181
    ∷ posts 42 2283 1 1 656908968 0 1023 793159161 10451314293890049608 3209193871
    gets First 16777182
    ∷ responds 42 16777179 15 0
    gets Answered Done 1 2274265298 reading (2780 ∷ 0 ∷ [])
    ∷ responds 42 16777180 16 0
    gets Answered Done 1 0 reading (2852 ∷ 0 ∷ [])
    ∷ posts 42 1341 2 0 2128451251 0 2047 1199647104 7340708506425195197 1871367403
    gets First 16777183
    ∷ posts 42 6234 2 0 3619285572 0 3366 2729155411 7687753880364022170 1479997037
    gets First 16777185
    ∷ acks 42 16777182 26
    gets Answered Dropped 0 0
    ∷ emits 42 4
    gets Count 4
    reading (176195113 ∷ 11267979 ∷ 2164260829 ∷ 2472352834 ∷ 3366436070 ∷ 3062917968 ∷ 352 ∷ 0 ∷ 28 ∷ 1680 ∷ 0 ∷ 352
    ∷ 194020905 ∷ 11267979 ∷ 2164260830 ∷ 2433386234 ∷ 323446344 ∷ 3209193871 ∷ 1023 ∷ 656908968 ∷ 32 ∷ 2283 ∷ 793159161 ∷ 1023
    ∷ 209749545 ∷ 11267979 ∷ 2164260831 ∷ 1709141886 ∷ 1831434941 ∷ 1871367403 ∷ 2047 ∷ 0 ∷ 28 ∷ 1341 ∷ 1199647104 ∷ 0
    ∷ 209749545 ∷ 11267979 ∷ 2164260833 ∷ 1789944684 ∷ 934967706 ∷ 1479997037 ∷ 3366 ∷ 0 ∷ 28 ∷ 6234 ∷ 2729155411 ∷ 0
    ∷ [])
    ∷ emits 42 42
    gets Count 0
    ∷ posts 42 8881 2 0 1116907362 0 1 1793888697 7865120060878558597 3820790288
    gets First 16777189
    ∷ emits 42 3
    gets Count 1
    reading (209749545 ∷ 11267979 ∷ 2164260837 ∷ 1831240966 ∷ 813110661 ∷ 3820790288 ∷ 1 ∷ 0 ∷ 28 ∷ 8881 ∷ 1793888697 ∷ 0
    ∷ [])
    ∷ posts 42 6074 2 0 2085228841 0 4095 3209924017 8393594708926606916 653069877
    gets First 16777190
    ∷ emits 42 4
    gets Count 1
    reading (209749545 ∷ 11267979 ∷ 2164260838 ∷ 1954286058 ∷ 2787847748 ∷ 653069877 ∷ 4095 ∷ 0 ∷ 28 ∷ 6074 ∷ 3209924017 ∷ 0
    ∷ [])
    ∷ acks 42 16777182 99
    gets Answered Ended 6 0 reading (1680 ∷ 0 ∷ 2283 ∷ 1 ∷ 1341 ∷ 1 ∷ 6234 ∷ 1 ∷ 8881 ∷ 1 ∷ 6074 ∷ 1 ∷ [])
    ∷ closes 42
    gets Answered Done 0 0
    ∷ opens 42 45030 16777206 6479 3 16 21 0 0 4
    gets Answered Done 0 0
    ∷ responds 42 16777206 15 150
    gets Answered Dropped 0 0
    ∷ posts 42 2952 1 1 3840963157 0 1023 3701967071 11007179512838281637 2179967705
    gets First 16777206
    ∷ emits 42 6
    gets Count 1
    reading (193993039 ∷ 45030 ∷ 2164260854 ∷ 2562808690 ∷ 3383679397 ∷ 2179967705 ∷ 1023 ∷ 3840963157 ∷ 32 ∷ 2952 ∷ 3701967071 ∷ 1023
    ∷ [])
    ∷ posts 42 5185 0 1 3755228196 0 1024 0 4521594849087765569 3735970937
    gets First 16777207
    ∷ acks 42 16777207 96
    gets Answered Dropped 0 0
    ∷ acks 42 16777206 41
    gets Answered Ended 2 0 reading (2952 ∷ 1 ∷ 5185 ∷ 1 ∷ [])
    ∷ opens 42 1 1 1 5 1 1 1 1 1
    refused refusal.State
    ∷ opens 28 13224980 8388579 61029 1 12 12 7 7 0
    gets Answered Done 0 0
    ∷ posts 28 5188 2 0 561718526 0 513 209613961 10692257733987882168 3872134056
    gets First 8388579
    ∷ emits 28 1
    gets Count 1
    reading (209776229 ∷ 13224980 ∷ 2155872227 ∷ 2489485250 ∷ 1363498168 ∷ 3872134056 ∷ 513 ∷ 0 ∷ 28 ∷ 5188 ∷ 209613961 ∷ 0
    ∷ [])
    ∷ acks 28 8388579 97
    gets Answered Resending 0 0
    ∷ responds 28 8388579 14 256
    gets Answered Done 0 209613961
    ∷ emits 28 4
    gets Count 1
    reading (209776229 ∷ 13224980 ∷ 2155872228 ∷ 2489485250 ∷ 1363498424 ∷ 3872134056 ∷ 257 ∷ 0 ∷ 28 ∷ 5188 ∷ 209614217 ∷ 0
    ∷ [])
    ∷ responds 28 8388580 14 257
    refused refusal.Response
    ∷ responds 25 8388592 14 256
    gets Answered Dropped 0 0
    ∷ closes 42
    gets Answered Done 0 0
    ∷ opens 42 5315496 3101595 59165 1 12 12 7 7 20
    gets Answered Done 0 0
    ∷ emits 42 5
    gets Count 0
    ∷ posts 42 203 1 0 733895234 0 255 3344866681 14281282351557724460 3223343967
    gets First 3101595
    ∷ posts 42 9440 1 0 3713249957 0 769 4290107716 9816055278791775749 1314117854
    gets First 3101596
    ∷ posts 42 9520 2 0 2033132546 0 767 1145237520 2596250812978011789 3854124876
    gets First 3101600
    ∷ emits 42 8
    gets Count 6
    reading (177268509 ∷ 5315496 ∷ 2150585243 ∷ 3325120162 ∷ 497502508 ∷ 3223343967 ∷ 255 ∷ 0 ∷ 28 ∷ 203 ∷ 3344866681 ∷ 255
    ∷ 109111069 ∷ 5315496 ∷ 2150585244 ∷ 2285478468 ∷ 3019593221 ∷ 1314117854 ∷ 769 ∷ 0 ∷ 28 ∷ 9440 ∷ 4290107716 ∷ 256
    ∷ 125888285 ∷ 5315496 ∷ 2150585245 ∷ 0 ∷ 0 ∷ 0 ∷ 0 ∷ 0 ∷ 12 ∷ 9440 ∷ 4290107972 ∷ 256
    ∷ 125888285 ∷ 5315496 ∷ 2150585246 ∷ 0 ∷ 0 ∷ 0 ∷ 0 ∷ 0 ∷ 12 ∷ 9440 ∷ 4290108228 ∷ 256
    ∷ 145811229 ∷ 5315496 ∷ 2150585247 ∷ 0 ∷ 0 ∷ 0 ∷ 0 ∷ 0 ∷ 12 ∷ 9440 ∷ 4290108484 ∷ 1
    ∷ 209774365 ∷ 5315496 ∷ 2150585248 ∷ 604486747 ∷ 3747585677 ∷ 3854124876 ∷ 767 ∷ 0 ∷ 28 ∷ 9520 ∷ 1145237520 ∷ 0
    ∷ [])
    ∷ [])
unfolding account side_at distance packets_of posted bad_settings bad_post emitted release acknowledge response timer
    write_of written bytes laid layout header_length number
seed-295 = refl
