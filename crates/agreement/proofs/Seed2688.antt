-- tools/agreement wrote this from the second program's answers to its own random trace of seed 2688.
use mathlib.Core.Path.{refl}
use mathlib.Core.List.{[], ◌∷◌}
use Rattle.psn.specs.Psn.{distance}
use Rattle.refusal.specs.declared.Refusal.TheVariants as refusal
use Rattle.wire.specs.Bytes.{number, bytes}
use Rattle.wire.specs.Layout.{laid}
use Rattle.wire.specs.Opcodes.{layout, header_length}
use Rattle.wire.specs.Header.{write_of, written}
use Rattle.rules.specs.declared.Answer.TheVariants.{Dropped, Done, Resending, Held, Resumed, Idle, Ended}
use Rattle.rules.specs.declared.Reply.TheVariants.{Answered, First, Count}
use Rattle.rules.specs.Message.{packets_of}
use Rattle.rules.specs.Ranges.{bad_settings, bad_post}
use Rattle.rules.specs.Posting.{posted}
use Rattle.rules.specs.Emission.{emitted}
use Rattle.rules.specs.Release.{release}
use Rattle.rules.specs.Acknowledge.{acknowledge}
use Rattle.rules.specs.Response.{response}
use Rattle.rules.specs.Timer.{timer}
use Rattle.rules.specs.Requests.{starting}
use Rattle.rules.specs.Refusals.{side_at}
use Rattle.rules.specs.Calls.{account}
use Rattle.agreement.specs.Trace.{opens, posts, emits, acks, responds, ticks, closes, ◌gets◌, ◌refused◌, ◌reading◌, Agrees}

pub seed-2688 :
    Agrees
    (opens 52 10258294 16777205 9732 1 9 14 0 2 8
    gets Answered Done 0 0
    ∷ ticks 52 1048576
    gets Answered Idle 0 0
    ∷ acks 52 16777205 9
    gets Answered Dropped 0 0
    ∷ posts 52 9535 1 0 266639079 0 255 4237746577 8522065218609454846 4068222959
    gets First 16777205
    ∷ emits 52 8
    gets Count 1
    reading (177219076 ∷ 10258294 ∷ 2164260853 ∷ 1984197930 ∷ 468557566 ∷ 4068222959 ∷ 255 ∷ 0 ∷ 28 ∷ 9535 ∷ 4237746577 ∷ 255
    ∷ [])
    ∷ ticks 52 1048576
    gets Answered Ended 1 0 reading (9535 ∷ 1 ∷ [])
    ∷ closes 52
    gets Answered Done 0 0
    ∷ opens 51 1045576 11238803 38131 1 10 15 1 1 1
    gets Answered Done 0 0
    ∷ posts 51 1388 0 0 3452016434 1 255 294893704 8535091078345114335 2992957786
    gets First 11238803
    ∷ posts 51 6229 2 0 1723393122 0 378 2394830226 18446744073709551238 3072953276
    gets First 11238804
    ∷ opens 63 10275588 1103692 30470 3 245 256 1 6 20
    gets Answered Done 0 0
    ∷ responds 63 1103692 14 160
    gets Answered Dropped 0 0
    ∷ ticks 63 4294967294
    gets Answered Idle 0 0
    ∷ ticks 63 0
    gets Answered Idle 0 0
    ∷ opens 52 6880887 16777177 6033 1 1 244 6 1 20
    gets Answered Done 0 0
    ∷ emits 52 5
    gets Count 0
    ∷ posts 52 8182 1 0 3858565466 0 2147483648 2147483648 2647318667598367786 750143838
    refused refusal.Range
    ∷ posts 52 985249322 1 0 379289590 0 62431 434914892 2456276683007982155 1878456809
    refused refusal.Room
    ∷ posts 52 1527 0 0 2742786587 0 1 4237321409 6986209614013567688 4178224465
    gets First 16777177
    ∷ ticks 52 2009117891
    gets Answered Idle 0 0
    ∷ emits 52 64
    gets Count 1
    reading (78649233 ∷ 6880887 ∷ 2164260825 ∷ 0 ∷ 0 ∷ 0 ∷ 0 ∷ 0 ∷ 12 ∷ 1527 ∷ 4237321409 ∷ 1
    ∷ [])
    ∷ acks 52 16777177 96
    gets Answered Resending 0 0
    ∷ ticks 52 3694396091
    gets Answered Idle 0 0
    ∷ ticks 63 4294967294
    gets Answered Idle 0 0
    ∷ posts 63 5015 1 0 2628809974 0 419 3732168987 2547559468170485867 2000327406
    gets First 1103692
    ∷ posts 63 8300 0 0 3714080958 0 900 2872012003 10325760823058451469 941725081
    gets First 1103693
    ∷ ticks 63 4294967295
    gets Answered Idle 0 0
    ∷ ticks 52 600571206
    gets Answered Resending 0 0
    ∷ emits 52 7
    gets Count 1
    reading (78649233 ∷ 6880887 ∷ 2164260825 ∷ 0 ∷ 0 ∷ 0 ∷ 0 ∷ 0 ∷ 12 ∷ 1527 ∷ 4237321409 ∷ 1
    ∷ [])
    ∷ acks 52 16777177 96
    gets Answered Resending 0 0
    ∷ posts 51 1206 2 1 3766979172 0 256 2201985865 18446744073709551360 381470217
    refused refusal.Range
    ∷ posts 51 7647 1 1 1445617352 0 1019 4294966277 6737506686477949520 209549870
    gets First 11238806
    ∷ ticks 51 7666
    gets Answered Idle 0 0
    ∷ emits 18446744073709551615 5
    refused refusal.Pair
    ∷ emits 51 64
    gets Count 6
    reading (76584179 ∷ 1045576 ∷ 2158722451 ∷ 0 ∷ 0 ∷ 0 ∷ 0 ∷ 0 ∷ 12 ∷ 1388 ∷ 294893704 ∷ 255
    ∷ 209753331 ∷ 1045576 ∷ 2158722452 ∷ 4294967295 ∷ 4294966918 ∷ 3072953276 ∷ 378 ∷ 0 ∷ 28 ∷ 6229 ∷ 2394830226 ∷ 0
    ∷ 109090035 ∷ 1045576 ∷ 2158722454 ∷ 1568698018 ∷ 1867930192 ∷ 209549870 ∷ 1019 ∷ 0 ∷ 28 ∷ 7647 ∷ 4294966277 ∷ 256
    ∷ 125867251 ∷ 1045576 ∷ 2158722455 ∷ 0 ∷ 0 ∷ 0 ∷ 0 ∷ 0 ∷ 12 ∷ 7647 ∷ 4294966533 ∷ 256
    ∷ 125867251 ∷ 1045576 ∷ 2158722456 ∷ 0 ∷ 0 ∷ 0 ∷ 0 ∷ 0 ∷ 12 ∷ 7647 ∷ 4294966789 ∷ 256
    ∷ 160470259 ∷ 1045576 ∷ 2158722457 ∷ 1445617352 ∷ 0 ∷ 0 ∷ 0 ∷ 0 ∷ 16 ∷ 7647 ∷ 4294967045 ∷ 251
    ∷ [])
    ∷ ticks 51 8192
    gets Answered Resending 0 0
    ∷ ticks 51 8191
    gets Answered Idle 0 0
    ∷ acks 51 11238803 99
    gets Answered Ended 3 0 reading (1388 ∷ 1 ∷ 6229 ∷ 1 ∷ 7647 ∷ 1 ∷ [])
    ∷ posts 51 1 1 0 0 0 3659 0 0 0
    refused refusal.State
    ∷ emits 51 23
    refused refusal.State
    ∷ opens 51 1 1 1 3 1 1 1 1 1
    refused refusal.State
    ∷ responds 51 15428577 13 256
    refused refusal.State
    ∷ closes 51
    gets Answered Done 0 0
    ∷ opens 51 14634390 16777171 37324 1 12 253 1 2 6
    refused refusal.Room
    ∷ opens 51 13502849 16777182 23355 5 8 251 0 1 0
    gets Answered Done 0 0
    ∷ posts 52 2944 1 1 4121125989 0 256 1539123313 6482576253324378149 914228525
    gets First 16777178
    ∷ emits 52 8
    gets Count 2
    reading (78649233 ∷ 6880887 ∷ 2164260825 ∷ 0 ∷ 0 ∷ 0 ∷ 0 ∷ 0 ∷ 12 ∷ 1527 ∷ 4237321409 ∷ 1
    ∷ 192944017 ∷ 6880887 ∷ 2164260826 ∷ 1509342401 ∷ 2563260453 ∷ 914228525 ∷ 256 ∷ 4121125989 ∷ 32 ∷ 2944 ∷ 1539123313 ∷ 256
    ∷ [])
    ∷ emits 52 7
    gets Count 0
    ∷ acks 52 16777179 19
    gets Answered Dropped 0 0
    ∷ acks 52 16777177 29
    gets Answered Done 1 0 reading (1527 ∷ 0 ∷ [])
    ∷ posts 52 5301 0 1 3933317786 1 0 1526476915 17499137680026611304 4043639871
    gets First 16777179
    ∷ emits 63 64
    gets Count 2
    reading (177239814 ∷ 10275588 ∷ 2148587340 ∷ 593149910 ∷ 3095142507 ∷ 2000327406 ∷ 419 ∷ 0 ∷ 28 ∷ 5015 ∷ 3732168987 ∷ 419
    ∷ 75527942 ∷ 10275588 ∷ 2148587341 ∷ 0 ∷ 0 ∷ 0 ∷ 0 ∷ 0 ∷ 12 ∷ 8300 ∷ 2872012003 ∷ 900
    ∷ [])
    ∷ posts 63 5953 2 0 2477804109 0 12288 4169011665 363537081183210411 2080545235
    gets First 1103694
    ∷ posts 63 4566 0 1 2090492327 0 1024 4047347885 16506301298356143571 3444050833
    gets First 1103706
    ∷ acks 63 1103694 7
    gets Answered Dropped 0 0
    ∷ posts 63 9903 2 0 3768498179 0 21503 1934147088 13579334107445012055 2017171617
    gets First 1103707
    ∷ opens 48 15624236 8388596 12132 1 3 256 7 0 8
    refused refusal.Room
    ∷ ticks 48 1901345739
    refused refusal.State
    ∷ opens 48 10626986 16777180 1814 1 8 8 7 2 15
    refused refusal.Room
    ∷ opens 48 11309507 16777210 41044 1 1 1 2 0 0
    gets Answered Done 0 0
    ∷ [])
unfolding account side_at distance packets_of posted bad_settings bad_post emitted release acknowledge response timer
    write_of written bytes laid layout header_length number
seed-2688 = refl
