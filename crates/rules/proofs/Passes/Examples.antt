-- Queues and tables that pass and that do not, by computation: pairs of PMTU 256 and ceiling 4, in a table of eight slots.
use mathlib.Core.Path.{◌≡◌, refl}
use mathlib.Core.Bool.{Bool, true, false}
use mathlib.Core.List.{List, [], ◌∷◌, ◌++◌}
use Prim.Native.Nat.{ℕ}
use native.Mathlib.Omega.{arith}
use lib.ListN.{drop}
use Rattle.rules.specs.declared.Packet.{Packet}
use Rattle.rules.specs.declared.Settings.{Settings}
use Rattle.rules.specs.declared.Line.{Line}
use Rattle.rules.specs.declared.Pair.{Pair}
use Rattle.rules.specs.declared.Standing.{Standing}
use Rattle.rules.specs.declared.Slot.{Slot}
use Rattle.rules.specs.declared.Post.{Post}
use Rattle.psn.specs.Psn.{distance}
use Rattle.rules.specs.Card.{Card}
use Rattle.rules.specs.Account.{no_packet}
use Rattle.rules.specs.Message.{packets_of}
use Rattle.rules.specs.Ranges.{bad_settings, bad_post}
use Rattle.rules.specs.Slots.{Tables, slot_at, relinked, holding, filled, chain, ends_of, fresh}
use Rattle.rules.specs.Passes.Links.{links_pass}
use Rattle.rules.specs.Passes.Queue.{queue_passes}
use Rattle.rules.specs.Passes.Record.{record_passes}
use Rattle.rules.specs.Passes.Stage.{same, allowed_to, single, opens, closes, goes_on}
use Rattle.rules.specs.Passes.Tables.{has, put, none_of, pair_passes, passes}
use Rattle.rules.specs.Passes.Tests.{◌and◌}

settings : Settings
settings = record { far = 7; pkey = 65535; pmtu = 1; share = 4; ceiling = 4; retry = 7; rnr = 7; timeout = 14 }

-- a pair's standing by state, settings, line and times
stood : ℕ → Settings → Line → ℕ → ℕ → Standing
stood state st l elapsed hold =
    record { state = state; settings = st; line = l; clock = record { retries = 7; rnrs = 7; elapsed = elapsed; hold = hold } }

line : ℕ → ℕ → ℕ → ℕ → Line
line u x h n = record { u = u; x = x; h = h; n = n }

-- a ready pair
standing : ℕ → ℕ → ℕ → ℕ → Standing
standing u x h n = stood 1 settings (line u x h n) 0 0

post : ℕ → ℕ → ℕ → Post
post kind offset len = record { kind = kind; immediate = false; fenced = false; ticket = 5; offset = offset; length = len; address = 4096; key = 9; value = 0 }

-- eight empty slots
empty : List Slot
empty = let e : Slot = record { link = 0; packet = no_packet } in e ∷ e ∷ e ∷ e ∷ e ∷ e ∷ e ∷ e ∷ []

-- packets in the slots of a list, linked
table : List ℕ → List Packet → List Slot
table l ps = chain 8 l (filled l ps empty)

walks : List ℕ → List Packet → Standing → Bool
walks l ps t = queue_passes 8 (table l ps) t (ends_of 8 l)

-- the records of a post at PSN 10
at : ℕ → ℕ → ℕ → List Packet
at kind offset len = packets_of settings (post kind offset len) 10

pub answers : List Bool
answers =
    -- an empty queue; the same with N past U
    walks [] [] (standing 10 10 10 10)
    ∷ walks [] [] (standing 10 10 10 11)
    -- a Write of 600 bytes, and a read of 1,000 after it
    ∷ walks (3 ∷ 1 ∷ 6 ∷ []) (at 1 0 600) (standing 10 11 13 13)
    ∷ walks (3 ∷ 1 ∷ 6 ∷ 0 ∷ []) (at 1 0 600 ++ packets_of settings (post 2 0 1000) 13) (standing 10 11 13 17)
    -- X inside the read, and not at a record's start
    ∷ walks (3 ∷ 1 ∷ 6 ∷ 0 ∷ []) (at 1 0 600 ++ packets_of settings (post 2 0 1000) 13) (standing 10 14 17 17)
    -- the read, two places answered; H must be past it
    ∷ walks (0 ∷ []) (at 2 0 1000) (standing 12 12 14 14)
    ∷ walks (0 ∷ []) (at 2 0 1000) (standing 12 12 12 14)
    -- only the rear of the Write
    ∷ walks (1 ∷ 6 ∷ []) (drop 1 (at 1 0 600)) (standing 11 11 13 13)
    -- only its front: the message has no end
    ∷ walks (3 ∷ 1 ∷ []) (packets_of settings (post 1 0 600) 10) (standing 10 10 12 12)
    -- more packets than the ceiling; as many as the ceiling, and as many as that in a rear part
    ∷ walks (0 ∷ 1 ∷ 2 ∷ 3 ∷ 4 ∷ []) (at 0 0 1280) (standing 10 10 15 15)
    ∷ walks (0 ∷ 1 ∷ 2 ∷ 3 ∷ []) (at 0 0 1024) (standing 10 10 14 14)
    ∷ walks (1 ∷ 2 ∷ 3 ∷ 4 ∷ []) (drop 1 (at 0 0 1280)) (standing 11 11 15 15)
    -- a link back to the first slot
    ∷ queue_passes 8 (relinked 6 3 (table (3 ∷ 1 ∷ 6 ∷ []) (at 1 0 600))) (standing 10 11 13 13) (ends_of 8 (3 ∷ 1 ∷ 6 ∷ []))
    ∷ []

pub walked-as-said : answers ≡ true ∷ false ∷ true ∷ true ∷ false ∷ true ∷ false ∷ true ∷ false ∷ false ∷ true ∷ false ∷ false ∷ []
unfolding answers walks table stood line at empty post standing settings queue_passes ◌and◌ same allowed_to bad_post single opens closes goes_on packets_of distance slot_at relinked holding
walked-as-said = refl

-- ---- tables of two pairs and eight slots: pair 0 has a Write in slots 3, 1 and 6, pair 1 a read in slot 0, the rest are free

pair : Standing → List ℕ → Pair
pair t l = record { standing = t; queue = ends_of 8 l }

-- links and packets as they should be
slots : List Slot
slots =
    chain 8 (2 ∷ 4 ∷ 5 ∷ 7 ∷ [])
    (chain 8 (0 ∷ []) (filled (0 ∷ []) (at 2 0 1000) (table (3 ∷ 1 ∷ 6 ∷ []) (at 1 0 600))))

-- the pairs stand as given
tables : Standing → Standing → Tables
tables a b = record { pairs = pair a (3 ∷ 1 ∷ 6 ∷ []) ∷ pair b (0 ∷ []) ∷ []; ends = record { first = 2; last = 7 }; slots = slots }

-- pair 0 and pair 1 where all is well, and pair 0 with other settings
write : Settings → Standing
write st = stood 1 st (line 10 11 13 13) 0 0

read : Standing
read = standing 12 12 14 14

-- pair 1 with nothing, at other lines and times
none : Standing → Tables
none b =
    record { pairs = pair (write settings) (3 ∷ 1 ∷ 6 ∷ []) ∷ pair b [] ∷ []; ends = record { first = 2; last = 0 }; slots = chain 8 (2 ∷ 4 ∷ 5 ∷ 7 ∷ 0 ∷ []) slots }

-- so many pairs and slots
card : ℕ → ℕ → Card
card pairs slots = record { pairs = pairs; slots = slots; none = slots; apart = omega arith }

pub table-answers : List Bool
table-answers =
    -- a fresh start; all well
    passes (card 2 8) (fresh (card 2 8))
    ∷ passes (card 2 8) (tables (write settings) read)
    -- another number of pairs, or of slots
    ∷ passes (card 3 8) (tables (write settings) read)
    ∷ passes (card 2 9) (tables (write settings) read)
    -- shares of 5 and 4; a share above its ceiling; a PMTU code of 0
    ∷ passes (card 2 8) (tables (write (record { far = 7; pkey = 65535; pmtu = 1; share = 5; ceiling = 5; retry = 7; rnr = 7; timeout = 14 })) read)
    ∷ passes (card 2 8) (tables (write (record { far = 7; pkey = 65535; pmtu = 1; share = 4; ceiling = 3; retry = 7; rnr = 7; timeout = 14 })) read)
    ∷ passes (card 2 8) (tables (write (record { far = 7; pkey = 65535; pmtu = 0; share = 4; ceiling = 4; retry = 7; rnr = 7; timeout = 14 })) read)
    -- more retries left than the setting
    ∷ passes (card 2 8) (tables (write (record { far = 7; pkey = 65535; pmtu = 1; share = 4; ceiling = 4; retry = 6; rnr = 7; timeout = 14 })) read)
    -- the read's pair is ended or closed, and still holds it; there is no state 3
    ∷ passes (card 2 8) (tables (write settings) (stood 2 settings (line 12 12 14 14) 0 0))
    ∷ passes (card 2 8) (tables (write settings) (stood 0 settings (line 12 12 14 14) 0 0))
    ∷ passes (card 2 8) (none (stood 3 settings (line 12 12 14 14) 0 0))
    -- an ended pair's line and times are not looked at, nor is anything of a closed pair, but that it holds nothing
    ∷ passes (card 2 8) (none (stood 2 settings (line 12 14 13 12) 9 655360001))
    ∷ passes (card 2 8) (none (stood 0 (record { far = 0; pkey = 65536; pmtu = 9; share = 9; ceiling = 0; retry = 8; rnr = 8; timeout = 32 }) (line 12 14 13 12) 9 655360001))
    -- the longest hold, and one more; time runs while something waits, and not where nothing was emitted
    ∷ passes (card 2 8) (tables (write settings) (stood 1 settings (line 12 12 14 14) 0 655360000))
    ∷ passes (card 2 8) (tables (write settings) (stood 1 settings (line 12 12 14 14) 0 655360001))
    ∷ passes (card 2 8) (tables (write settings) (stood 1 settings (line 12 12 14 14) 67108863 0))
    ∷ passes (card 2 8) (tables (write settings) (stood 1 settings (line 12 12 14 14) 67108864 0))
    ∷ passes (card 2 8) (none (stood 1 settings (line 12 12 12 12) 1 0))
    -- the free queue ends a slot early
    ∷ passes (card 2 8) (record { pairs = (tables (write settings) read).pairs; ends = record { first = 2; last = 5 }; slots = relinked 5 8 slots })
    -- pair 1's queue is the free queue's last slot
    ∷ passes (card 2 8)
    (record { pairs = pair (write settings) (3 ∷ 1 ∷ 6 ∷ []) ∷ pair read (7 ∷ []) ∷ []; ends = record { first = 2; last = 7 }; slots = holding 7 (slot_at slots 0).packet slots })
    ∷ []

pub tables-as-said :
    table-answers
    ≡ true ∷ true
    ∷ false ∷ false
    ∷ false ∷ false ∷ false
    ∷ false
    ∷ false ∷ false ∷ false
    ∷ true ∷ true
    ∷ true ∷ false ∷ true ∷ false ∷ false
    ∷ false
    ∷ false
    ∷ []
unfolding table-answers card bad_settings tables none write read slots pair at table empty post stood line standing settings fresh passes none_of has put pair_passes record_passes links_pass queue_passes ◌and◌ same allowed_to bad_post single opens closes goes_on packets_of distance slot_at relinked holding
tables-as-said = refl
