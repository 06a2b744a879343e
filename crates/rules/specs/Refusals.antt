-- "Refusal numbers": each number's condition, and their order as one list for every request.
use Rattle.std.specs.Prelude.{Bool, false, not, ◌&&◌, ◌||◌, List, [], ◌∷◌, ℕ, ◌+◌, ltb, leb, eqb, length, get_or}
use Rattle.psn.specs.Psn.{half, distance}
use Rattle.refusal.specs.declared.Refusal.TheVariants as refusal
use Rattle.refusal.specs.Refusals.{Row, ◌gives◌}
use Rattle.rules.specs.declared.Packet.{Packet}
use Rattle.rules.specs.declared.Settings.{Settings}
use Rattle.rules.specs.declared.Post.{Post}
use Rattle.rules.specs.Card.{Card}
use Rattle.rules.specs.Account.{Side, no_side, closed, ready, U, N, ahead}
use Rattle.rules.specs.Message.{slots_for, psns_for, is_read}
use Rattle.rules.specs.Ranges.{bad_settings, bad_psn, bad_post, bad_budget, bad_syndrome, bad_response, bad_elapsed, over_ceiling}
use Rattle.rules.specs.Acknowledge.{inside}
use Rattle.rules.specs.Response.{unfit}
use Rattle.rules.specs.Pool.{exceeds, lacks_room, claims}
use Rattle.rules.specs.Requests.{Request, opening, posting, emitting, acknowledging, responding, ticking, closing, lent, needed}

-- pair p's side
unfoldable pub side_at : List Side → ℕ → Side
side_at a p = get_or a p no_side

-- ---- conditions that some requests alone can meet

abbrev pub of_opening : Request → (Settings → Bool) → Bool
of_opening (opening st a) test = test st
of_opening (posting m) test = false
of_opening (emitting n b) test = false
of_opening (acknowledging r y b) test = false
of_opening (responding r o l b) test = false
of_opening (ticking e b) test = false
of_opening (closing b) test = false

abbrev pub of_post : Request → (Post → Bool) → Bool
of_post (opening st a) test = false
of_post (posting m) test = test m
of_post (emitting n b) test = false
of_post (acknowledging r y b) test = false
of_post (responding r o l b) test = false
of_post (ticking e b) test = false
of_post (closing b) test = false

abbrev pub of_response : Request → (ℕ → ℕ → ℕ → Bool) → Bool
of_response (opening st a) test = false
of_response (posting m) test = false
of_response (emitting n b) test = false
of_response (acknowledging r y b) test = false
of_response (responding r o l b) test = test r o l
of_response (ticking e b) test = false
of_response (closing b) test = false

-- ---- the conditions

-- 2: "opening a pair not closed; any other call on a closed pair; any but close on an ended pair"
abbrev pub wrong_state : Request → ℕ → Bool
wrong_state (opening st a) state = not (eqb state closed)
wrong_state (posting m) state = not (eqb state ready)
wrong_state (emitting n b) state = not (eqb state ready)
wrong_state (acknowledging r y b) state = not (eqb state ready)
wrong_state (responding r o l b) state = not (eqb state ready)
wrong_state (ticking e b) state = not (eqb state ready)
wrong_state (closing b) state = eqb state closed

-- 3: "an argument out of its range"
abbrev pub out_of_range : Card → Request → Bool
out_of_range card (opening st a) = bad_settings card st || bad_psn a
out_of_range card (posting m) = bad_post m
out_of_range card (emitting n b) = bad_budget n
out_of_range card (acknowledging r y b) = bad_psn r || bad_syndrome y
out_of_range card (responding r o l b) = bad_psn r || bad_response o
out_of_range card (ticking e b) = bad_elapsed e
out_of_range card (closing b) = false

-- 6: "a fenced post while the pair holds a read"
abbrev pub any_read : List Packet → Bool
any_read ps = ltb (ahead is_read ps) (length ps)

-- 8: "post or open: the audit's last sum would exceed 256"
abbrev pub no_room_to_open : Card → ℕ → Settings → List Side → Bool
no_room_to_open card p st a = exceeds card.slots (claims a) p (record { share = st.share; held = 0 })

-- 8: "post: held + new slots exceeds the ceiling", or that
abbrev pub no_room : Card → ℕ → Post → List Side → Bool
no_room card p m a =
    let s = side_at a p in
    let st = s.standing.settings in
    lacks_room card.slots st.ceiling (claims a) p (record { share = st.share; held = length s.packets + slots_for st m })

-- "then 1 to 9": of a request to pair p, where the pairs stand as a says
abbrev pub refusals : Card → Request → ℕ → List Side → List Row
refusals card q p a =
    let s = side_at a p in
    let st = s.standing.settings in
    leb card.pairs p gives refusal.Pair
    ∷ wrong_state q s.standing.state gives refusal.State
    ∷ out_of_range card q gives refusal.Range
    ∷ ltb (length (lent q)) (needed card q) gives refusal.Buffer
    ∷ of_post q (λ m. over_ceiling st m) gives refusal.Ceiling
    ∷ of_post q (λ m. m.fenced && any_read s.packets) gives refusal.Fence
    ∷ of_post q (λ m. ltb half (distance (U s) (N s) + psns_for st m)) gives refusal.Distance
    ∷ (of_opening q (λ new. no_room_to_open card p new a) || of_post q (λ m. no_room card p m a)) gives refusal.Room
    ∷ of_response q (λ r opcode len. inside r s && unfit r opcode len s) gives refusal.Response
    ∷ []
