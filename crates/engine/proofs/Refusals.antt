-- The refusals by value are the rules' one list, in its order.
use Rattle.std.specs.Option.{unwrap_or}
use Rattle.std.specs.Prelude.{Option, None, Some, is_some, if◌then◌else◌}
use mathlib.Core.Path.{◌≡◌, refl, sym, ap, ◌∙◌}
use mathlib.Core.Bool.{Bool, true, false, not, ◌&&◌, ◌||◌}
use mathlib.Core.List.{List, [], ◌∷◌}
use Prim.Native.Nat.{ℕ, ◌+◌, max}
use native.Mathlib.Omega.{arith}
use lib.Dec.{ltb, leb, eqb}
use borrow.Author.Tests.{ltb-true, ltb-false, lt-ltb, le-ltb, eq-eqb, ne_eqb, eqb-true, leb-false, not-false}
use lib.ListN.{length, get_or, set, drop, length-map}
use Rattle.psn.specs.Psn.{half, distance}
use Rattle.refusal.specs.declared.Refusal.TheVariants as refusal
use Rattle.refusal.specs.Refusals.{Row, ◌gives◌, first_given}
use Rattle.refusal.proofs.Cases.{by-test}
use Rattle.rules.specs.declared.Packet.{Packet}
use Rattle.rules.specs.declared.Pair.{Pair}
use Rattle.rules.specs.declared.Post.{Post}
use Rattle.rules.specs.declared.Settings.{Settings}
use Rattle.rules.specs.declared.Standing.{Standing}
use Rattle.rules.specs.Account.{Side, ahead, no_side, no_packet}
use Rattle.rules.specs.Card.{small}
use Rattle.rules.specs.Message.{is_read, slots_for, psns_for}
use Rattle.rules.specs.Pool.{Claim, claimed, claim_of, claims}
use Rattle.rules.specs.Ranges.{bad_settings, bad_psn, bad_post, bad_response, over_ceiling}
use Rattle.rules.specs.Acknowledge.{inside}
use Rattle.rules.specs.Response.{covers, unfit, misfit}
use Rattle.rules.specs.Refusals.{side_at, wrong_state, any_read, no_room_to_open, no_room, refusals}
use Rattle.rules.specs.Slots.{Tables, pair_at, side, side_of, sides, spelled}
use Rattle.rules.specs.Passes.Tables.{passes}
use Rattle.rules.proofs.Calls.Accepted.{is-ready}
use Rattle.rules.proofs.Calls.Moves.{side-at, well-of}
use Rattle.rules.proofs.Calls.Well.{Well, claim-at}
use Rattle.rules.proofs.Passes.Decided.{sound}
use Rattle.rules.proofs.Pool.{claimed-set}
use Rattle.rules.proofs.Sides.Fits.{held-is}
use Rattle.rules.proofs.Sides.Good.{Good, claim-open}
use Rattle.rules.proofs.Sides.Order.{ahead-most}
use Rattle.message.specs.Capped.{tidy}
use Rattle.message.proofs.Cuts.{tidy-same}
use Rattle.engine.specs.declared.Ask.{Ask}
use Rattle.engine.specs.declared.Ask.TheVariants as ask
use Rattle.engine.specs.declared.Seek.{Seek}
use Rattle.engine.specs.declared.Seek.TheVariants.{Read, Covering}
use Rattle.outcomes.specs.declared.Found.{Found}
use Rattle.engine.specs.declared.Scan.{Scan}
use Rattle.engine.specs.Asked.{asked, lent_of}
use Rattle.outcomes.specs.Finding.{found_in}
use Rattle.outcomes.specs.Deciding.{bare}
use Rattle.engine.specs.Scanning.{sought, seek_if, main_seek, read_seek}
use Rattle.engine.proofs.Tests.{never-short}
use Rattle.engine.specs.Refusing.{crowded_by, crowded, misfit_of, unfit_by, refusal_rows, refusal_of}

-- ---- what was found, as tests

some-if : (b : Bool) (f : Found) → is_some (if b then Some f else None) ≡ b
some-if true f = refl
some-if false f = refl

pub found_some : (test : Packet → Bool) (l : List ℕ) (ps : List Packet) → is_some (found_in test l ps) ≡ ltb (ahead test ps) (length ps)
found_some test l ps = some-if (ltb (ahead test ps) (length ps)) _

-- what was not found does not fit
pub found_unfit : (s : Settings) (r o n : ℕ) (test : Packet → Bool) (l : List ℕ) (ps : List Packet)
    → misfit_of s (found_in test l ps) r o n ≡ eqb (ahead test ps) (length ps) || misfit s r o n (get_or ps (ahead test ps) no_packet)
found_unfit s r o n test l ps =
    by-test (ltb (ahead test ps) (length ps))
    (λ e. rw (e, ne_eqb (ahead test ps) (length ps) (λ z. omega (arith, z, ltb-true (ahead test ps) (length ps) e))))
    (λ e. rw (e, eq-eqb (ahead test ps) (length ps) (omega (arith, ltb-false (ahead test ps) (length ps) e, ahead-most test ps))))

-- one claim more, and one less on both sides
over-same : (total sum old now new : ℕ) → now + old ≡ sum + new → ltb (total + old) (sum + new) ≡ ltb total now
over-same total sum old now new e =
    by-test (ltb total now)
    (λ h. lt-ltb (total + old) (sum + new) (omega (arith, ltb-true total now h)) ∙ sym h)
    (λ h. le-ltb (total + old) (sum + new) (omega (arith, ltb-false total now h)) ∙ sym h)

-- the first three rows: where none of them holds, the rest decide
past_three : (a b c : Bool) (rest rest' : List Row) → (a ≡ false → b ≡ false → c ≡ false → rest ≡ rest')
    → first_given (a gives refusal.Audit ∷ b gives refusal.Pair ∷ c gives refusal.State ∷ rest) ≡ first_given (a gives refusal.Audit ∷ b gives refusal.Pair ∷ c gives refusal.State ∷ rest')
past_three true b c rest rest' h = refl
past_three false true c rest rest' h = refl
past_three false false true rest rest' h = refl
past_three false false false rest rest' h = ap first_given (h refl refl refl)

module _ (t : Tables) (at : ℕ) (v : Option ℕ) (ok-is : is_some v ≡ passes small t) (claimed-by : is_some v ≡ true → v ≡ Some (claimed (claims (sides t)))) where
  abbrev pub pr : Pair
  pr = pair_at t.pairs at

  abbrev sum : ℕ
  sum = unwrap_or v 0

  sum-is : is_some v ≡ true → sum ≡ claimed (claims (sides t))
  sum-is e = ap (λ (o : Option ℕ). unwrap_or o 0) (claimed-by e)

  s : Side
  s = side_at (sides t) at

  standing-is : pr.standing ≡ s.standing
  unfolding s side side_of
  standing-is = ap (λ (x : Side). x.standing) (sym (side-at t at))

  packets-are : (side_of t.slots pr).packets ≡ s.packets
  unfolding s side
  packets-are = ap (λ (x : Side). x.packets) (sym (side-at t at))

  held_by : pr.queue.held ≡ length s.packets
  unfolding s
  held_by = sym (held-is t at) ∙ ap (λ (x : Side). length x.packets) (sym (side-at t at))

  well : not (is_some v) ≡ false → Well small (sides t)
  well e = well-of small t (sound small t (sym ok-is ∙ not-false (is_some v) e))

  good : not (is_some v) ≡ false → leb 64 at ≡ false → Good small s
  unfolding s
  good e low = (well e).good at (leb-false 64 at low)

  ready-same : not (is_some v) ≡ false → leb 64 at ≡ false → s.standing.state ≡ 1 → tidy pr.standing ≡ s.standing
  ready-same e low ready = ap tidy standing-is ∙ tidy-same s.standing ((good e low).bounded (omega (arith, ready))).settings

  -- the sum with another claim in the place of the pair's
  sum-set : not (is_some v) ≡ false → leb 64 at ≡ false → (c : Claim)
      → claimed (set (claims (sides t)) at c) + max (claim_of s).share (claim_of s).held ≡ sum + max c.share c.held
  unfolding s
  sum-set e low c =
      rw (← claim-at (sides t) at, sum-is (not-false (is_some v) e))
      (claimed-set (claims (sides t)) at c (claim_of no_side) (omega (arith, length-map (sides t) claim_of, (well e).count, leb-false 64 at low)))

  room_open : not (is_some v) ≡ false → leb 64 at ≡ false → s.standing.state ≡ 0 → (st : Settings)
      → crowded_by sum st.share ≡ no_room_to_open small at st (sides t)
  room_open e low closed st = ap (ltb 256) one
    where
      one : sum + st.share ≡ claimed (set (claims (sides t)) at (record { share = st.share; held = 0 }))
      one = omega (arith, rw (eq-eqb s.standing.state 0 closed) at sum-set e low (record { share = st.share; held = 0 }))

  room-post : not (is_some v) ≡ false → leb 64 at ≡ false → s.standing.state ≡ 1 → (m : Post)
      → crowded sum s.standing.settings pr.queue.held (slots_for s.standing.settings m) ≡ no_room small at m (sides t)
  unfolding s
  room-post e low ready m =
      rw held_by
      (ap (λ (b : Bool). ltb s.standing.settings.ceiling (length s.packets + slots_for s.standing.settings m) || b)
      (over-same 256 sum (max s.standing.settings.share (length s.packets)) _ _ now))
    where
      now : claimed (set (claims (sides t)) at (record { share = s.standing.settings.share; held = length s.packets + slots_for s.standing.settings m }))
          + max s.standing.settings.share (length s.packets)
          ≡ sum + max s.standing.settings.share (length s.packets + slots_for s.standing.settings m)
      now = rw (claim-open s (omega (arith, ready))) at sum-set e low (record { share = s.standing.settings.share; held = length s.packets + slots_for s.standing.settings m })

  -- the first three rows are the rules'; where none of them holds, the rest decide
  heads : (w w' : Bool) (rest rest' : List Row) → w ≡ w' → (not (is_some v) ≡ false → leb 64 at ≡ false → w' ≡ false → rest ≡ rest')
      → first_given (not (is_some v) gives refusal.Audit ∷ leb 64 at gives refusal.Pair ∷ w gives refusal.State ∷ rest)
      ≡ first_given (not (passes small t) gives refusal.Audit ∷ leb 64 at gives refusal.Pair ∷ w' gives refusal.State ∷ rest')
  heads w w' rest rest' e h =
      past_three (not (is_some v)) (leb 64 at) w rest rest' (λ a b c. h a b (sym e ∙ c))
      ∙ (λ i. first_given (not (ok-is i) gives refusal.Audit ∷ leb 64 at gives refusal.Pair ∷ e i gives refusal.State ∷ rest'))

  state-is : pr.standing.state ≡ s.standing.state
  state-is = ap (λ (x : Standing). x.state) standing-is

  -- what was found is the pair's
  abbrev pub FoundBy : Option Seek → Option Found → Type 0
  FoundBy seek f = is_some v ≡ true → f ≡ found_in (sought (tidy pr.standing) seek) (spelled t.slots pr.queue) (side_of t.slots pr).packets

  -- a fence asks whether the pair holds a read
  fence-is : not (is_some v) ≡ false → (m : Post) (f : Option Found) → FoundBy (seek_if m.fenced Read) f → (m.fenced && is_some f) ≡ (m.fenced && any_read s.packets)
  fence-is e m f h =
      by-test m.fenced
      (λ fenced.
      let found : f ≡ found_in is_read (spelled t.slots pr.queue) (side_of t.slots pr).packets = rw fenced at (h (not-false (is_some v) e)) in
      rw fenced
      (ap is_some found
      ∙ found_some is_read (spelled t.slots pr.queue) (side_of t.slots pr).packets
      ∙ ap any_read packets-are))
      (λ no. rw no)

  inside_is : (r : ℕ) → inside r (bare pr.standing) ≡ inside r s
  inside_is r = ap (λ (u : Standing). inside r (bare u)) standing-is

  unfit-is : not (is_some v) ≡ false → leb 64 at ≡ false → s.standing.state ≡ 1 → (r o n : ℕ) (f : Option Found) → FoundBy (seek_if (inside r (bare pr.standing)) (Covering r)) f
      → unfit_by (tidy pr.standing) f r o n ≡ inside r s && unfit r o n s
  unfit-is e low ready r o n f h =
      by-test (inside r (bare pr.standing))
      (λ yes.
      let found : f ≡ found_in (covers (tidy pr.standing).settings r) (spelled t.slots pr.queue) (side_of t.slots pr).packets = rw yes at (h (not-false (is_some v) e)) in
      (λ i. unfit_by (here i) (found i) r o n)
      ∙ (λ i. unfit_by s.standing (found_in (covers (here i).settings r) (spelled t.slots pr.queue) (packets-are i)) r o n)
      ∙ ap (λ (b : Bool). inside r s && b) (found_unfit s.standing.settings r o n (covers s.standing.settings r) (spelled t.slots pr.queue) s.packets))
      (λ no. rw (no, sym (inside_is r) ∙ no))
    where
      here : tidy pr.standing ≡ s.standing
      here = ready-same e low ready

  -- the rows after the first three
  by-rest : (q : Ask) (c : Scan) (done out : List ℕ)
      → wrong_state (asked q []) pr.standing.state ≡ wrong_state (asked q (lent_of q done out)) s.standing.state
      → (not (is_some v) ≡ false → leb 64 at ≡ false → wrong_state (asked q (lent_of q done out)) s.standing.state ≡ false
      → drop 3 (refusal_rows v at pr c q (lent_of q (length done) (length out))) ≡ drop 2 (refusals small (asked q (lent_of q done out)) at (sides t)))
      → refusal_of v at pr c q (lent_of q (length done) (length out))
      ≡ first_given (not (passes small t) gives refusal.Audit ∷ refusals small (asked q (lent_of q done out)) at (sides t))
  unfolding refusal_of s
  by-rest q c done out e h =
      heads (wrong_state (asked q []) pr.standing.state) (wrong_state (asked q (lent_of q done out)) s.standing.state)
      (drop 3 (refusal_rows v at pr c q (lent_of q (length done) (length out))))
      (drop 2 (refusals small (asked q (lent_of q done out)) at (sides t))) e h

  pub refusal_is : (q : Ask) (c : Scan) → FoundBy (main_seek pr.standing q) c.main.found → FoundBy (read_seek pr.standing q) c.read.found → (done out : List ℕ)
      → refusal_of v at pr c q (lent_of q (length done) (length out))
      ≡ first_given (not (passes small t) gives refusal.Audit ∷ refusals small (asked q (lent_of q done out)) at (sides t))
  unfolding s
  refusal_is (ask.Open st first) c m r done out =
      by-rest (ask.Open st first) c done out (ap (λ (n : ℕ). not (eqb n 0)) state-is) (λ a b w.
      λ i.
      (bad_settings small st || bad_psn first) gives refusal.Range ∷ never-short (length done) i gives refusal.Buffer ∷ false gives refusal.Ceiling ∷ false gives refusal.Fence ∷ false gives refusal.Distance
      ∷ (room_open a b (eqb-true s.standing.state 0 (not-false (eqb s.standing.state 0) w)) st i || false) gives refusal.Room ∷ false gives refusal.Response ∷ [])
  refusal_is (ask.Post m) c f r done out =
      by-rest (ask.Post m) c done out (ap (λ (n : ℕ). not (eqb n 1)) state-is) (λ a b w.
      let here = ready-same a b (is-ready w) in
      (λ i.
      bad_post m gives refusal.Range ∷ never-short (length done) i gives refusal.Buffer ∷ over_ceiling (here i).settings m gives refusal.Ceiling
      ∷ fence-is a m c.main.found f i gives refusal.Fence
      ∷ ltb half (distance (here i).line.u (here i).line.n + psns_for (here i).settings m) gives refusal.Distance
      ∷ crowded sum (here i).settings pr.queue.held (slots_for (here i).settings m) gives refusal.Room ∷ false gives refusal.Response ∷ [])
      ∙ (λ i.
      bad_post m gives refusal.Range ∷ ltb 0 0 gives refusal.Buffer ∷ over_ceiling s.standing.settings m gives refusal.Ceiling
      ∷ (m.fenced && any_read s.packets) gives refusal.Fence
      ∷ ltb half (distance s.standing.line.u s.standing.line.n + psns_for s.standing.settings m) gives refusal.Distance
      ∷ room-post a b (is-ready w) m i gives refusal.Room ∷ false gives refusal.Response ∷ []))
  refusal_is (ask.Emit budget) c m r done out = by-rest (ask.Emit budget) c done out (ap (λ (n : ℕ). not (eqb n 1)) state-is) (λ a b w. refl)
  refusal_is (ask.Acknowledge psn syndrome) c m r done out =
      by-rest (ask.Acknowledge psn syndrome) c done out (ap (λ (n : ℕ). not (eqb n 1)) state-is) (λ a b w. refl)
  refusal_is (ask.Respond psn opcode len) c m r done out =
      by-rest (ask.Respond psn opcode len) c done out (ap (λ (n : ℕ). not (eqb n 1)) state-is) (λ a b w.
      λ i.
      (bad_psn psn || bad_response opcode) gives refusal.Range ∷ ltb (length done) 512 gives refusal.Buffer ∷ false gives refusal.Ceiling ∷ false gives refusal.Fence ∷ false gives refusal.Distance ∷ false gives refusal.Room
      ∷ unfit-is a b (is-ready w) psn opcode len c.read.found r i gives refusal.Response ∷ [])
  refusal_is (ask.Tick elapsed) c m r done out = by-rest (ask.Tick elapsed) c done out (ap (λ (n : ℕ). not (eqb n 1)) state-is) (λ a b w. refl)
  refusal_is ask.Close c m r done out = by-rest ask.Close c done out (ap (λ (n : ℕ). eqb n 0) state-is) (λ a b w. refl)
