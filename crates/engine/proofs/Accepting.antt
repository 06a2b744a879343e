-- The plan of a request that is not refused does what the rules' effect says.
use Rattle.std.specs.Prelude.{Option, None, Some, is_some, Ok, if◌then◌else◌}
use mathlib.Core.Path.{◌≡◌, refl, sym, ap, ◌∙◌}
use mathlib.Core.Bool.{Bool, true, false, not, ◌&&◌}
use mathlib.Core.List.{List}
use Prim.Native.Nat.{ℕ, ◌+◌, ◌*◌, ◌%◌, ◌^◌, ◌≤◌, ◌<◌, min}
use native.Mathlib.Omega.{arith}
use native.Mathlib.Nat.{mod-eq_of_lt, min-eq_left}
use lib.Dec.{ltb, eqb}
use borrow.Author.Tests.{ltb-true, ltb-false, lt-ltb, leb-false, eqb-false}
use lib.ListN.{length, get_or, drop, length-drop, length-map, get_or-eq_default}
use Rattle.psn.specs.Psn.{psns, before}
use Rattle.refusal.proofs.Cases.{by-test, not-both, or_left, and_left, and_right}
use Rattle.refusal.proofs.Each.{each_at}
use Rattle.rules.specs.declared.Answer.{Answer}
use Rattle.rules.specs.declared.Answer.TheVariants.{Dropped, Done, Resending, Held, Resumed, Idle, Ended}
use Rattle.rules.specs.declared.Outcome.{Outcome}
use Rattle.rules.specs.declared.Packet.{Packet}
use Rattle.rules.specs.declared.Pair.{Pair}
use Rattle.rules.specs.declared.Post.{Post}
use Rattle.rules.specs.declared.Standing.{Standing}
use Rattle.rules.specs.declared.Reply.TheVariants as reply
use Rattle.rules.specs.Account.{Side, U, X, N, ahead, no_packet}
use Rattle.rules.specs.Audit.{Audit}
use Rattle.rules.specs.Card.{small}
use Rattle.rules.specs.Calls.{Effect, effect, place_if, overlaid, tables_after}
use Rattle.rules.specs.Emission.{ends, going, outgoing, ends_at, emitted, emissions, record_bytes}
use Rattle.rules.specs.Message.{slots_for, span, packets_of, is_read}
use Rattle.rules.specs.Outcome.{staying, opened, closing_all, departures, completions, messages_of}
use Rattle.rules.specs.Posting.{raised, posted}
use Rattle.rules.specs.Acknowledge.{inside, acknowledge}
use Rattle.rules.specs.Response.{covers, read_at, place_of, places_before, unfit, response}
use Rattle.rules.specs.Timer.{timed, timer}
use Rattle.rules.specs.Requests.{posting, emitting, responding}
use Rattle.rules.specs.Refusals.{side_at}
use Rattle.rules.specs.Slots.{Tables, slot_at, pair_at, queue, free, spelled, side, side_of, sides, freed}
use Rattle.rules.specs.WholeMessages.{Allowed}
use Rattle.rules.proofs.Calls.Accepted.{Accepted, is-ready}
use Rattle.rules.proofs.Calls.Buffers.{going-most}
use Rattle.rules.proofs.Calls.Emits.{going-waits}
use Rattle.rules.proofs.Calls.Moves.{side-at, well-of, post-fits}
use Rattle.rules.proofs.Sides.After.{leaving}
use Rattle.rules.proofs.Sides.Counts.{ack-most, timed-few}
use Rattle.rules.proofs.Sides.Fits.{Fits, held-is, held-fit, place-fits}
use Rattle.rules.proofs.Sides.Good.{Good, length-packets}
use Rattle.rules.proofs.Sides.Order.{ahead-most}
use Rattle.rules.proofs.Sides.Response.{response-most}
use Rattle.message.specs.Capped.{tidy}
use Rattle.message.proofs.Cuts.{tidy-same}
use Rattle.engine.specs.declared.Ask.{Ask}
use Rattle.engine.specs.declared.Ask.TheVariants as ask
use Rattle.outcomes.specs.declared.Found.{Found}
use Rattle.engine.specs.declared.Scan.{Scan}
use Rattle.engine.specs.declared.Seek.{Seek}
use Rattle.engine.specs.declared.Seek.TheVariants.{Waiting, Staying, Covering}
use Rattle.engine.specs.declared.Told.TheVariants.{First, Count}
use Rattle.engine.specs.Asked.{asked, lent_of, numbers_after, bytes_after}
use Rattle.outcomes.specs.Finding.{found_in, left_of, slot_of}
use Rattle.engine.specs.Scanning.{sought, main_seek, read_seek}
use Rattle.outcomes.specs.Deciding.{bare, held_at_most, acknowledged, responded_to}
use Rattle.outcomes.specs.Finding.{bound_of}
use Rattle.walks.specs.Begun.{to_free, to_pair, no_post, outward}
use Rattle.engine.specs.Planning.{planned, leaving_plan, post_plan, emit_plan, respond_plan, going_of, accepted_plan}
use Rattle.engine.specs.Body.{Ran, acted}
use Rattle.outcomes.proofs.Decided.{holds, acknowledge-is, response-is}
use Rattle.walks.proofs.Emitted.{emitted-is}
use Rattle.walks.proofs.Left.{held-most}
use Rattle.engine.proofs.Refusals.{found_some}
use Rattle.engine.proofs.Plans.{none-leaves, slots-leave, packets-join, packets-go}

-- a place fits its number
place_kept : (a : Answer) (n : ℕ) → n < 2 ^ 32 → place_if a n % 2 ^ 32 ≡ place_if a n
place_kept Done n h = mod-eq_of_lt h
place_kept Dropped n h = refl
place_kept Resending n h = refl
place_kept Held n h = refl
place_kept Resumed n h = refl
place_kept Idle n h = refl
place_kept Ended n h = refl

-- as many go as the rules say, by what a scan has found
left-found : (test : Packet → Bool) (l : List ℕ) (ps : List Packet) → left_of (found_in test l ps) ≡ length (drop (ahead test ps) ps)
left-found test l ps =
    by-test (ltb (ahead test ps) (length ps))
    (λ e. rw e (sym (length-drop (ahead test ps) ps)))
    (λ e. rw e (omega (arith, ltb-false (ahead test ps) (length ps) e, length-drop (ahead test ps) ps)))

slot-found : (test : Packet → Bool) (l : List ℕ) (ps : List Packet) → length l ≡ length ps
    → slot_of (found_in test l ps) ≡ get_or l (ahead test ps) small.none
slot-found test l ps many =
    by-test (ltb (ahead test ps) (length ps))
    (λ e. rw e)
    (λ e. rw e (sym (get_or-eq_default l small.none (omega (arith, many, ltb-false (ahead test ps) (length ps) e)))))

abbrev packet_of : Option Found → Packet
packet_of None = no_packet
packet_of (Some f) = f.packet

packet-found : (test : Packet → Bool) (l : List ℕ) (ps : List Packet) (f : Found) → Some f ≡ found_in test l ps → f.packet ≡ get_or ps (ahead test ps) no_packet
packet-found test l ps f h =
    ap packet_of h
    ∙ by-test (ltb (ahead test ps) (length ps))
    (λ e. rw e)
    (λ e. rw e (sym (get_or-eq_default ps no_packet (ltb-false (ahead test ps) (length ps) e))))

going-found : (budget : ℕ) (s : Side) (l : List ℕ)
    → going_of budget s.standing (found_in (λ p. before (U s) (X s) (ends s.standing.settings p)) l s.packets) ≡ going budget s
going-found budget s l =
    ap (λ (n : ℕ). if ltb 0 s.standing.clock.hold then 0 else min budget n)
    (left-found (λ p. before (U s) (X s) (ends s.standing.settings p)) l s.packets)

-- what is asked for, done: with this effect
abbrev pub done_with : ℕ → Ask → Tables → List ℕ → List ℕ → Effect → Ran
done_with at q t done out e =
    record {
      reply = Ok e.reply;
      tables = tables_after small.none at e.standing e.move t;
      numbers = numbers_after q e.buffer done;
      bytes = bytes_after q e.buffer out;
    }

module _ (at : ℕ) (t : Tables) (done out : List ℕ) (a : Audit small t) where
  abbrev pr : Pair
  pr = pair_at t.pairs at

  abbrev s : Side
  s = side t at

  -- what a search has found is the pair's
  abbrev pub FoundIn : Option Seek → Option Found → Type 0
  FoundIn k f = f ≡ found_in (sought (tidy pr.standing) k) (spelled t.slots pr.queue) (side_of t.slots pr).packets

  module _ (low : at < small.pairs) where
    good : Good small s
    good = rw (← side-at t at) ((well-of small t a).good at low)

    held_same : held_at_most pr ≡ length s.packets
    held_same = min-eq_left (held-most t a.whole at low) ∙ sym (held-is t at)

    here : s.standing.state ≡ 1 → tidy pr.standing ≡ s.standing
    unfolding side side_of
    here ready = tidy-same s.standing (good.bounded (omega (arith, ready))).settings

    -- what was found, in terms of the pair's side
    found-is : s.standing.state ≡ 1 → (k : Seek) (f : Option Found) → FoundIn (Some k) f → f ≡ found_in (sought s.standing (Some k)) (queue t at) s.packets
    unfolding side
    found-is ready k f e = e ∙ ap (λ (u : Standing). found_in (sought u (Some k)) (queue t at) s.packets) (here ready)

    -- the read that was found is the one that has R
    read_found : s.standing.state ≡ 1 → (r : ℕ) (g : Found) → FoundIn (Some (Covering r)) (Some g) → g.packet ≡ read_at r s
    read_found ready r g d = packet-found (covers s.standing.settings r) (queue t at) s.packets g (found-is ready (Covering r) (Some g) d)

    acknowledged-is : s.standing.state ≡ 1 → (r y : ℕ) (f : Option Found) → FoundIn (main_seek pr.standing (ask.Acknowledge r y)) f
        → acknowledged r y (held_at_most pr) f (tidy pr.standing) ≡ acknowledge r y s
    unfolding side side_of acknowledge
    acknowledged-is ready r y f e =
        by-test (inside r (bare pr.standing))
        (λ yes.
        let found : FoundIn (Some (Staying (bound_of r y))) f = rw yes at e in
        (λ i. acknowledged r y (held_same i) (found-is ready (Staying (bound_of r y)) f found i) (here ready i))
        ∙ acknowledge-is s (good.ordered ready) (queue t at) r y)
        (λ no. rw no (ap (staying Dropped) (here ready)))

    responded-is : s.standing.state ≡ 1 → (r o n : ℕ) (f : Option Found) (g : Found) → FoundIn (main_seek pr.standing (ask.Respond r o n)) f
        → FoundIn (read_seek pr.standing (ask.Respond r o n)) (Some g)
        → responded_to r (held_at_most pr) f g.packet (tidy pr.standing) ≡ response r s
    unfolding side side_of response
    responded-is ready r o n f g e d =
        by-test (inside r (bare pr.standing))
        (λ yes.
        let first : FoundIn (Some (Staying r)) f = rw yes at e in
        let read : FoundIn (Some (Covering r)) (Some g) = rw yes at d in
        (λ i. responded_to r (held_same i) (found-is ready (Staying r) f first i) (read_found ready r g read i) (here ready i))
        ∙ response-is s (good.ordered ready) (queue t at) r)
        (λ no. rw no (ap (staying Dropped) (here ready)))

    -- the place that a response answers; one that is dropped has none
    place_same : s.standing.state ≡ 1 → (r o n : ℕ) (f : Option Found) (g : Found) → FoundIn (main_seek pr.standing (ask.Respond r o n)) f
        → FoundIn (read_seek pr.standing (ask.Respond r o n)) (Some g)
        → place_if (responded_to r (held_at_most pr) f g.packet (tidy pr.standing)).answer (place_of (tidy pr.standing).settings r g.packet)
        ≡ place_if (response r s).answer (place_of s.standing.settings r (read_at r s))
    unfolding side side_of
    place_same ready r o n f g e d =
        by-test (inside r (bare pr.standing))
        (λ yes.
        let read : FoundIn (Some (Covering r)) (Some g) = rw yes at d in
        λ i. place_if (responded-is ready r o n f g e d i).answer (place_of (here ready i).settings r (read_found ready r g read i)))
        (λ shut.
        ap (λ (x : Answer). place_if x (place_of (tidy pr.standing).settings r g.packet)) (drops shut)
        ∙ sym (ap (λ (x : Answer). place_if x (place_of s.standing.settings r (read_at r s))) (sym (ap (λ (x : Outcome). x.answer) (responded-is ready r o n f g e d)) ∙ drops shut)))
      where
        drops : inside r (bare pr.standing) ≡ false → (responded_to r (held_at_most pr) f g.packet (tidy pr.standing)).answer ≡ Dropped
        drops shut = rw shut

    ticked-is : s.standing.state ≡ 1 → (e : ℕ) → timed e (held_at_most pr) (tidy pr.standing) ≡ timer e s
    unfolding timer
    ticked-is ready e = λ i. timed e (held_same i) (here ready i)

    tick-few : (e : ℕ) → leaving (timer e s) ≤ length s.packets
    unfolding timer
    tick-few e = timed-few e (length s.packets) s.standing

    -- a response that fits has its read
    covered : (r o n : ℕ) → inside r s && unfit r o n s ≡ false → inside r s ≡ true → ahead (covers s.standing.settings r) s.packets < length s.packets
    covered r o n fits h =
        let u : unfit r o n s ≡ false = rw h at fits in
        omega (arith, eqb-false (ahead (covers s.standing.settings r) s.packets) (length s.packets) (or_left _ _ u), ahead-most (covers s.standing.settings r) s.packets)

    place-low : (r : ℕ) → ahead (covers s.standing.settings r) s.packets < length s.packets → place_of s.standing.settings r (read_at r s) < 2 ^ 32
    place-low r one =
        let c = holds (covers s.standing.settings r) s.packets one in
        (place-fits s.standing.settings (read_at r s) (each_at Fits s.packets _ no_packet (held-fit s.standing.settings good.messages) one) (and_left _ _ c)
        (places_before r (read_at r s)) (ltb-true (places_before r (read_at r s)) (span s.standing.settings (read_at r s)) (and_right (is_read (read_at r s)) _ c))).0

    place_is : (r o n : ℕ) → inside r s && unfit r o n s ≡ false
        → place_if (response r s).answer (place_of s.standing.settings r (read_at r s)) % 2 ^ 32 ≡ place_if (response r s).answer (place_of s.standing.settings r (read_at r s))
    unfolding response
    place_is r o n fits =
        by-test (inside r s)
        (λ h. place_kept (response r s).answer (place_of s.standing.settings r (read_at r s)) (place-low r (covered r o n fits h)))
        (λ h. rw h)

    ready_of : not (eqb (side_at (sides t) at).standing.state 1) ≡ false → s.standing.state ≡ 1
    ready_of e = is-ready (rw (side-at t at) at e)

    allowed : (m : Post) → Accepted small (posting m) at (sides t) → Allowed s.standing.settings m
    allowed m h = record { in-range = h.range; in-ceiling = rw (side-at t at) at h.ceiling }

    post-room : (m : Post) → Accepted small (posting m) at (sides t) → slots_for s.standing.settings m ≤ length (free t)
    post-room m h =
        let fits : length (packets_of s.standing.settings m (N s)) ≤ length (free t) = rw (side-at t at) at (post-fits small t a at low m h) in
        omega (arith, fits, length-packets s.standing.settings m (N s))

    post_is : (m : Post) → Accepted small (posting m) at (sides t)
        → acted at t done out (post_plan pr t.ends m) ≡ done_with at (ask.Post m) t done out (effect (posting m) s)
    unfolding side side_of posted
    post_is m h =
        let ready = ready_of h.state in
        ap (λ (u : Standing). acted at t done out (planned (Ok (First u.line.n)) (raised m u) (to_free pr t.ends 0 0) (to_pair pr t.ends (slots_for u.settings m) m) (outward pr 0 0)))
        (here ready)
        ∙ packets-join at t done out a.whole low m (N s) (raised m s.standing) (allowed m h) (good.bounded (omega (arith, ready))).settings (post-room m h)

    -- where none has R, a response that fits is dropped
    unread : s.standing.state ≡ 1 → (r o n : ℕ) → FoundIn (read_seek pr.standing (ask.Respond r o n)) None → inside r s && unfit r o n s ≡ false
        → response r s ≡ staying Dropped (tidy pr.standing)
    unfolding side side_of response
    unread ready r o n d fits =
        by-test (inside r (bare pr.standing))
        (λ yes.
        let none : FoundIn (Some (Covering r)) None = rw yes at d in
        not-both _ (lt-ltb _ _ (covered r o n fits yes))
        (sym (found_some (covers s.standing.settings r) (queue t at) s.packets) ∙ ap is_some (sym (found-is ready (Covering r) None none))))
        (λ no. rw no (ap (staying Dropped) (sym (here ready))))

    -- what a response that fits comes to
    respond_same : s.standing.state ≡ 1 → (r o n : ℕ) (f g : Option Found) → FoundIn (main_seek pr.standing (ask.Respond r o n)) f
        → FoundIn (read_seek pr.standing (ask.Respond r o n)) g → inside r s && unfit r o n s ≡ false
        → respond_plan pr t.ends r f g ≡ leaving_plan pr t.ends (response r s) (place_if (response r s).answer (place_of s.standing.settings r (read_at r s)))
    respond_same ready r o n f None e d fits =
        sym (λ i. leaving_plan pr t.ends (unread ready r o n d fits i) (place_if (unread ready r o n d fits i).answer (place_of s.standing.settings r (read_at r s))))
    respond_same ready r o n f (Some g) e d fits = λ i. leaving_plan pr t.ends (responded-is ready r o n f g e d i) (place_same ready r o n f g e d i)

    respond-is : (r o n : ℕ) (f g : Option Found) → FoundIn (main_seek pr.standing (ask.Respond r o n)) f → FoundIn (read_seek pr.standing (ask.Respond r o n)) g
        → Accepted small (responding r o n done) at (sides t)
        → acted at t done out (respond_plan pr t.ends r f g) ≡ done_with at (ask.Respond r o n) t done out (effect (responding r o n done) s)
    respond-is r o n f g e d h =
        let ready = ready_of h.state in
        let fits : inside r s && unfit r o n s ≡ false = rw (side-at t at) at h.fits in
        ap (acted at t done out) (respond_same ready r o n f g e d fits)
        ∙ slots-leave at t done out a.whole low (response r s) (place_if (response r s).answer (place_of s.standing.settings r (read_at r s)))
        (omega (arith, response-most s ready (good.ordered ready) r (leb-false psns r (or_left _ _ h.range)) (covered r o n fits), held-is t at))
        (ltb-false (length done) 512 h.buffer)
        ∙ (λ i. record {
          reply = Ok (reply.Answered (response r s).answer (messages_of (departures (response r s).released (response r s).flushed s.packets)) (place_is r o n fits i));
          tables = freed small.none at (response r s).standing ((response r s).released + (response r s).flushed) t;
          numbers = overlaid (completions (departures (response r s).released (response r s).flushed s.packets)) done;
          bytes = out;
        })

    emit-is : (budget : ℕ) (f : Option Found) → FoundIn (main_seek pr.standing (ask.Emit budget)) f → Accepted small (emitting budget out) at (sides t)
        → acted at t done out (emit_plan pr t.ends budget f) ≡ done_with at (ask.Emit budget) t done out (effect (emitting budget out) s)
    unfolding emitted side side_of
    emit-is budget f e h =
        let ready = ready_of h.state in
        let k = going budget s in
        let y = emitted-is t a at low ready k out (going-waits budget s) (omega (arith, going-most budget s, ltb-false (length out) (record_bytes * budget) h.buffer)) in
        (λ i.
        acted at t done out
        (planned (Ok Count) (here ready i) (to_free pr t.ends 0 0) (to_pair pr t.ends 0 no_post)
        (outward pr (going_of budget (here ready i) (found-is ready Waiting f e i)) (slot_of (found-is ready Waiting f e i)))))
        ∙ (λ i.
        acted at t done out
        (planned (Ok Count) s.standing (to_free pr t.ends 0 0) (to_pair pr t.ends 0 no_post) (outward pr (going-found budget s (queue t at) i) (first-is i))))
        ∙ packets-go at t done out a.whole low k first (ends_at s.standing.settings (X s) (outgoing budget s)) s.standing
        (overlaid (emissions s.standing (outgoing budget s)) out) (y.2, y.1, y.0)
      where
        first : ℕ
        first = get_or (queue t at) (ahead (sought s.standing (Some Waiting)) s.packets) small.none

        first-is : slot_of (found_in (sought s.standing (Some Waiting)) (queue t at) s.packets) ≡ first
        first-is = slot-found (sought s.standing (Some Waiting)) (queue t at) s.packets (sym (length-map (queue t at) (λ i. (slot_at t.slots i).packet)))

    pub accepted-is : (q : Ask) (c : Scan) → FoundIn (main_seek pr.standing q) c.main.found → FoundIn (read_seek pr.standing q) c.read.found
        → Accepted small (asked q (lent_of q done out)) at (sides t)
        → acted at t done out (accepted_plan pr t.ends c q) ≡ done_with at q t done out (effect (asked q (lent_of q done out)) s)
    accepted-is (ask.Open st first) c m r h = none-leaves at t done out a.whole low Done (opened st first)
    accepted-is (ask.Post p) c m r h = post_is p h
    accepted-is (ask.Emit budget) c m r h = emit-is budget c.main.found m h
    accepted-is (ask.Acknowledge psn syndrome) c m r h =
        ap (λ (o : Outcome). acted at t done out (leaving_plan pr t.ends o 0)) (acknowledged-is (ready_of h.state) psn syndrome c.main.found m)
        ∙ slots-leave at t done out a.whole low (acknowledge psn syndrome s) 0 (omega (arith, ack-most psn syndrome s, held-is t at)) (ltb-false (length done) 512 h.buffer)
    accepted-is (ask.Respond psn opcode len) c m r h = respond-is psn opcode len c.main.found c.read.found m r h
    accepted-is (ask.Tick elapsed) c m r h =
        ap (λ (o : Outcome). acted at t done out (leaving_plan pr t.ends o 0)) (ticked-is (ready_of h.state) elapsed)
        ∙ slots-leave at t done out a.whole low (timer elapsed s) 0 (omega (arith, tick-few elapsed, held-is t at)) (ltb-false (length done) 512 h.buffer)
    accepted-is ask.Close c m r h =
        ap (λ (n : ℕ). acted at t done out (leaving_plan pr t.ends (closing_all n) 0)) held_same
        ∙ slots-leave at t done out a.whole low (closing_all (length s.packets)) 0 (omega (arith, held-is t at)) (ltb-false (length done) 512 h.buffer)
