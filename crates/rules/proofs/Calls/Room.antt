-- The room clause: within its share a post is refused by none but 1 to 7, and where none of those holds it is accepted.
use mathlib.Core.Path.{◌≡◌, ap, ◌∙◌}
use mathlib.Core.Bool.{false, ◌&&◌}
use Prim.Native.Nat.{ℕ, ◌+◌, ◌≤◌, ◌<◌}
use native.Mathlib.Omega.{arith}
use lib.Dec.{ltb, leb}
use borrow.Author.Tests.{leb-false, le-ltb, lt-leb, eq-eqb}
use lib.ListN.{length, get_or, length-map}
use Rattle.std.specs.Prelude.{Option, None, Ok, Err}
use Rattle.refusal.specs.declared.Refusal.{Refusal}
use Rattle.refusal.specs.Numbers.{number}
use Rattle.refusal.proofs.Cases.{if-case}
use Rattle.refusal.proofs.Given.{by-given, ok-not-err}
use Rattle.rules.specs.declared.Post.{Post}
use Rattle.psn.specs.Psn.{half, distance}
use Rattle.rules.specs.declared.Reply.TheVariants.{First}
use Rattle.rules.specs.Card.{Card}
use Rattle.rules.specs.Account.{Side, no_side, U, N}
use Rattle.rules.specs.Message.{slots_for, psns_for}
use Rattle.rules.specs.Ranges.{bad_post, over_ceiling}
use Rattle.rules.specs.Slots.{Tables, queue, side, sides}
use Rattle.rules.specs.Pool.{Claim, claim_of, claims}
use Rattle.rules.specs.Audit.{Audit}
use Rattle.rules.specs.Calls.{call}
use Rattle.rules.specs.Refusals.{side_at, wrong_state, any_read, no_room, refusals}
use Rattle.rules.specs.Requests.{posting, on}
use Rattle.rules.proofs.Passes.Decided.{complete}
use Rattle.refusal.specs.Refusals.{first_given}
use Rattle.rules.specs.Demands.{WithinShare}
use Rattle.rules.proofs.Ranges.{in-range}
use Rattle.rules.proofs.Pool.{within-share}
use Rattle.rules.proofs.Calls.Accepted.{is-ready}
use Rattle.rules.proofs.Sides.Good.{claim-open}
use Rattle.rules.proofs.Calls.Well.{claim-at}
use Rattle.rules.proofs.Calls.Moves.{side-at, side-length, well-of}
use Rattle.rules.proofs.Calls.Agrees.{refused-inj}
use Rattle.rules.proofs.Calls.Refused.{given-number}

module _ (card : Card) where
  module _ (t : Tables) (a : Audit card t) (p : ℕ) (m : Post) where
    within : p < card.pairs → (side t p).standing.state ≡ 1
        → length (queue t p) + slots_for (side t p).standing.settings m ≤ (side t p).standing.settings.share
        → no_room card p m (sides t) ≡ false
    within hp ready l =
        let st = (side t p).standing.settings in
        let w = well-of card t a in
        let mine : (get_or (claims (sides t)) p (claim_of no_side)).share ≡ st.share =
        ap (λ (c : Claim). c.share) (claim-at (sides t) p ∙ ap claim_of (side-at t p) ∙ claim-open (side t p) (omega arith)) in
        rw (side-at t p)
        (within-share card.slots st.ceiling (claims (sides t)) p
        (record { share = st.share; held = length (side t p).packets + slots_for st m }) (claim_of no_side)
        (omega (arith, w.count, length-map (sides t) claim_of)) a.shares mine
        (in-range (a.bounded p hp (omega arith)).settings).share-high (omega (arith, side-length t p)))

    low : length (queue t p) + slots_for (side t p).standing.settings m ≤ (side t p).standing.settings.share
        → given-number (first_given (refusals card (posting m) p (sides t))) ≤ 7
    low l =
        let s = side_at (sides t) p in
        let st = s.standing.settings in
        if-case (λ (o : Option Refusal). given-number o ≤ 7) (leb card.pairs p) (λ _. omega arith) (λ hp.
        if-case (λ (o : Option Refusal). given-number o ≤ 7) (wrong_state (posting m) s.standing.state) (λ _. omega arith) (λ ready.
        if-case (λ (o : Option Refusal). given-number o ≤ 7) (bad_post m) (λ _. omega arith) (λ _.
        if-case (λ (o : Option Refusal). given-number o ≤ 7) (over_ceiling st m) (λ _. omega arith) (λ _.
        if-case (λ (o : Option Refusal). given-number o ≤ 7) (m.fenced && any_read s.packets) (λ _. omega arith) (λ _.
        if-case (λ (o : Option Refusal). given-number o ≤ 7) (ltb half (distance (U s) (N s) + psns_for st m)) (λ _. omega arith) (λ _.
        rw (within (leb-false card.pairs p hp) (rw (side-at t p) at (is-ready {x = s.standing.state} ready)) l) (omega arith)))))))

    -- whatever else is wrong with the post, it is not refused for room
    pub none-but-seven : length (queue t p) + slots_for (side t p).standing.settings m ≤ (side t p).standing.settings.share
        → (n : Refusal) → (call card (on p (posting m)) t).said.reply ≡ Err n → number n ≤ 7
    unfolding call
    none-but-seven l n =
        rw (complete card t a)
        (by-given (first_given (refusals card (posting m) p (sides t)))
        (λ e. rw e (λ q. ok-not-err q))
        (λ k e. rw e (λ q. rw (e, refused-inj q) at (low l))))

    -- and if nothing else is, it is accepted
    given-none : WithinShare card t p m → first_given (refusals card (posting m) p (sides t)) ≡ None
    given-none w =
        let st = (side t p).standing.settings in
        let held = length (side t p).packets in
        let high = (in-range (a.bounded p w.pair (omega (arith, w.is-ready))).settings).share-high in
        let small : over_ceiling st m ≡ false = le-ltb st.ceiling (slots_for st m) (omega (arith, w.share)) in
        let close : ltb half (distance (U (side t p)) (N (side t p)) + psns_for st m) ≡ false = le-ltb half _ w.near in
        let is : side_at (sides t) p ≡ side t p = side-at t p in
        let room : no_room card p m (sides t) ≡ false = within w.pair w.is-ready w.share in
        rw (lt-leb card.pairs p w.pair, room, is, eq-eqb (side t p).standing.state 1 w.is-ready, w.in-range, small, w.unfenced, close)

    pub room : WithinShare card t p m → (call card (on p (posting m)) t).said.reply ≡ Ok (First (N (side t p)))
    unfolding call
    room w = rw (complete card t a, given-none w) (ap (λ (s : Side). Ok (First (N s))) (side-at t p))
