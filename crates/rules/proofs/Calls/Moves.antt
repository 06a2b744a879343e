-- Every call, from audited tables, ends in audited tables and does on the sides what the account does.
use mathlib.Core.Path.{◌≡◌, refl, sym, ap, ◌∙◌}
use mathlib.Core.Logic.{◌≢◌}
use mathlib.Core.List.{List, [], ◌∷◌, map}
use Prim.Native.Nat.{ℕ, suc, ◌+◌, ◌≤◌, ◌<◌, suc-le-suc}
use native.Mathlib.Omega.{arith}
use lib.Dec.{eqb}
use borrow.Author.Tests.{eqb-true, eqb-false}
use lib.ListN.{length, set, drop, length-set, length-map, length-drop, get_or-map}
use lib.Seq.{get_or-set_same, get_or-set_other, ext_get_or}
use Rattle.refusal.proofs.Cases.{by-test}
use Rattle.rules.specs.declared.Packet.{Packet}
use Rattle.rules.specs.declared.Standing.{Standing}
use Rattle.rules.specs.declared.Slot.{Slot}
use Rattle.rules.specs.declared.Post.{Post}
use Rattle.rules.specs.declared.Pair.{Pair}
use Rattle.rules.specs.Card.{Card}
use Rattle.rules.specs.Account.{Side, no_side, N}
use Rattle.rules.specs.Message.{slots_for, packets_of}
use Rattle.rules.specs.Slots.{Tables, no_pair, slot_at, pair_at, spelled, held_by, free, queue, side_of, side, sides, freed, stored}
use Rattle.rules.specs.Pool.{Claim, claimed, claim_of, claims}
use Rattle.rules.specs.Audit.{Whole, Audit}
use Rattle.rules.specs.Calls.{Move, leaves, joins, effect, side_after, packets_after, tables_after}
use Rattle.rules.specs.Refusals.{side_at}
use Rattle.rules.specs.Requests.{Request, opening, posting, emitting, acknowledging, responding, ticking, closing}
use Rattle.rules.proofs.Sides.InOrder.{in_order, ordered}
use Rattle.rules.proofs.Slots.Queues.{all_slots, length-follow}
use Rattle.rules.proofs.Slots.Freed.{freed-side, freed-others, freed-whole}
use Rattle.rules.proofs.Slots.Stored.{stored-side, stored-others, stored-whole}
use Rattle.rules.proofs.Pool.{all_held, enough, has_room}
use Rattle.rules.proofs.Calls.Accepted.{Accepted, is-ready}
use Rattle.rules.proofs.Sides.Good.{Good, claim-open, length-packets}
use Rattle.rules.proofs.Calls.Well.{Well, well-accepted, side_same, claim-at, posted-state}

-- ---- a side, off the tables

pub side-at : (t : Tables) (p : ℕ) → side_at (sides t) p ≡ side t p
unfolding side_at side side_of pair_at
side-at t p = get_or-map (side_of t.slots) t.pairs p no_pair

pub side-length : (t : Tables) (p : ℕ) → length (side t p).packets ≡ length (queue t p)
unfolding side side_of
side-length t p = simp length-map

-- one side changes
sides-of : (t n : Tables) (p : ℕ) (s : Side) → length n.pairs ≡ length t.pairs → p < length t.pairs → side n p ≡ s
    → ((r : ℕ) → r < length t.pairs → r ≢ p → side n r ≡ side t r) → sides n ≡ set (sides t) p s
unfolding side_at
sides-of t n p s e h here there =
    ext_get_or no_side (sides n) (set (sides t) p s)
    (length-map n.pairs (side_of n.slots) ∙ e ∙ sym (length-set (sides t) p s ∙ length-map t.pairs (side_of t.slots)))
    (λ r l.
    side-at n r
    ∙ by-test (eqb r p)
    (λ q. rw (eqb-true r p q) (here ∙ sym (get_or-set_same (sides t) p s no_side (omega (arith, length-map t.pairs (side_of t.slots))))))
    (λ q.
    there r (omega (arith, length-map n.pairs (side_of n.slots))) (eqb-false r p q)
    ∙ sym (get_or-set_other (sides t) p r s no_side (eqb-false r p q) ∙ side-at t r)))

-- what the pairs claim to hold is what they hold
holding-is : (s : List Slot) (ps : List Pair)
    → ((i : ℕ) → i < length ps → ((pair_at ps i).standing.state ≡ 1 → ⊥) → (pair_at ps i).queue.held ≡ 0)
    → all_held (claims (map (side_of s) ps)) ≡ held_by ps
unfolding pair_at side_of
holding-is s [] h = refl
holding-is s (x ∷ ps) h =
    let rest = holding-is s ps (λ i l. h (suc i) (suc-le-suc l)) in
    by-test (eqb x.standing.state 0)
    (λ e. rw e (omega (arith, rest, h 0 (omega arith) (λ q. omega (arith, eqb-true x.standing.state 0 e)))))
    (λ e. rw e (omega (arith, rest, length-map (spelled s x.queue) (λ (i : ℕ). (slot_at s i).packet), length-follow s x.queue.first x.queue.held)))

-- pairs that are not ready hold none
pub idle-side : (card : Card) (t : Tables) → Whole card t → (p : ℕ) → p < card.pairs → ((side t p).standing.state ≡ 1 → ⊥) → length (side t p).packets ≡ 0
unfolding side side_of
idle-side card t w p h n =
    length-map (queue t p) (λ (i : ℕ). (slot_at t.slots i).packet)
    ∙ length-follow t.slots (pair_at t.pairs p).queue.first (pair_at t.pairs p).queue.held
    ∙ w.others-empty p h n

module _ (card : Card) (t : Tables) where
  -- ---- the audit, as the tables' and the account's part

  pub well-of : Audit card t → Well card (sides t)
  well-of a =
      record {
        count = length-map t.pairs (side_of t.slots) ∙ a.whole.pair-records;
        good = λ p h. rw (side-at t p) (record {
          state = a.states p h;
          idle = idle-side card t a.whole p h;
          bounded = a.bounded p h;
          ordered = λ e. in_order (a.bounded p h (omega arith)) (a.ordered p h e);
          messages = a.messages p h;
          timed = a.timed p h;
        });
        shares = a.shares;
      }

  pub audit-of : Whole card t → Well card (sides t) → Audit card t
  audit-of w l =
      record {
        whole = w;
        states = λ p h. (good p h).state;
        bounded = λ p h. (good p h).bounded;
        ordered = λ p h e. ordered ((good p h).ordered e);
        messages = λ p h. (good p h).messages;
        timed = λ p h. (good p h).timed;
        shares = l.shares;
      }
    where
      good : (p : ℕ) → p < card.pairs → Good card (side t p)
      good p h = rw (← side-at t p) (l.good p h)

-- ---- slots move as packets do

module _ (card : Card) (t : Tables) where
  module _ (w : Whole card t) (p : ℕ) (hp : p < card.pairs) where
    pub record Moved (st : Standing) (m : Move) : Type 0 where
      pub same : sides (tables_after card.none p st m t) ≡ set (sides t) p (record { standing = st; packets = packets_after m (side_at (sides t) p).packets })
      pub whole : Whole card (tables_after card.none p st m t)

    moved-leave : (st : Standing) (released flushed : ℕ) → Good card (record { standing = st; packets = drop (released + flushed) (side_at (sides t) p).packets })
        → Moved st (leaves released flushed)
    moved-leave st released flushed g =
        let k = released + flushed in
        let v = freed-whole card t w p hp st k (λ n. omega (arith, rw (side-at t p) at (g.idle n), length-drop k (side t p).packets, side-length t p)) in
        record {
          same =
              rw (side-at t p)
              (sides-of t (freed card.none p st k t) p _ (v.pair-records ∙ sym w.pair-records) (omega (arith, w.pair-records))
              (freed-side card t w p hp st k)
              (λ r h. freed-others card t w p hp st k r (omega (arith, w.pair-records))));
          whole = v;
        }

    moved-join : (st : Standing) (qs : List Packet) → st.state ≡ 1 → length qs ≤ length (free t) → Moved st (joins qs)
    moved-join st qs e room =
        let v = stored-whole card t w p hp st qs room e in
        record {
          same =
              rw (side-at t p)
              (sides-of t (stored card.none p st qs t) p _ (v.pair-records ∙ sym w.pair-records) (omega (arith, w.pair-records))
              (stored-side card t w p hp st qs room)
              (λ r h. stored-others card t w p hp st qs room r (omega (arith, w.pair-records))));
          whole = v;
        }

    -- what keeps the sum within the total finds free slots
    room_for : (c : Claim) (new : ℕ) → 0 < (side_at (sides t) p).standing.state → c.held ≡ length (side_at (sides t) p).packets + new
        → claimed (set (claims (sides t)) p c) ≤ card.slots → new ≤ length (free t)
    room_for c new o e l =
        enough (claims (sides t)) card.slots (length (free t)) p new c (claim_of no_side)
        (omega (arith, length-map (sides t) claim_of, length-map t.pairs (side_of t.slots), w.pair-records))
        (e ∙ sym (ap (λ (x : Claim). x.held + new) (claim-at (sides t) p ∙ claim-open (side_at (sides t) p) o)))
        l
        (omega (arith, all_slots card t w, holding-is t.slots t.pairs (λ i h. w.others-empty i (omega (arith, w.pair-records)))))

  module _ (a : Audit card t) (p : ℕ) (hp : p < card.pairs) where
    kept : (q : Request) → Accepted card q p (sides t) → Good card (side_after (effect q (side_at (sides t) p)) (side_at (sides t) p))
    kept q h =
        rw (side_same (sides t) p (side_after (effect q (side_at (sides t) p)) (side_at (sides t) p)) (omega (arith, (well-of card t a).count)))
        at ((well-accepted card (sides t) (well-of card t a) p hp q h).good p hp)

    -- what a post stores finds as many slots free
    pub post-fits : (m : Post) → Accepted card (posting m) p (sides t)
        → length (packets_of (side_at (sides t) p).standing.settings m (N (side_at (sides t) p))) ≤ length (free t)
    post-fits m h =
        let s = side_at (sides t) p in
        let st = s.standing.settings in
        let ready : s.standing.state ≡ 1 = is-ready h.state in
        let after : Claim = record { share = st.share; held = length s.packets + slots_for st m } in
        let room = room_for a.whole p hp after (slots_for st m) (omega arith) refl (has_room card.slots st.ceiling (claims (sides t)) p after h.room).1 in
        omega (arith, length-packets st m (N s))

    pub moved : (q : Request) → Accepted card q p (sides t)
        → Moved a.whole p hp (effect q (side_at (sides t) p)).standing (effect q (side_at (sides t) p)).move
    moved (opening st psn) h = moved-leave a.whole p hp _ 0 0 (kept (opening st psn) h)
    moved (posting m) h =
        moved-join a.whole p hp _ _ (posted-state m (side_at (sides t) p) ∙ is-ready h.state) (post-fits m h)
    moved (emitting budget b) h = moved-leave a.whole p hp _ 0 0 (kept (emitting budget b) h)
    moved (acknowledging r y b) h = moved-leave a.whole p hp _ _ _ (kept (acknowledging r y b) h)
    moved (responding r o l b) h = moved-leave a.whole p hp _ _ _ (kept (responding r o l b) h)
    moved (ticking e b) h = moved-leave a.whole p hp _ _ _ (kept (ticking e b) h)
    moved (closing b) h = moved-leave a.whole p hp _ _ _ (kept (closing b) h)

    -- an accepted request: audited after, and the account's sides
    pub accepted-audit : (q : Request) → Accepted card q p (sides t)
        → Audit card (tables_after card.none p (effect q (side_at (sides t) p)).standing (effect q (side_at (sides t) p)).move t)
    accepted-audit q h =
        let m = moved q h in
        audit-of card _ m.whole (rw m.same (well-accepted card (sides t) (well-of card t a) p hp q h))
