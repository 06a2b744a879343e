-- Every request that is not refused keeps, on the account, what the audit asks.
use mathlib.Core.Path.{◌≡◌, refl, ap, ◌∙◌}
use mathlib.Core.Logic.{◌≢◌}
use mathlib.Core.List.{List, [], ◌∷◌, ◌++◌}
use Prim.Native.Nat.{ℕ, zero, suc, ◌+◌, ◌≤◌, ◌<◌}
use native.Mathlib.Omega.{arith}
use lib.Dec.{eqb}
use borrow.Author.Tests.{ltb-false, leb-false, eqb-true, eqb-false, not-false}
use lib.ListN.{length, get_or, set, length-set, length-map, length-append, drop_of_length-le, get_or-map}
use lib.Seq.{get_or-set_same, get_or-set_other}
use Rattle.refusal.proofs.Cases.{by-test, or_left, or_right}
use Rattle.rules.specs.declared.Packet.{Packet}
use Rattle.rules.specs.declared.Post.{Post}
use Rattle.psn.specs.Psn.{psns, half}
use Rattle.rules.specs.Card.{Card}
use Rattle.rules.specs.Account.{Side, no_side, N}
use Rattle.rules.specs.Message.{packets_of, slots_for}
use Rattle.rules.specs.Ranges.{bad_settings, bad_psn}
use Rattle.rules.specs.Posting.{posted}
use Rattle.rules.specs.Emission.{emitted}
use Rattle.rules.specs.Pool.{Claim, claimed, claim_of, claims}
use Rattle.rules.specs.Calls.{effect, side_after}
use Rattle.rules.specs.Refusals.{side_at}
use Rattle.rules.specs.Requests.{Request, opening, posting, emitting, acknowledging, responding, ticking, closing}
use Rattle.rules.proofs.Pool.{claimed-set, has_room}
use Rattle.rules.proofs.Calls.Accepted.{Accepted, is-ready}
use Rattle.rules.proofs.Sides.Good.{Good, Follows, claim-open, length-packets, good-closed, good-opened, good-acknowledge, good-timer, good-response, good-emitted, good-posted}

-- ---- sides in a list

pub side_same : (a : List Side) (p : ℕ) (s : Side) → p < length a → side_at (set a p s) p ≡ s
unfolding side_at
side_same a p s h = get_or-set_same a p s no_side h

pub side-other : (a : List Side) (p r : ℕ) (s : Side) → r ≢ p → side_at (set a p s) r ≡ side_at a r
unfolding side_at
side-other a p r s h = get_or-set_other a p r s no_side h

pub claim-at : (a : List Side) (p : ℕ) → get_or (claims a) p (claim_of no_side) ≡ claim_of (side_at a p)
unfolding side_at
claim-at a p = get_or-map claim_of a p no_side

claims-set : (a : List Side) (p : ℕ) (s : Side) → claims (set a p s) ≡ set (claims a) p (claim_of s)
claims-set [] p s = refl
claims-set (x ∷ a) zero s = refl
claims-set (x ∷ a) (suc p) s = ap (λ (l : List Claim). claim_of x ∷ l) (claims-set a p s)

empty : (ps : List Packet) → length ps ≡ 0 → ps ≡ []
empty [] e = refl
empty (p ∷ ps) e = absurd (omega arith)

pub posted-is : (m : Post) (s : Side) → record { standing = (posted m s).standing; packets = s.packets ++ packets_of s.standing.settings m (N s) } ≡ posted m s
unfolding posted
posted-is m s = refl

pub posted-state : (m : Post) (s : Side) → (posted m s).standing.state ≡ s.standing.state
unfolding posted
posted-state m s = refl

pub emitted-is : (budget : ℕ) (s : Side) → record { standing = (emitted budget s).standing; packets = s.packets } ≡ emitted budget s
unfolding emitted
emitted-is budget s = refl

claim-posted : (m : Post) (s : Side) → s.standing.state ≡ 1
    → claim_of (posted m s) ≡ record { share = s.standing.settings.share; held = length s.packets + slots_for s.standing.settings m }
unfolding posted
claim-posted m s e =
    claim-open (posted m s) (omega arith)
    ∙ ap (λ (n : ℕ). record { share = s.standing.settings.share; held = n })
    (length-append s.packets _ ∙ ap (λ (n : ℕ). length s.packets + n) (length-packets s.standing.settings m (N s)))

module _ (card : Card) where
  pub record Well (a : List Side) : Type 0 where
    pub count : length a ≡ card.pairs
    pub good : (p : ℕ) → p < card.pairs → Good card (side_at a p)
    pub shares : claimed (claims a) ≤ card.slots

  module _ (a : List Side) (w : Well a) (p : ℕ) (hp : p < card.pairs) where
    well-set : (s : Side) → Good card s → claimed (set (claims a) p (claim_of s)) ≤ card.slots → Well (set a p s)
    well-set s g l =
        record {
          count = length-set a p s ∙ w.count;
          good = λ r h.
              by-test (eqb r p)
              (λ e. rw (eqb-true r p e, side_same a p s (omega (arith, w.count))) g)
              (λ e. rw (side-other a p r s (eqb-false r p e)) (w.good r h));
          shares = rw (claims-set a p s) l;
        }

    well-less : (s : Side) → Follows card (side_at a p) s → Well (set a p s)
    well-less s f =
        well-set s f.good
        (omega (arith, w.shares, f.less, rw claim-at at (claimed-set (claims a) p (claim_of s) (claim_of no_side) (omega (arith, w.count, length-map a claim_of)))))

    -- ---- what is not refused

    pub well-accepted : (q : Request) → Accepted card q p a → Well (set a p (side_after (effect q (side_at a p)) (side_at a p)))
    well-accepted (opening st psn) h =
        let z = eqb-true (side_at a p).standing.state 0 (not-false _ h.state) in
        rw (empty (side_at a p).packets ((w.good p hp).idle (λ e. omega arith)))
        (well-set _
        (good-opened card st psn (or_left _ _ h.range) (leb-false psns psn (or_right (bad_settings card st) _ h.range)))
        (ltb-false _ _ (or_left _ _ h.room)))
    well-accepted (posting m) h =
        let s = side_at a p in
        let st = s.standing.settings in
        let ready = is-ready h.state in
        let room = has_room card.slots st.ceiling (claims a) p (record { share = st.share; held = length s.packets + slots_for st m }) h.room in
        rw (posted-is m s)
        (well-set (posted m s)
        (good-posted card s (w.good p hp) ready m
        (record { in-range = h.range; in-ceiling = h.ceiling })
        (ltb-false half _ h.near)
        room.0)
        (rw (claim-posted m s ready) room.1))
    well-accepted (emitting budget b) h =
        rw (emitted-is budget (side_at a p)) (well-less (emitted budget (side_at a p)) (good-emitted card (side_at a p) (w.good p hp) (is-ready h.state) budget))
    well-accepted (acknowledging r y b) h =
        well-less _ (good-acknowledge card (side_at a p) (w.good p hp) (is-ready h.state) r y (leb-false psns r (or_left (bad_psn r) _ h.range)))
    well-accepted (responding r o l b) h =
        well-less _
        (good-response card (side_at a p) (w.good p hp) (is-ready h.state) r o l (leb-false psns r (or_left (bad_psn r) _ h.range)) h.fits)
    well-accepted (ticking e b) h = well-less _ (good-timer card (side_at a p) (w.good p hp) (is-ready h.state) e)
    well-accepted (closing b) h =
        rw (drop_of_length-le (side_at a p).packets {i = 0 + length (side_at a p).packets} (omega arith))
        (well-less no_side (record { good = good-closed card; less = omega arith }))
