-- An emission's walk: from the packet found on, one record for each, and X at the end of the last.
use mathlib.Core.Path.{◌≡◌, refl, sym, ap, ap₂, ◌∙◌, subst⁻¹}
use mathlib.Core.Bool.{false}
use mathlib.Core.List.{List, [], ◌∷◌, ◌++◌, map, append_assoc}
use Prim.Native.Nat.{ℕ, zero, suc, ◌-◌, ◌*◌, ◌≤◌, ◌<◌}
use native.Mathlib.Omega.{arith}
use lib.ListN.{length, get_or, take, drop, length-append, length-drop, length-map}
use Rattle.refusal.specs.Choice.{Each}
use Rattle.refusal.proofs.Each.{each-drop, each_both}
use Rattle.psn.specs.Psn.{before}
use Rattle.rules.specs.declared.Packet.{Packet}
use Rattle.rules.specs.declared.Settings.{Settings}
use Rattle.rules.specs.declared.Slot.{Slot}
use Rattle.rules.specs.declared.Standing.{Standing}
use Rattle.rules.specs.Card.{small}
use Rattle.rules.specs.Ranges.{bad_settings}
use Rattle.rules.specs.Account.{Side, U, X, ahead}
use Rattle.rules.specs.Message.{read_request}
use Rattle.rules.specs.Emission.{ends, waiting, ends_at, record_bytes, emission, emissions}
use Rattle.rules.specs.Slots.{Tables, slot_at, pair_at, queue, side, side_of, first_of, Linked}
use Rattle.rules.specs.Calls.{overlaid}
use Rattle.rules.specs.Audit.{Audit}
use Rattle.rules.proofs.Slots.Links.{linked-drop}
use Rattle.rules.proofs.Slots.Lists.{map-drop}
use Rattle.rules.proofs.Sides.Headers.{Headed, headers-written, held-ask}
use Rattle.rules.proofs.Sides.Fits.{Fits, held-fit}
use Rattle.message.specs.Capped.{capped, tidy}
use Rattle.message.specs.Places.{sent_by}
use Rattle.message.proofs.Cuts.{capped_same}
use Rattle.refusal.proofs.Loop.{loop-done, loop-more}
use Rattle.walks.specs.Begun.{outward}
use Rattle.walks.specs.Acting.{record_of, placed, Emitted, emit_turn, emit}
use Rattle.walks.proofs.Placing.{placed-behind, overlaid-behind}
use Rattle.walks.proofs.Recorded.{record-long, record_is}

-- each turn leaves fewer packets to go
pub emit-less : (s : List Slot) (x : Emitted) → 0 < x.work.left → (emit_turn s x).work.left < x.work.left
emit-less s x l = omega arith

-- where none is left, all stays as it is
pub emit-none : (s : List Slot) (x : Emitted) → x.work.left ≡ 0 → emit s x ≡ x
emit-none s x z = loop-done (λ (y : Emitted). y.work.left) (emit_turn s) (emit-less s) x z

-- the packets of some slots
abbrev packets : List Slot → List ℕ → List Packet
packets s l = map (λ i. (slot_at s i).packet) l

-- its record is the rules'
abbrev Good : Standing → Packet → Type 0
Good t p = record_of (capped t.settings) (sent_by (tidy t) p) ≡ emission t p

module _ (s : List Slot) (t : Standing) (total : ℕ) where
  -- k packets are left
  abbrev stood : ℕ → ℕ → ℕ → List ℕ → Emitted
  stood k at x out = record { work = record { left = k; total = total; at = at; x = x; standing = t }; out = out }

  -- what the walk comes to, of k packets of the slots l, with bytes written already in front
  abbrev Runs : ℕ → Type 0
  Runs k =
      (l : List ℕ) (x : ℕ) (front rest : List ℕ) → Linked small.none s l → k ≤ length l → Each (Good t) (packets s l)
      → length front ≡ record_bytes * (total - k) → k ≤ total → record_bytes * k ≤ length rest
      → let y = emit s (stood k (first_of small.none l) x (front ++ rest)) in
      (y.out ≡ front ++ overlaid (emissions t (take k (packets s l))) rest)
      × (y.work.x ≡ ends_at (capped t.settings) x (take k (packets s l)))
      × (y.work.total ≡ total)

  runs_none : Runs 0
  runs_none l x front rest h k g e m r =
      let d = emit-none s (stood 0 (first_of small.none l) x (front ++ rest)) refl in
      (ap (λ (y : Emitted). y.out) d, ap (λ (y : Emitted). y.work.x) d, ap (λ (y : Emitted). y.work.total) d)

  runs-more : (k : ℕ) → Runs k → Runs (suc k)
  runs-more k ih [] x front rest h m g e n r = absurd (omega arith)
  runs-more k ih (a ∷ l) x front rest h m g e n r =
      let is = ih l (ends (capped t.settings) p) (front ++ new) (drop (length new) rest) h.1 (omega arith) g.1
      long (omega arith) (omega (arith, wide, length-drop (length new) rest)) in (
        ap (λ (y : Emitted). y.out) more ∙ is.0 ∙ laid,
        ap (λ (y : Emitted). y.work.x) more ∙ is.1,
        ap (λ (y : Emitted). y.work.total) more ∙ is.2,
      )
    where
      p : Packet
      p = (slot_at s a).packet

      new : List ℕ
      new = record_of (capped t.settings) (sent_by (tidy t) p)

      wide : length new ≡ record_bytes
      wide = record-long (capped t.settings) (sent_by (tidy t) p)

      long : length (front ++ new) ≡ record_bytes * (total - k)
      long = omega (arith, length-append front new, wide, e)

      laid : (front ++ new) ++ overlaid (emissions t (take k (packets s l))) (drop (length new) rest) ≡ front ++ overlaid (emissions t (p ∷ take k (packets s l))) rest
      laid =
          append_assoc front new (overlaid (emissions t (take k (packets s l))) (drop (length new) rest))
          ∙ ap (λ (b : List ℕ). front ++ b) (overlaid-behind new (emissions t (take k (packets s l))) rest)
          ∙ ap (λ (b : List ℕ). front ++ overlaid (b ++ emissions t (take k (packets s l))) rest) g.0

      more : emit s (stood (suc k) a x (front ++ rest)) ≡ emit s (stood k (first_of small.none l) (ends (capped t.settings) p) ((front ++ new) ++ drop (length new) rest))
      more =
          loop-more (λ (y : Emitted). y.work.left) (emit_turn s) (emit-less s) (stood (suc k) a x (front ++ rest)) (omega arith)
          ∙ (λ i. emit s (stood (one i) (h.0 i) (ends (capped t.settings) p) (bytes i)))
        where
          one : suc k - 1 ≡ k
          one = omega arith

          bytes : placed (record_bytes * (total - suc k)) new (front ++ rest) ≡ (front ++ new) ++ drop (length new) rest
          bytes = placed-behind front new rest (record_bytes * (total - suc k)) (sym e) (omega (arith, wide))

  runs : (k : ℕ) → Runs k
  runs zero = runs_none
  runs (suc k) = runs-more k (runs k)

-- the slot at a place is the first of those from it on
first-drop : (none k : ℕ) (l : List ℕ) → get_or l k none ≡ first_of none (drop k l)
first-drop none zero [] = refl
first-drop none zero (a ∷ l) = refl
first-drop none (suc k) [] = refl
first-drop none (suc k) (a ∷ l) = first-drop none k l

-- what an audited ready pair emits is what the rules write, and X comes to stand where they say
module _ (t : Tables) (a : Audit small t) (at : ℕ) (h : at < small.pairs) (ready : (side t at).standing.state ≡ 1) where
  abbrev s : Side
  s = side t at

  in-range : bad_settings small s.standing.settings ≡ false
  in-range = (a.bounded at h (omega (arith, ready))).settings

  -- how many packets no longer wait, and the slots of those that do
  abbrev gone : ℕ
  gone = ahead (λ p. before (U s) (X s) (ends s.standing.settings p)) s.packets

  abbrev left : List ℕ
  left = drop gone (queue t at)

  their-packets : packets t.slots left ≡ waiting s
  unfolding side side_of
  their-packets = map-drop (λ i. (slot_at t.slots i).packet) gone (queue t at)

  -- each of them is written as the rules say
  well : Each (Good s.standing) (waiting s)
  well =
      let kept = each-drop (λ p. Fits p × (p.opcode ≤ read_request)) gone s.packets
      (each_both Fits (λ p. p.opcode ≤ read_request) (λ p. Fits p × (p.opcode ≤ read_request)) (λ p f o. (f, o)) s.packets
      (held-fit s.standing.settings (a.messages at h)) (held-ask s.standing.settings (a.messages at h))) in
      each_both (Headed s.standing) (λ p. Fits p × (p.opcode ≤ read_request)) (Good s.standing)
      (λ p headed f. record_is s.standing p in-range headed f.0 f.1) (waiting s) (headers-written small t a at h ready) kept

  module _ (k : ℕ) (out : List ℕ) where
    abbrev start : Emitted
    start =
        record {
          work = outward (pair_at t.pairs at) k (get_or (queue t at) gone small.none);
          out = out;
        }

    pub emitted-is : k ≤ length (waiting s) → record_bytes * k ≤ length out
        → ((emit t.slots start).out ≡ overlaid (emissions s.standing (take k (waiting s))) out)
        × ((emit t.slots start).work.x ≡ ends_at s.standing.settings (X s) (take k (waiting s)))
        × ((emit t.slots start).work.total ≡ k)
    unfolding side side_of
    emitted-is m r =
        let is = runs t.slots s.standing k k left (X s) [] out
        (linked-drop small.none gone t.slots (queue t at) (a.whole.pairs-run at h).linked)
        (omega (arith, length-map left (λ i. (slot_at t.slots i).packet), ap length their-packets, m))
        (subst⁻¹ (Each (Good s.standing)) their-packets well) (omega arith) (omega arith) r in
        let from : emit t.slots start ≡ emit t.slots (stood t.slots s.standing k k (first_of small.none left) (X s) out) =
        ap (λ (j : ℕ). emit t.slots (stood t.slots s.standing k k j (X s) out)) (first-drop small.none gone (queue t at)) in (
          ap (λ (y : Emitted). y.out) from ∙ is.0 ∙ ap (λ (ps : List Packet). overlaid (emissions s.standing (take k ps)) out) their-packets,
          ap (λ (y : Emitted). y.work.x) from ∙ is.1
              ∙ ap₂ (λ (c : Settings) (ps : List Packet). ends_at c (X s) (take k ps)) (capped_same s.standing.settings in-range) their-packets,
          ap (λ (y : Emitted). y.work.total) from ∙ is.2,
        )
