-- The ledger of a pair: what was accepted is what was released and what is held, and the tickets told are those of the messages released.
use mathlib.Core.Path.{◌≡◌, refl, sym, ap, ◌∙◌}
use mathlib.Core.List.{List, [], ◌∷◌, ◌++◌, map, map-append, append_assoc, append-nil}
use Prim.Native.Nat.{ℕ, zero, suc, ◌+◌, ◌<◌}
use native.Mathlib.Omega.{arith}
use lib.Dec.{eqb}
use borrow.Author.Tests.{eqb-true, eqb-false, eq-eqb}
use lib.ListN.{length, take, drop, replicate, length-set, length-replicate, take-append-drop}
use Rattle.refusal.proofs.Cases.{by-test}
use Rattle.rules.specs.declared.Packet.{Packet}
use Rattle.rules.specs.Card.{Card}
use Rattle.rules.specs.Account.{Side, no_side}
use Rattle.rules.specs.Calls.{Move, leaves, joins, effect, packets_after, side_after, all_closed, account}
use Rattle.rules.specs.Outcome.{Departure, departures, completions}
use Rattle.rules.specs.History.{run, Ledger, blank, accepts, departs, heard, entered, entry, ledger_from}
use Rattle.rules.specs.Refusals.{side_at, refusals}
use Rattle.rules.specs.Requests.{Request, Call, starting, on}
use Rattle.refusal.specs.Refusals.{first_given}
use Rattle.refusal.proofs.Given.{by-given}
use Rattle.rules.proofs.Calls.Completions.{packets-departed, completions-append, heard-departed}
use Rattle.rules.proofs.Calls.Accepted.{accepted}
use Rattle.rules.proofs.Calls.Well.{side_same, side-other}

abbrev packets_of : List Departure → List Packet
packets_of ds = map (λ (d : Departure). d.packet) ds

closed_at : (n p : ℕ) → side_at (replicate n no_side) p ≡ no_side
unfolding side_at
closed_at zero p = refl
closed_at (suc n) zero = refl
closed_at (suc n) (suc p) = closed_at n p

module _ (card : Card) where
  module _ (p : ℕ) where
    -- accepted is what left and what is held, and what was told are the completions of what left
    pub record Balanced (l : Ledger) (a : List Side) : Type 0 where
      pub count : length a ≡ card.pairs
      pub held : l.accepted ≡ packets_of l.departed ++ (side_at a p).packets
      pub told : l.told ≡ completions l.departed

    moved-balanced : (m : Move) (acc : List Packet) (ds : List Departure) (ps : List Packet) → acc ≡ packets_of ds ++ ps
        → acc ++ accepts m ≡ packets_of (ds ++ departs m ps) ++ packets_after m ps
    moved-balanced (leaves r f) acc ds ps e =
        append-nil acc ∙ e
        ∙ ap (λ (x : List Packet). packets_of ds ++ x) (sym (take-append-drop (r + f) ps))
        ∙ sym (append_assoc (packets_of ds) (take (r + f) ps) (drop (r + f) ps))
        ∙ ap (λ (x : List Packet). (packets_of ds ++ x) ++ drop (r + f) ps) (sym (packets-departed r f ps))
        ∙ ap (λ (x : List Packet). x ++ drop (r + f) ps) (sym (map-append (λ (d : Departure). d.packet) ds (departures r f ps)))
    moved-balanced (joins qs) acc ds ps e =
        ap (λ (x : List Packet). x ++ qs) e
        ∙ append_assoc (packets_of ds) ps qs
        ∙ ap (λ (x : List Departure). packets_of x ++ (ps ++ qs)) (sym (append-nil ds))

    entered-balanced : (q : Request) (s : Side) (l : Ledger) → l.told ≡ completions l.departed
        → (entered (effect q s) s.packets l).told ≡ completions (entered (effect q s) s.packets l).departed
    entered-balanced q s l e =
        ap (λ (x : List ℕ). x ++ heard (effect q s).reply (effect q s).buffer) e
        ∙ ap (λ (x : List ℕ). completions l.departed ++ x) (heard-departed q s)
        ∙ sym (completions-append l.departed (departs (effect q s).move s.packets))

    entry-balanced : (c : Call) (a : List Side) (l : Ledger) → Balanced l a → Balanced (entry card p c a l) (account card c a).next
    unfolding entry account
    entry-balanced starting a l b = record { count = length-replicate card.pairs no_side; held = sym (ap (λ (s : Side). s.packets) (closed_at card.pairs p)); told = refl }
    entry-balanced (on r q) a l b =
        by-test (eqb r p)
        (λ here.
        rw (eqb-true r p here, eq-eqb p p refl)
        (by-given (first_given (refusals card q p a))
        (λ e.
        let low : p < length a = omega (arith, b.count, (accepted card q p a e).pair) in
        rw e (record {
          count = length-set a p _ ∙ b.count;
          held = rw (side_same a p (side_after (effect q (side_at a p)) (side_at a p)) low)
              (moved-balanced (effect q (side_at a p)).move l.accepted l.departed (side_at a p).packets b.held);
          told = entered-balanced q (side_at a p) l b.told;
        }))
        (λ k e. rw e b)))
        (λ there.
        rw there
        (by-given (first_given (refusals card q r a))
        (λ e. rw e (record { count = length-set a r _ ∙ b.count; held = rw (side-other a r p _ (λ z. eqb-false r p there (sym z))) b.held; told = b.told }))
        (λ k e. rw e b)))

    pub blank-balanced : Balanced blank (all_closed card)
    blank-balanced = record { count = length-replicate card.pairs no_side; held = sym (ap (λ (s : Side). s.packets) (closed_at card.pairs p)); told = refl }

    pub balanced : (cs : List Call) (a : List Side) (l : Ledger) → Balanced l a
        → Balanced (ledger_from card p cs a l) (run (account card) cs a).last
    balanced [] a l b = b
    balanced (c ∷ cs) a l b = balanced cs (account card c a).next (entry card p c a l) (entry-balanced c a l b)
