-- The completions: two numbers for each message that the answer counts, and what the host reads by that count is ticket and status of each message that ended.
use mathlib.Core.Path.{◌≡◌, refl, sym, ap, ◌∙◌}
use mathlib.Core.List.{List, [], ◌∷◌, ◌++◌, map, map-append}
use Prim.Native.Nat.{ℕ, suc, ◌+◌, ◌*◌, ◌≤◌}
use native.Mathlib.Omega.{arith}
use lib.ListN.{length, take, drop, length-take, length-map}
use lib.Seq.{take-add, take_at}
use Rattle.refusal.proofs.Cases.{by-test, if-case}
use Rattle.rules.specs.declared.Packet.{Packet}
use Rattle.rules.specs.Account.{Side}
use Rattle.rules.specs.Message.{is_last}
use Rattle.rules.specs.declared.Outcome.{Outcome}
use Rattle.rules.specs.Outcome.{Departure, left_with, departures, completions, messages_of, closing_all}
use Rattle.rules.specs.Acknowledge.{acknowledge}
use Rattle.rules.specs.Response.{response}
use Rattle.rules.specs.Timer.{timer}
use Rattle.rules.specs.Requests.{Request, opening, posting, emitting, acknowledging, responding, ticking, closing}
use Rattle.rules.specs.Calls.{overlaid, effect}
use Rattle.rules.specs.History.{departs, heard}

-- two numbers a message
pub length-completions : (ds : List Departure) → length (completions ds) ≡ 2 * messages_of ds
length-completions [] = refl
length-completions (d ∷ ds) =
    by-test (is_last d.packet) (λ e. rw e (omega (arith, length-completions ds))) (λ e. rw e (omega (arith, length-completions ds)))

messages-most : (ds : List Departure) → messages_of ds ≤ length ds
messages-most [] = omega arith
messages-most (d ∷ ds) =
    if-case (λ (n : ℕ). n + messages_of ds ≤ suc (length ds)) (is_last d.packet) (λ _. omega (arith, messages-most ds)) (λ _. omega (arith, messages-most ds))

pub completions-append : (ds es : List Departure) → completions (ds ++ es) ≡ completions ds ++ completions es
completions-append [] es = refl
completions-append (d ∷ ds) es =
    by-test (is_last d.packet)
    (λ e. rw e (ap (λ (l : List ℕ). d.packet.ticket ∷ d.status ∷ l) (completions-append ds es)))
    (λ e. rw e (completions-append ds es))

-- the packets of those that leave are the front of those held
packets-left : (status : ℕ) (ps : List Packet) → map (λ (d : Departure). d.packet) (left_with status ps) ≡ ps
packets-left status [] = refl
packets-left status (p ∷ ps) = ap (λ (l : List Packet). p ∷ l) (packets-left status ps)

pub packets-departed : (released flushed : ℕ) (ps : List Packet)
    → map (λ (d : Departure). d.packet) (departures released flushed ps) ≡ take (released + flushed) ps
packets-departed released flushed ps =
    map-append (λ (d : Departure). d.packet) (left_with 0 (take released ps)) (left_with 1 (take flushed (drop released ps)))
    ∙ (λ i. packets-left 0 (take released ps) i ++ packets-left 1 (take flushed (drop released ps)) i)
    ∙ sym (take-add released flushed ps)

-- no more numbers than two for each packet held
pub completions-most : (released flushed : ℕ) (ps : List Packet) → length (completions (departures released flushed ps)) ≤ 2 * length ps
completions-most released flushed ps =
    omega (
      arith,
      length-completions (departures released flushed ps),
      messages-most (departures released flushed ps),
      length-map (departures released flushed ps) (λ (d : Departure). d.packet),
      ap length (packets-departed released flushed ps),
      length-take (released + flushed) ps,
    )

-- ---- what the host reads

read_back : (ds : List Departure) (b : List ℕ) → take (2 * messages_of ds) (overlaid (completions ds) b) ≡ completions ds
read_back ds b = take_at (completions ds) (drop (length (completions ds)) b) _ (length-completions ds)

heard-outcome : (o : Outcome) (s : Side) (b : List ℕ)
    → take (2 * messages_of (departures o.released o.flushed s.packets)) (overlaid (completions (departures o.released o.flushed s.packets)) b)
    ≡ completions (departures o.released o.flushed s.packets)
heard-outcome o s b = read_back (departures o.released o.flushed s.packets) b

pub heard-departed : (q : Request) (s : Side) → heard (effect q s).reply (effect q s).buffer ≡ completions (departs (effect q s).move s.packets)
heard-departed (opening st psn) s = refl
heard-departed (posting m) s = refl
heard-departed (emitting n b) s = refl
heard-departed (acknowledging r y b) s = heard-outcome (acknowledge r y s) s b
heard-departed (responding r o l b) s = heard-outcome (response r s) s b
heard-departed (ticking e b) s = heard-outcome (timer e s) s b
heard-departed (closing b) s = heard-outcome (closing_all (length s.packets)) s b
