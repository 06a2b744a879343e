-- Acknowledgements: ACK, NAK, RNR.
use Rattle.std.specs.Prelude.{Bool, not, ◌&&◌, List, [], ◌∷◌, ℕ, ◌-◌, ◌*◌, ltb, leb, eqb, length, get_or, if◌then◌else◌}
use Rattle.psn.specs.Psn.{distance, next}
use Rattle.rules.specs.declared.Settings.{Settings}
use Rattle.rules.specs.declared.Standing.{Standing}
use Rattle.rules.specs.declared.Answer.TheVariants.{Done, Resending, Held, Ended}
use Rattle.rules.specs.Account.{Side, U, H, updated}
use Rattle.rules.specs.Ranges.{top_bits, low_bits}
use Rattle.rules.specs.declared.Outcome.{Outcome}
use Rattle.rules.specs.Outcome.{dropped, ended_standing}
use Rattle.rules.specs.declared.Release.{Release}
use Rattle.rules.specs.Release.{release}

-- "An event for PSN R .. answers "dropped", nothing changed, unless the distance U to R is less than U to H."
abbrev pub inside : ℕ → Side → Bool
inside r s = ltb (distance (U s) r) (distance (U s) (H s))

-- "X becomes U, elapsed 0"; the counts left and the hold as given
abbrev pub back_to_u : ℕ → ℕ → ℕ → Standing → Standing
back_to_u retries rnrs hold t =
    let l = t.line in
    updated (record { u = l.u; x = l.u; h = l.h; n = l.n }) (record { retries = retries; rnrs = rnrs; elapsed = 0; hold = hold }) t

-- a release, and then "X becomes U, elapsed 0, "resending""
abbrev pub resending : Release → Outcome
resending g =
    let c = g.standing.clock in
    record { answer = Resending; released = g.released; flushed = 0; standing = back_to_u c.retries c.rnrs c.hold g.standing }

-- after the release of "Syndrome top bits 000, ACK: release before R + 1. If stopped, X becomes U, elapsed 0, answer "resending"; else "done"."
abbrev pub ack : Release → Outcome
ack g =
    if g.stopped
    then resending g
    else record { answer = Done; released = g.released; flushed = 0; standing = g.standing }

-- "011 code 3 (remote operational): release before R, then end the pair, "ended"."
abbrev pub ended_after : ℕ → Release → Outcome
ended_after held g = record { answer = Ended; released = g.released; flushed = held - g.released; standing = ended_standing g.standing }

-- "001, RNR: release before R. With RNR retry set below 7: a count of 0 ends the pair, "ended"; a higher one drops by one. Unless ended, X becomes U,
-- elapsed 0, hold for the wait of the low five bits (replacing any hold), "held"."
abbrev pub rnr : Settings → ℕ → ℕ → Release → Outcome
rnr s wait held g =
    let c = g.standing.clock in
    let counts = ltb s.rnr 7 in
    let left = if counts then c.rnrs - 1 else c.rnrs in
    if counts && eqb c.rnrs 0
    then ended_after held g
    else record { answer = Held; released = g.released; flushed = 0; standing = back_to_u c.retries left wait g.standing }

-- "The thirty-two RNR waits, IB, in units of 10,000 ns, codes 0 to 31"
abbrev pub waits : List ℕ
waits =
    65536 ∷ 1 ∷ 2 ∷ 3 ∷ 4 ∷ 6 ∷ 8 ∷ 12 ∷ 16 ∷ 24 ∷ 32 ∷ 48 ∷ 64 ∷ 96 ∷ 128 ∷ 192
    ∷ 256 ∷ 384 ∷ 512 ∷ 768 ∷ 1024 ∷ 1536 ∷ 2048 ∷ 3072 ∷ 4096 ∷ 6144 ∷ 8192 ∷ 12288 ∷ 16384 ∷ 24576 ∷ 32768 ∷ 49152
    ∷ []

abbrev pub wait_of : ℕ → ℕ
wait_of low = 10000 * get_or waits low 0

-- by the syndrome's top bits; one that is none of these was refused, by 3. "credits (an ACK's low five bits are ignored)". `releasing b` is the release before b.
-- "011, NAK codes 0 (sequence), 1 (invalid request), 2 (remote access), all recoverable as in 003: release before R, X becomes U, elapsed 0, "resending"."
abbrev pub answered : Settings → ℕ → ℕ → ℕ → (ℕ → Release) → Outcome
answered s r syndrome held releasing =
    let low = low_bits syndrome in
    if eqb (top_bits syndrome) 0 then ack (releasing (next r))
    else if eqb (top_bits syndrome) 1 then rnr s (wait_of low) held (releasing r)
    else if leb low 2 then resending (releasing r)
    else ended_after held (releasing r)

unfoldable pub acknowledge : ℕ → ℕ → Side → Outcome
acknowledge r syndrome s =
    if not (inside r s) then dropped s
    else answered s.standing.settings r syndrome (length s.packets) (λ b. release b s)
