-- The body of every call is the rules' call: any tables, any arguments, any buffers.
use Rattle.std.specs.Prelude.{Option, None, Some, Err}
use mathlib.Core.Path.{◌≡◌, refl, sym, ap, ◌∙◌}
use mathlib.Core.Bool.{true, not}
use mathlib.Core.List.{List, ◌∷◌}
use Prim.Native.Nat.{ℕ}
use lib.ListN.{length}
use Rattle.refusal.specs.Refusals.{◌gives◌, first_given}
use Rattle.refusal.specs.declared.Refusal.{Refusal}
use Rattle.refusal.specs.declared.Refusal.TheVariants.{Audit}
use Rattle.refusal.proofs.Cases.{by-test}
use Rattle.refusal.proofs.Given.{by-given, some-not-none}
use Rattle.rules.specs.declared.Pair.{Pair}
use Rattle.rules.specs.Account.{Side}
use Rattle.rules.specs.Calls.{effect, call}
use Rattle.rules.specs.Card.{small}
use Rattle.rules.specs.Passes.Tables.{passes}
use Rattle.rules.specs.Refusals.{refusals}
use Rattle.rules.specs.Requests.{Request, lent}
use Rattle.rules.specs.Slots.{Tables, pair_at, side, sides}
use Rattle.rules.proofs.Calls.Accepted.{Accepted, accepted}
use Rattle.rules.proofs.Calls.Moves.{side-at}
use Rattle.rules.proofs.Passes.Decided.{sound}
use Rattle.audit.specs.Loops.{audited}
use Rattle.audit.proofs.Decided.{audited-is, claimed-is}
use Rattle.engine.specs.declared.Ask.{Ask}
use Rattle.engine.specs.declared.Ask.TheVariants as ask
use Rattle.engine.specs.Asked.{asked, lent_of, numbers_after, bytes_after}
use Rattle.engine.specs.Refusing.{refusal_of}
use Rattle.engine.specs.Planning.{resting, accepted_plan, plan_of}
use Rattle.engine.specs.Body.{acted, scan_of, plan_for, body, ruled}
use Rattle.engine.proofs.Scanned.{scan-is}
use Rattle.engine.proofs.Refusals.{refusal_is}
use Rattle.engine.proofs.Plans.{refused-leaves}
use Rattle.engine.proofs.Accepting.{done_with, accepted-is}

-- a buffer that nothing was said of is as it was
numbers-kept : (q : Ask) (done out : List ℕ) → numbers_after q (lent (asked q (lent_of q done out))) done ≡ done
numbers-kept (ask.Open st first) done out = refl
numbers-kept (ask.Post m) done out = refl
numbers-kept (ask.Emit budget) done out = refl
numbers-kept (ask.Acknowledge r y) done out = refl
numbers-kept (ask.Respond r o n) done out = refl
numbers-kept (ask.Tick e) done out = refl
numbers-kept ask.Close done out = refl

bytes-kept : (q : Ask) (done out : List ℕ) → bytes_after q (lent (asked q (lent_of q done out))) out ≡ out
bytes-kept (ask.Open st first) done out = refl
bytes-kept (ask.Post m) done out = refl
bytes-kept (ask.Emit budget) done out = refl
bytes-kept (ask.Acknowledge r y) done out = refl
bytes-kept (ask.Respond r o n) done out = refl
bytes-kept (ask.Tick e) done out = refl
bytes-kept ask.Close done out = refl

module _ (at : ℕ) (q : Ask) (t : Tables) (done out : List ℕ) where
  abbrev pr : Pair
  pr = pair_at t.pairs at

  abbrev rq : Request
  rq = asked q (lent_of q done out)

  -- the refusal that the rules give, if any
  given : Option Refusal
  given = first_given (not (passes small t) gives Audit ∷ refusals small rq at (sides t))

  given-is : refusal_of (audited t) at pr (scan_of at q t) q (lent_of q (length done) (length out)) ≡ given
  unfolding given scan_of
  given-is =
      refusal_is t at (audited t) (audited-is t) (claimed-is t) q (scan_of at q t)
      (λ ok. (scan-is t.slots (audited t) pr q ok).0) (λ ok. (scan-is t.slots (audited t) pr q ok).1) done out

  -- ---- refused

  plan-refused : (r : Refusal) → given ≡ Some r → plan_for at q t done out ≡ resting pr t.ends (Err r) pr.standing
  unfolding plan_for plan_of
  plan-refused r e = rw (given-is, e)

  ruled-refused : (r : Refusal) → given ≡ Some r → ruled at q t done out ≡ record { reply = Err r; tables = t; numbers = done; bytes = out }
  unfolding ruled call given
  ruled-refused r e =
      rw e (λ i. record { reply = Err r; tables = t; numbers = numbers-kept q done out i; bytes = bytes-kept q done out i })

  -- ---- accepted

  plan-accepted : given ≡ None → plan_for at q t done out ≡ accepted_plan pr t.ends (scan_of at q t) q
  unfolding plan_for plan_of
  plan-accepted e = rw (given-is, e)

  passed : given ≡ None → passes small t ≡ true
  unfolding given
  passed e = by-test (passes small t) (λ p. p) (λ p. some-not-none (rw p at e))

  taken : given ≡ None → Accepted small rq at (sides t)
  unfolding given
  taken e = accepted small rq at (sides t) (rw (passed e) at e)

  ruled-accepted : given ≡ None → ruled at q t done out ≡ done_with at q t done out (effect rq (side t at))
  unfolding ruled call given
  ruled-accepted e = rw e (ap (λ (s : Side). done_with at q t done out (effect rq s)) (side-at t at))

  acted-accepted : given ≡ None
      → acted at t done out (accepted_plan pr t.ends (scan_of at q t) q) ≡ done_with at q t done out (effect rq (side t at))
  unfolding scan_of
  acted-accepted e =
      let ok = audited-is t ∙ passed e in
      accepted-is at t done out (sound small t (passed e)) (taken e).pair q (scan_of at q t)
      (scan-is t.slots (audited t) pr q ok).0 (scan-is t.slots (audited t) pr q ok).1 (taken e)

  -- answer, every record of the tables and every byte and number of both buffers
  pub body_is : body at q t done out ≡ ruled at q t done out
  unfolding body
  body_is =
      by-given given
      (λ e. ap (acted at t done out) (plan-accepted e) ∙ acted-accepted e ∙ sym (ruled-accepted e))
      (λ r e. ap (acted at t done out) (plan-refused r e) ∙ refused-leaves at t done out r pr.standing ∙ sym (ruled-refused r e))
