-- "A number that is too wide for its argument is an argument out of its range: refusal 3 in its place in the order": cutting a number changes nothing
-- else.
use mathlib.Core.Path.{◌≡◌, refl, sym, ap, ◌∙◌}
use mathlib.Core.Bool.{Bool, true, false, cond, true≢false, ◌&&◌}
use mathlib.Core.List.{List, [], ◌∷◌}
use Prim.Native.Nat.{ℕ, ◌≤◌}
use native.Mathlib.Omega.{arith}
use lib.Dec.{ltb, leb, eqb}
use lib.ListN.{get_or}
use borrow.Author.Tests.{ltb-true, ltb-false, le-ltb}
use Rattle.std.specs.Prelude.{Option, None, Some}
use Rattle.refusal.specs.declared.Refusal.{Refusal}
use Rattle.refusal.specs.declared.Refusal.TheVariants.{Pair, State, Range}
use Rattle.refusal.specs.Numbers.{number}
use Rattle.refusal.specs.Choice.{any_of, Each}
use Rattle.refusal.specs.Refusals.{first_given}
use Rattle.refusal.proofs.Cases.{by-test, or_left, or_right}
use Rattle.text.specs.declared.Ask.{Ask}
use Rattle.text.specs.declared.Ask.TheVariants.{Nothing, Unread, Fresh, Open, Post, Emit, Ack, Response, Timer, Close, Room, Show, Free, Write, Read}
use Rattle.rules.specs.Card.{small}
use Rattle.rules.specs.Account.{Side}
use Rattle.rules.specs.Ranges.{settings_faults, bad_settings, bad_psn, post_faults, bad_post, bad_budget, bad_syndrome, bad_response}
use Rattle.rules.specs.Refusals.{side_at, wrong_state, out_of_range, refusals}
use Rattle.engine.specs.declared.Ask as engine
use Rattle.engine.specs.declared.Ask.TheVariants as asks
use Rattle.engine.specs.Asked.{asked}
use Rattle.orders.specs.Ordered.{largest, cut, settings_of, post_of, post_wide, ask_of}
use Rattle.orders.specs.Widths.{written, too_wide}

abbrev AllFalse : List Bool → Type 0
AllFalse ts = Each (λ (t : Bool). t ≡ false) ts

none : (ts : List Bool) → any_of ts ≡ false → AllFalse ts
none [] e = tt
none (t ∷ ts) e = (or_left t (any_of ts) e, none ts (or_right t (any_of ts) e))

-- ---- where no number is too wide

cut-same : (n : ℕ) → ltb largest n ≡ false → cut n ≡ n
cut-same n h = omega (arith, ltb-false largest n h)

value_same : (t : Bool) (n : ℕ) → t && ltb largest n ≡ false → cond t (cut n) 0 ≡ cond t n 0
value_same true n h = cut-same n h
value_same false n h = refl

-- a call is just its numbers
pub narrow-written : (w : Ask) (a : List ℕ) → AllFalse (too_wide w a) → ask_of w a ≡ written w a
narrow-written Open a f =
    λ i. Some
    (asks.Open
    record {
      far = cut-same (get_or a 1 0) f.0 i;
      pkey = cut-same (get_or a 3 0) f.1.1.0 i;
      pmtu = cut-same (get_or a 4 0) f.1.1.1.0 i;
      share = cut-same (get_or a 5 0) f.1.1.1.1.0 i;
      ceiling = cut-same (get_or a 6 0) f.1.1.1.1.1.0 i;
      retry = cut-same (get_or a 7 0) f.1.1.1.1.1.1.0 i;
      rnr = cut-same (get_or a 8 0) f.1.1.1.1.1.1.1.0 i;
      timeout = cut-same (get_or a 9 0) f.1.1.1.1.1.1.1.1.0 i;
    }
    (cut-same (get_or a 2 0) f.1.0 i))
narrow-written Post a f =
    let p = none (ltb largest (get_or a 1 0) ∷ ltb 1 (get_or a 3 0) ∷ (eqb (get_or a 3 0) 1 && ltb largest (get_or a 4 0)) ∷ ltb 1 (get_or a 5 0) ∷ ltb largest (get_or a 9 0) ∷ []) f.0 in
    let kind : (post_of a).kind ≡ get_or a 2 0 = rw f.0 (cut-same (get_or a 2 0) f.1.0) in
    λ i. Some
    (asks.Post
    record {
      kind = kind i;
      immediate = eqb (get_or a 3 0) 1;
      fenced = eqb (get_or a 5 0) 1;
      ticket = cut-same (get_or a 1 0) p.0 i;
      offset = get_or a 7 0;
      length = cut-same (get_or a 6 0) f.1.1.0 i;
      address = get_or a 8 0;
      key = cut-same (get_or a 9 0) p.1.1.1.1.0 i;
      value = value_same (eqb (get_or a 3 0) 1) (get_or a 4 0) p.1.1.0 i;
    })
narrow-written Emit a f = ap (λ (n : ℕ). Some (asks.Emit n)) (cut-same (get_or a 1 0) f.0)
narrow-written Ack a f = λ i. Some (asks.Acknowledge (cut-same (get_or a 1 0) f.0 i) (cut-same (get_or a 2 0) f.1.0 i))
narrow-written Response a f =
    let psn : cond (ltb largest (get_or a 3 0)) largest (cut (get_or a 1 0)) ≡ get_or a 1 0 = rw f.1.1.0 (cut-same (get_or a 1 0) f.0) in
    λ i. Some (asks.Respond (psn i) (cut-same (get_or a 2 0) f.1.0 i) (cut-same (get_or a 3 0) f.1.1.0 i))
narrow-written Timer a f = refl
narrow-written Close a f = refl
narrow-written Nothing a f = refl
narrow-written Unread a f = refl
narrow-written Fresh a f = refl
narrow-written Room a f = refl
narrow-written Show a f = refl
narrow-written Free a f = refl
narrow-written Write a f = refl
narrow-written Read a f = refl

-- ---- where one is

cut-over : (n : ℕ) → ltb largest n ≡ true → cut n ≡ largest
cut-over n h = omega (arith, ltb-true largest n h)

-- what would refuse the largest number lets no wide one by
narrow-by : (bad : ℕ → Bool) (n : ℕ) → bad largest ≡ true → bad (cut n) ≡ false → ltb largest n ≡ false
narrow-by bad n full h = by-test (ltb largest n) (λ t. absurd (true≢false (sym full ∙ ap bad (sym (cut-over n t)) ∙ h))) (λ t. t)

both_by : (bad : ℕ → Bool) (t : Bool) (n : ℕ) → bad largest ≡ true → bad (cond t largest (cut n)) ≡ false → (t ≡ false) × (ltb largest n ≡ false)
both_by bad true n full h = absurd (true≢false (sym full ∙ h))
both_by bad false n full h = (refl, narrow-by bad n full h)

share-by : (share ceiling : ℕ) → ltb (cut ceiling) (cut share) ≡ false → ltb 256 (cut ceiling) ≡ false → ltb largest share ≡ false
share-by share ceiling h k = le-ltb largest share (omega (arith, ltb-false (cut ceiling) (cut share) h, ltb-false 256 (cut ceiling) k))

-- is a call out of its ranges?
abbrev ranged : Option engine.Ask → List ℕ → Bool
ranged None b = false
ranged (Some q) b = out_of_range small (asked q b)

-- a call in its ranges has no number that is too wide
pub in-range-narrow : (w : Ask) (a b : List ℕ) → ranged (ask_of w a) b ≡ false → AllFalse (too_wide w a)
unfolding bad_settings bad_post
in-range-narrow Open a b h =
    let f = none (settings_faults small (settings_of a)) (or_left (any_of (settings_faults small (settings_of a))) (bad_psn (cut (get_or a 2 0))) h) in
    let psn = or_right (any_of (settings_faults small (settings_of a))) (bad_psn (cut (get_or a 2 0))) h in (
      narrow-by bad_psn (get_or a 1 0) refl f.0,
      (
        narrow-by bad_psn (get_or a 2 0) refl psn,
        (
          narrow-by (leb 65536) (get_or a 3 0) refl f.1.0,
          (
            narrow-by (ltb 5) (get_or a 4 0) refl f.1.1.1.0,
            (
              share-by (get_or a 5 0) (get_or a 6 0) f.1.1.1.1.1.0 f.1.1.1.1.1.1.0,
              (
                narrow-by (ltb 256) (get_or a 6 0) refl f.1.1.1.1.1.1.0,
                (
                  narrow-by (ltb 7) (get_or a 7 0) refl f.1.1.1.1.1.1.1.0,
                  (
                    narrow-by (ltb 7) (get_or a 8 0) refl f.1.1.1.1.1.1.1.1.0,
                    (
                      narrow-by (ltb 31) (get_or a 9 0) refl f.1.1.1.1.1.1.1.1.1.0,
                      tt,
                    ),
                  ),
                ),
              ),
            ),
          ),
        ),
      ),
    )
in-range-narrow Post a b h =
    let f = none (post_faults (post_of a)) h in
    let kind = both_by (ltb 2) (post_wide a) (get_or a 2 0) refl f.0 in
    (kind.0, (kind.1, (narrow-by (leb 2147483648) (get_or a 6 0) refl f.1.1.0, tt)))
in-range-narrow Emit a b h = (narrow-by bad_budget (get_or a 1 0) refl h, tt)
in-range-narrow Ack a b h = (
  narrow-by bad_psn (get_or a 1 0) refl (or_left (bad_psn (cut (get_or a 1 0))) (bad_syndrome (cut (get_or a 2 0))) h),
  (narrow-by bad_syndrome (get_or a 2 0) refl (or_right (bad_psn (cut (get_or a 1 0))) (bad_syndrome (cut (get_or a 2 0))) h), tt),
)
in-range-narrow Response a b h =
    let r = cond (ltb largest (get_or a 3 0)) largest (cut (get_or a 1 0)) in
    let psn = both_by bad_psn (ltb largest (get_or a 3 0)) (get_or a 1 0) refl (or_left (bad_psn r) (bad_response (cut (get_or a 2 0))) h) in
    (psn.1, (narrow-by bad_response (get_or a 2 0) refl (or_right (bad_psn r) (bad_response (cut (get_or a 2 0))) h), (psn.0, tt)))
in-range-narrow Timer a b h = tt
in-range-narrow Close a b h = tt
in-range-narrow Nothing a b h = tt
in-range-narrow Unread a b h = tt
in-range-narrow Fresh a b h = tt
in-range-narrow Room a b h = tt
in-range-narrow Show a b h = tt
in-range-narrow Free a b h = tt
in-range-narrow Write a b h = tt
in-range-narrow Read a b h = tt

all_none : (ts : List Bool) → AllFalse ts → any_of ts ≡ false
all_none [] f = refl
all_none (t ∷ ts) f = rw f.0 (all_none ts f.1)

first_three : (s t : Bool) → (r : Refusal) × ((cond s (Some Pair) (cond t (Some State) (Some Range)) ≡ Some r) × ((1 ≤ number r) × (number r ≤ 3)))
first_three true t = (Pair, (refl, (omega arith, omega arith)))
first_three false true = (State, (refl, (omega arith, omega arith)))
first_three false false = (Range, (refl, (omega arith, omega arith)))

-- so one that has is a call that is refused, by 3 or by what comes before it
pub wide-refused : (w : Ask) (a b : List ℕ) (p : ℕ) (sides : List Side) → any_of (too_wide w a) ≡ true
    → (q : engine.Ask) × ((ask_of w a ≡ Some q)
    × ((r : Refusal) × ((first_given (refusals small (asked q b) p sides) ≡ Some r) × ((1 ≤ number r) × (number r ≤ 3)))))
wide-refused w a b p sides h =
    go (ask_of w a) (by-test (ranged (ask_of w a) b) (λ t. t) (λ t. absurd (true≢false (sym h ∙ all_none (too_wide w a) (in-range-narrow w a b t)))))
  where
    go : (o : Option engine.Ask) → ranged o b ≡ true
        → (q : engine.Ask) × ((o ≡ Some q) × ((r : Refusal) × ((first_given (refusals small (asked q b) p sides) ≡ Some r) × ((1 ≤ number r) × (number r ≤ 3)))))
    go None out = absurd (true≢false (sym out))
    go (Some q) out = (q, (refl, rw out (first_three (leb 64 p) (wrong_state (asked q b) (side_at sides p).standing.state))))
