-- What the tests for 3 and 5 say where they fail, as inequalities.
use mathlib.Core.Path.{◌≡◌, refl}
use mathlib.Core.Bool.{Bool, true, false, ◌&&◌, true≢false}
use mathlib.Core.List.{List, [], ◌∷◌}
use Prim.Native.Nat.{◌+◌, ◌^◌, ◌≤◌, ◌<◌}
use native.Mathlib.Omega.{arith}
use lib.Dec.{eqb, ltb}
use borrow.Author.Tests.{ltb-true, ltb-false, leb-false, eqb-true, eq-eqb, lt-ltb, lt-leb, le-ltb}
use Rattle.refusal.proofs.Cases.{by-test}
use Rattle.psn.specs.Psn.{psns}
use Rattle.refusal.specs.Choice.{any_of}
use Rattle.rules.specs.declared.Settings.{Settings}
use Rattle.rules.specs.declared.Post.{Post}
use Rattle.rules.specs.Card.{Card}
use Rattle.rules.specs.Message.{slots_for}
use Rattle.rules.specs.Ranges.{settings_faults, bad_settings, post_faults, bad_post}
use Rattle.rules.specs.WholeMessages.{Allowed}

abbrev NoneOf : List Bool → Type 0
NoneOf [] = Unit {0}
NoneOf (t ∷ ts) = (t ≡ false) × NoneOf ts

none_of : (ts : List Bool) → any_of ts ≡ false → NoneOf ts
none_of [] e = tt
none_of (true ∷ ts) e = absurd (true≢false e)
none_of (false ∷ ts) e = (refl, none_of ts e)

pub record InRange (card : Card) (s : Settings) : Type 0 where
  pub far : s.far < psns
  pub pkey : s.pkey < 2 ^ 16
  pub pmtu-low : 1 ≤ s.pmtu
  pub pmtu-high : s.pmtu ≤ 5
  pub share-low : 1 ≤ s.share
  pub share-high : s.share ≤ s.ceiling
  pub ceiling : s.ceiling ≤ card.slots
  pub retry : s.retry ≤ 7
  pub rnr : s.rnr ≤ 7
  pub timeout : s.timeout ≤ 31

pub in-range : {card : Card} {s : Settings} → bad_settings card s ≡ false → InRange card s
unfolding bad_settings
in-range {card} {s} e = let h = none_of (settings_faults card s) e in omega (arith, ltb-false, leb-false)

pub record Permitted (s : Settings) (m : Post) : Type 0 where
  pub kind : m.kind ≤ 2
  pub plain-read : m.kind ≡ 2 → m.immediate ≡ false
  pub short : m.length < 2 ^ 31
  pub offset : m.offset < 2 ^ 32
  pub fits : m.offset + m.length ≤ 2 ^ 32
  pub reach : 0 < m.kind → 0 < m.length → m.address + m.length ≤ 2 ^ 64
  pub room : slots_for s m ≤ s.ceiling

pub permitted : {s : Settings} {m : Post} → Allowed s m → Permitted s m
unfolding bad_post
permitted {s} {m} a =
    let h = none_of (post_faults m) a.in-range in
    record {
      kind = ltb-false 2 m.kind h.0;
      plain-read = λ k. rw (eq-eqb m.kind 2 k) at h.1.0;
      short = leb-false (2 ^ 31) m.length h.1.1.0;
      offset = leb-false (2 ^ 32) m.offset h.1.1.1.0;
      fits = ltb-false (2 ^ 32) (m.offset + m.length) h.1.1.1.1.0;
      reach =
          λ k l. ltb-false (2 ^ 64) (m.address + m.length) (rw (lt-ltb 0 m.kind k, lt-ltb 0 m.length l) at h.1.1.1.1.1.0);
      room = ltb-false s.ceiling (slots_for s m) a.in-ceiling;
    }

-- and back
fail-all : (ts : List Bool) → NoneOf ts → any_of ts ≡ false
fail-all [] h = refl
fail-all (t ∷ ts) h = rw h.0 (fail-all ts h.1)

pub allow : {s : Settings} {m : Post} → Permitted s m → Allowed s m
unfolding bad_post
allow {s} {m} a =
    record {
      in-range =
          fail-all (post_faults m) (
            le-ltb 2 m.kind a.kind,
            (
              read,
              (
                lt-leb (2 ^ 31) m.length a.short,
                (
                  lt-leb (2 ^ 32) m.offset a.offset,
                  (
                    le-ltb (2 ^ 32) (m.offset + m.length) a.fits,
                    (
                      reach,
                      tt,
                    ),
                  ),
                ),
              ),
            ),
          );
      in-ceiling = le-ltb s.ceiling (slots_for s m) a.room;
    }
  where
    read : (eqb m.kind 2 && m.immediate) ≡ false
    read = by-test (eqb m.kind 2) (λ e. rw (e, a.plain-read (eqb-true m.kind 2 e))) (λ e. rw e)

    reach : (ltb 0 m.kind && ltb 0 m.length && ltb (2 ^ 64) (m.address + m.length)) ≡ false
    reach =
        by-test (ltb 0 m.kind)
        (λ e.
        by-test (ltb 0 m.length)
        (λ f. rw (e, f, le-ltb (2 ^ 64) (m.address + m.length) (a.reach (ltb-true 0 m.kind e) (ltb-true 0 m.length f))))
        (λ f. rw (e, f)))
        (λ e. rw e)
