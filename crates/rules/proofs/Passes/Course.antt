-- The walk over the PSNs passes exactly if the audit's order bullet holds.
use Rattle.std.specs.Prelude.{Option, None, Some, if◌then◌else◌}
use mathlib.Core.Path.{◌≡◌, refl, sym, ap, ◌∙◌}
use mathlib.Core.Logic.{◌↔◌}
use mathlib.Core.Bool.{Bool, true, false, ◌||◌, false≢true}
use mathlib.Core.List.{List, [], ◌∷◌}
use Prim.Native.Nat.{ℕ, ◌+◌, ◌-◌, ◌≤◌, ◌<◌}
use native.Mathlib.Omega.{arith}
use lib.Dec.{eqb, leb}
use borrow.Author.Tests.{ltb-true, leb-true, eqb-true, eqb-false, eq-eqb, ne_eqb, lt-ltb, le-leb}
use Rattle.rules.specs.declared.Packet.{Packet}
use Rattle.rules.specs.declared.Settings.{Settings}
use Rattle.rules.specs.declared.Line.{Line}
use Rattle.rules.specs.declared.Standing.{Standing}
use Rattle.rules.specs.declared.carried.Course.{Course}
use Rattle.psn.specs.Psn.{psns, half, distance}
use Rattle.rules.specs.Message.{span}
use Rattle.rules.specs.Order.{◌or◌, left, right, Past, Start}
use Rattle.rules.specs.Passes.Course.{course_from, onward, first_fits, next_fits, course_step, stands, line_fits, course_ends}
use Rattle.rules.specs.Passes.Tests.{◌and◌}
use Rattle.rules.proofs.Sides.InOrder.{RunsLow, StartsLow, InOrder}
use Rattle.std.proofs.lemmas.Option.{same_Some}
use Rattle.refusal.proofs.Cases.{by-test}
use Rattle.refusal.proofs.Given.{some-not-none}
use Rattle.rules.proofs.Passes.Tests.{both, joined}

-- the walk over a list of records
abbrev pub coursed : Settings → Line → Option Course → List Packet → Option Course
coursed s l w [] = w
coursed s l w (p ∷ ps) = coursed s l (course_step s l w p) ps

either : (a b : Bool) → a || b ≡ true → (a ≡ true) or (b ≡ true)
either true b e = left refl
either false b e = right e

or_left : (a b : Bool) → a ≡ true → a || b ≡ true
or_left a b e = rw e

or_right : (a b : Bool) → b ≡ true → a || b ≡ true
or_right true b e = refl
or_right false b e = e

-- a was a record's start before, or is one of these
abbrev pub Seen : Bool → ℕ → List Packet → Type 0
Seen b a ps = (b ≡ true) or Start a ps

module _ (s : Settings) (l : Line) where
  none-stays : (ps : List Packet) → coursed s l None ps ≡ None
  none-stays [] = refl
  none-stays (p ∷ ps) = none-stays ps

  kept : (t : Bool) (w c : Course) (ps : List Packet) → coursed s l (if t then Some w else None) ps ≡ Some c
      → (t ≡ true) × (coursed s l (Some w) ps ≡ Some c)
  kept true w c ps e = (refl, e)
  kept false w c ps e = some-not-none (sym e ∙ none-stays ps)

  seen_step : (b : Bool) (a : ℕ) (p : Packet) (ps : List Packet) → Seen (b || eqb a p.psn) a ps → Seen b a (p ∷ ps)
  seen_step b a p ps (right q) = right (right q)
  seen_step b a p ps (left e) = go (either b (eqb a p.psn) e)
    where
      go : (b ≡ true) or (eqb a p.psn ≡ true) → (b ≡ true) or Start a (p ∷ ps)
      go (left e) = left e
      go (right e) = right (left (eqb-true a p.psn e))

  seen_back : (b : Bool) (a : ℕ) (p : Packet) (ps : List Packet) → Seen b a (p ∷ ps) → Seen (b || eqb a p.psn) a ps
  seen_back b a p ps (left e) = left (or_left b (eqb a p.psn) e)
  seen_back b a p ps (right (left e)) = left (or_right b (eqb a p.psn) (eq-eqb a p.psn e))
  seen_back b a p ps (right (right q)) = right q

  -- ---- after the first record

  next-step : (w : Course) → 1 ≤ w.place → (p : Packet)
      → course_step s l (Some w) p ≡ (if next_fits l w p then Some (onward l (w.place + span s p) w p) else None)
  next-step w h p = rw (ne_eqb w.place 0 (λ e. omega arith))

  pub record Went (w c : Course) (ps : List Packet) : Type 0 where
    pub runs : RunsLow (span s) l.u w.place ps l.n
    pub x : c.x ≡ true → Seen w.x l.x ps
    pub h : c.h ≡ true → Seen w.h l.h ps

  went : (w c : Course) (ps : List Packet) → 1 ≤ w.place → coursed s l (Some w) ps ≡ Some c → c.place ≡ distance l.u l.n → Went w c ps
  went w c [] h e d =
      let q = same_Some w c e in
      record {
        runs = ap (λ (v : Course). v.place) q ∙ d;
        x = λ g. left (ap (λ (v : Course). v.x) q ∙ g);
        h = λ g. left (ap (λ (v : Course). v.h) q ∙ g);
      }
  went w c (p ∷ ps) h e d =
      let on = onward l (w.place + span s p) w p in
      let k = kept (next_fits l w p) on c ps (ap (λ (o : Option Course). coursed s l o ps) (sym (next-step w h p)) ∙ e) in
      let r = went on c ps (omega arith) k.1 d in
      record {
        runs = (ltb-true p.psn psns (both k.0).0, eqb-true (distance l.u p.psn) w.place (both k.0).1, r.runs);
        x = λ g. seen_step w.x l.x p ps (r.x g);
        h = λ g. seen_step w.h l.h p ps (r.h g);
      }

  pub record Arrived (w : Course) (ps : List Packet) : Type 0 where
    pub end : Course
    pub is : coursed s l (Some w) ps ≡ Some end
    pub place : end.place ≡ distance l.u l.n
    pub x : Seen w.x l.x ps → end.x ≡ true
    pub h : Seen w.h l.h ps → end.h ≡ true

  arrived : (w : Course) (ps : List Packet) → 1 ≤ w.place → RunsLow (span s) l.u w.place ps l.n → Arrived w ps
  arrived w [] h r = record { end = w; is = refl; place = r; x = here w.x; h = here w.h }
    where
      here : (b : Bool) → (b ≡ true) or ⊥ → b ≡ true
      here b (left e) = e
      here b (right n) = elim n [ ]
  arrived w (p ∷ ps) h r =
      let a = arrived (onward l (w.place + span s p) w p) ps (omega arith) r.2 in
      record {
        end = a.end;
        is = ap (λ (o : Option Course). coursed s l o ps) step ∙ a.is;
        place = a.place;
        x = λ g. a.x (seen_back w.x l.x p ps g);
        h = λ g. a.h (seen_back w.h l.h p ps g);
      }
    where
      step : course_step s l (Some w) p ≡ Some (onward l (w.place + span s p) w p)
      step = next-step w h p ∙ rw (joined (lt-ltb p.psn psns r.0) (eq-eqb (distance l.u p.psn) w.place r.1))

  -- ---- from the first record on

  -- after the first record
  abbrev first : Packet → Course
  first p = record { place = span s p - distance p.psn l.u; x = eqb l.x p.psn; h = eqb l.h p.psn }

  pub record Good (c : Course) (ps : List Packet) : Type 0 where
    pub starts : StartsLow (span s) l.u ps l.n
    pub past : Past (span s) l.u l.h ps
    pub x : c.x ≡ true → Start l.x ps
    pub h : c.h ≡ true → Start l.h ps

  only : (a : ℕ) (ps : List Packet) → Seen false a ps → Start a ps
  only a ps (left e) = absurd (false≢true e)
  only a ps (right q) = q

  good : (c : Course) (ps : List Packet) → coursed s l course_from ps ≡ Some c → c.place ≡ distance l.u l.n → Good c ps
  good c [] e d =
      let q = same_Some _ c e in
      record {
        starts = ap (λ (v : Course). v.place) q ∙ d;
        past = tt;
        x = λ g. absurd (false≢true (ap (λ (v : Course). v.x) q ∙ g));
        h = λ g. absurd (false≢true (ap (λ (v : Course). v.h) q ∙ g));
      }
  good c (p ∷ ps) e d =
      let k = kept (first_fits s l p) (first p) c ps e in
      let b = both (both k.0).1 in
      let lt = ltb-true (distance p.psn l.u) (span s p) b.0 in
      let r = went (first p) c ps (omega (arith, lt)) k.1 d in
      record {
        starts = (ltb-true p.psn psns (both k.0).0, lt, r.runs);
        past = λ k. past k (either (eqb (distance p.psn l.u) 0) (leb (span s p - distance p.psn l.u) (distance l.u l.h)) b.1);
        x = λ g. only l.x (p ∷ ps) (seen_step false l.x p ps (r.x g));
        h = λ g. only l.h (p ∷ ps) (seen_step false l.h p ps (r.h g));
      }
    where
      past : 0 < distance p.psn l.u → (eqb (distance p.psn l.u) 0 ≡ true) or (leb (span s p - distance p.psn l.u) (distance l.u l.h) ≡ true)
          → span s p - distance p.psn l.u ≤ distance l.u l.h
      past k (left e) = absurd (omega (arith, k, eqb-true (distance p.psn l.u) 0 e))
      past k (right e) = leb-true (span s p - distance p.psn l.u) (distance l.u l.h) e

  pub record Done (ps : List Packet) : Type 0 where
    pub end : Course
    pub is : coursed s l course_from ps ≡ Some end
    pub place : end.place ≡ distance l.u l.n
    pub x : Start l.x ps → end.x ≡ true
    pub h : Start l.h ps → end.h ≡ true

  done : (ps : List Packet) → StartsLow (span s) l.u ps l.n → Past (span s) l.u l.h ps → Done ps
  done [] r k =
      record {
        end = record { place = 0; x = false; h = false };
        is = refl;
        place = r;
        x = λ q. absurd q;
        h = λ q. absurd q;
      }
  done (p ∷ ps) r k =
      let a = arrived (first p) ps (omega (arith, r.1)) r.2 in
      record {
        end = a.end;
        is = ap (λ (b : Bool). coursed s l (if b then Some (first p) else None) ps) fits ∙ a.is;
        place = a.place;
        x = λ g. a.x (seen_back false l.x p ps (right g));
        h = λ g. a.h (seen_back false l.h p ps (right g));
      }
    where
      past : (eqb (distance p.psn l.u) 0 || leb (span s p - distance p.psn l.u) (distance l.u l.h)) ≡ true
      past =
          by-test (eqb (distance p.psn l.u) 0)
          (λ e. rw e)
          (λ e. rw (e, le-leb (span s p - distance p.psn l.u) (distance l.u l.h) (k (omega (arith, eqb-false (distance p.psn l.u) 0 e)))))

      fits : first_fits s l p ≡ true
      fits = joined (lt-ltb p.psn psns r.0) (joined (lt-ltb (distance p.psn l.u) (span s p) r.1) past)

-- ---- the order bullet

stands_of : (l : Line) (a : ℕ) (b : Bool) (ps : List Packet) → (b ≡ true → Start a ps) → stands l a b ≡ true → (a ≡ l.u) or (a ≡ l.n) or Start a ps
stands_of l a b ps f e = go (either (eqb a l.u || eqb a l.n) b e)
  where
    go : ((eqb a l.u || eqb a l.n) ≡ true) or (b ≡ true) → (a ≡ l.u) or (a ≡ l.n) or Start a ps
    go (right q) = right (right (f q))
    go (left q) = on (either (eqb a l.u) (eqb a l.n) q)
      where
        on : (eqb a l.u ≡ true) or (eqb a l.n ≡ true) → (a ≡ l.u) or (a ≡ l.n) or Start a ps
        on (left q) = left (eqb-true a l.u q)
        on (right q) = right (left (eqb-true a l.n q))

stands-is : (l : Line) (a : ℕ) (b : Bool) (ps : List Packet) → (Start a ps → b ≡ true) → (a ≡ l.u) or (a ≡ l.n) or Start a ps → stands l a b ≡ true
stands-is l a b ps f (left e) = or_left (eqb a l.u || eqb a l.n) b (or_left (eqb a l.u) (eqb a l.n) (eq-eqb a l.u e))
stands-is l a b ps f (right (left e)) = or_left (eqb a l.u || eqb a l.n) b (or_right (eqb a l.u) (eqb a l.n) (eq-eqb a l.n e))
stands-is l a b ps f (right (right q)) = or_right (eqb a l.u || eqb a l.n) b (f q)

module _ (t : Standing) (ps : List Packet) where
  pub ordered-passes : (line_fits t.line and course_ends t.line (coursed t.settings t.line course_from ps)) ≡ true ↔ InOrder (record { standing = t; packets = ps })
  ordered-passes = (to, back)
    where
      l : Line
      l = t.line

      c : Option Course
      c = coursed t.settings l course_from ps

      to : (line_fits l and course_ends l c) ≡ true → InOrder (record { standing = t; packets = ps })
      to e = on c refl (both e).1
        where
          on : (o : Option Course) → c ≡ o → course_ends l o ≡ true → InOrder (record { standing = t; packets = ps })
          on None q k = absurd (false≢true k)
          on (Some w) q k =
              let l1 = both (both e).0 in
              let l2 = both l1.1 in
              let l3 = both l2.1 in
              let l4 = both l3.1 in
              let l5 = both l4.1 in
              let l6 = both l5.1 in
              let c1 = both k in
              let c2 = both c1.1 in
              let g = good t.settings l w ps q (eqb-true w.place (distance l.u l.n) c1.0) in
              record {
                u-low = ltb-true l.u psns l1.0;
                x-low = ltb-true l.x psns l2.0;
                h-low = ltb-true l.h psns l3.0;
                n-low = ltb-true l.n psns l4.0;
                starts = g.starts;
                u-x-h = leb-true (distance l.u l.x) (distance l.u l.h) l5.0;
                u-h-n = leb-true (distance l.u l.h) (distance l.u l.n) l6.0;
                near = leb-true (distance l.u l.n) half l6.1;
                x-stands = stands_of l l.x w.x ps g.x c2.0;
                h-stands = stands_of l l.h w.h ps g.h c2.1;
                h-past = g.past;
              }

      back : InOrder (record { standing = t; packets = ps }) → (line_fits l and course_ends l c) ≡ true
      back o =
          let d = done t.settings l ps o.starts o.h-past in
          joined
          (joined (lt-ltb l.u psns o.u-low) (joined (lt-ltb l.x psns o.x-low) (joined (lt-ltb l.h psns o.h-low) (joined (lt-ltb l.n psns o.n-low)
          (joined (le-leb (distance l.u l.x) (distance l.u l.h) o.u-x-h)
          (joined (le-leb (distance l.u l.h) (distance l.u l.n) o.u-h-n) (le-leb (distance l.u l.n) half o.near)))))))
          (ap (course_ends l) d.is ∙ joined (eq-eqb d.end.place (distance l.u l.n) d.place)
          (joined (stands-is l l.x d.end.x ps d.x o.x-stands) (stands-is l l.h d.end.h ps d.h o.h-stands)))
