-- Demand 3 of a host's memory: the tables that the contracts leave are those of the rules' history. And any two results that a contract allows are equal.
use mathlib.Core.Path.{◌≡◌, refl, sym, ap, ◌∙◌}
use mathlib.Core.List.{List, [], ◌∷◌}
use Prim.Native.Nat.{ℕ}
use native.Mathlib.Omega.{arith}
use lib.ListN.{length}
use Rattle.rules.specs.declared.Ends.{Ends}
use Rattle.rules.specs.declared.Pair.{Pair}
use Rattle.std.specs.Prelude.{Result}
use Rattle.refusal.specs.declared.Refusal.{Refusal}
use Rattle.rules.specs.declared.Reply.{Reply}
use Rattle.rules.specs.declared.Slot.{Slot}
use Rattle.rules.specs.Calls.{Said, Step, call}
use Rattle.rules.specs.Card.{small}
use Rattle.rules.specs.History.{Run, run, called}
use Rattle.rules.specs.Requests.{opening, posting, emitting, acknowledging, responding, ticking, closing, Call, starting, on}
use Rattle.rules.specs.Slots.{Tables, fresh}
use Rattle.rules.proofs.Calls.Buffers.{call_buffer}
use Rattle.rules.proofs.Demands.{demand3, starts, harmless}
use Rattle.card.specs.Lent.{lent, Answers, Fills}
use Rattle.card.specs.Memory.{Event, Kept, Handed, last_of, calls, answers, MemoryHolds}

-- ---- one call

-- what a call leaves, as the rules' step
abbrev step_of : Said → Tables → Step Tables
step_of s n = record { said = s; next = n }

filled : (c : Call) (t : Tables) (s : Said) (n : Tables) → Fills c t s.reply n.pairs n.ends n.slots s.buffer → step_of s n ≡ call small c t
filled c t s n (r, (p, (e, (l, b)))) =
    λ i. record { said = record { reply = r i; buffer = b i }; next = record { pairs = p i; ends = e i; slots = l i } }

none : (xs : List ℕ) → length xs ≡ 0 → xs ≡ []
none [] e = refl
none (x ∷ xs) e = absurd (omega (arith, e))

-- a call that lends no buffer answers with none
answered : (c : Call) (t : Tables) (s : Said) (n : Tables) → length (call small c t).said.buffer ≡ 0
    → Answers c t s.reply n.pairs n.ends n.slots × (s.buffer ≡ []) → step_of s n ≡ call small c t
answered c t s n z ((r, (p, (e, l))), b) = filled c t s n (r, (p, (e, (l, b ∙ sym (none _ z)))))

pub kept-is : (c : Call) (t : Tables) (s : Said) (n : Tables) → Kept c t s n → step_of s n ≡ call small c t
kept-is starting t s n k = answered starting t s n (harmless small starting t).as_long k
kept-is (on p (opening st a)) t s n k = answered (on p (opening st a)) t s n (call_buffer small t p (opening st a)) k
kept-is (on p (posting m)) t s n k = answered (on p (posting m)) t s n (call_buffer small t p (posting m)) k
kept-is (on p (emitting b o)) t s n k = filled (on p (emitting b o)) t s n k
kept-is (on p (acknowledging r y b)) t s n k = filled (on p (acknowledging r y b)) t s n k
kept-is (on p (responding r o l b)) t s n k = filled (on p (responding r o l b)) t s n k
kept-is (on p (ticking e b)) t s n k = filled (on p (ticking e b)) t s n k
kept-is (on p (closing b)) t s n k = filled (on p (closing b)) t s n k

-- ---- any calls

abbrev run_of : Tables → List Event → Run Tables
run_of t es = record { said = answers es; last = last_of t es }

abbrev behind : Said → Run Tables → Run Tables
behind s r = record { said = s ∷ r.said; last = r.last }

-- the memory of a host that hands the tables on is the rules' history from the tables it began with
pub handed-is : (es : List Event) (t : Tables) → Handed t es → run_of t es ≡ run (call small) (calls es) t
handed-is [] t h = refl
handed-is (e ∷ es) t (k, h) =
    ap (behind e.said) (handed-is es e.after h)
    ∙ ap (λ (s : Step Tables). behind s.said (run (call small) (calls es) s.next)) (kept-is e.made t e.said e.after k)

module _ (t : Tables) (np : length t.pairs ≡ small.pairs) (ns : length t.slots ≡ small.slots) where
  pub started-fresh : (e : Event) → e.made ≡ starting → Kept e.made t e.said e.after → e.after ≡ fresh small
  started-fresh e m k =
      ap (λ (s : Step Tables). s.next)
      (kept-is e.made t e.said e.after k ∙ ap (λ (c : Call). call small c t) m ∙ (starts small t).right np ns)

  pub memory-is : (e : Event) → e.made ≡ starting → (es : List Event) → Handed t (e ∷ es) → run_of e.after es ≡ called small (calls es)
  memory-is e m es (k, h) = handed-is es e.after h ∙ ap (run (call small) (calls es)) (started-fresh e m k)

pub memory-holds : MemoryHolds
memory-holds t np ns e m es h =
    let f = demand3 small (calls es) in
    let same = memory-is t np ns e m es h in
    let last : last_of e.after es ≡ (called small (calls es)).last = ap (λ (r : Run Tables). r.last) same in
    rw last
    (record {
      audited = f.audited;
      said = ap (λ (r : Run Tables). r.said) same ∙ f.said;
      sides = f.sides;
      held = f.held;
      told = f.told;
      once = f.once;
      ceiling = f.ceiling;
      room = f.room;
    })

-- ---- determinism

pub answers-determined : (c : Call) (t : Tables) (r r' : Result Reply Refusal) (p p' : List Pair) (e e' : Ends) (l l' : List Slot)
    → Answers c t r p e l → Answers c t r' p' e' l' → (r ≡ r') × (lent p e l ≡ lent p' e' l')
answers-determined c t r r' p p' e e' l l' (a, (b, (d, f))) (a', (b', (d', f'))) =
    (a ∙ sym a', λ i. lent ((b ∙ sym b') i) ((d ∙ sym d') i) ((f ∙ sym f') i))

pub fills-determined : (c : Call) (t : Tables) (r r' : Result Reply Refusal) (p p' : List Pair) (e e' : Ends) (l l' : List Slot) (x x' : List ℕ)
    → Fills c t r p e l x → Fills c t r' p' e' l' x' → (r ≡ r') × ((lent p e l ≡ lent p' e' l') × (x ≡ x'))
fills-determined c t r r' p p' e e' l l' x x' (a, (b, (d, (f, g)))) (a', (b', (d', (f', g')))) =
    (a ∙ sym a', (λ i. lent ((b ∙ sym b') i) ((d ∙ sym d') i) ((f ∙ sym f') i), g ∙ sym g'))
