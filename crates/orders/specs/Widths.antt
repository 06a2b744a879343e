-- What the law of widths is stated with: a call that is just its line's numbers, and those of them that are too wide.
use Rattle.std.specs.Prelude.{ℕ, Bool, List, [], ◌∷◌, ltb, eqb, get_or, Option, None, Some, if◌then◌else◌}
use Rattle.text.specs.declared.Ask.{Ask}
use Rattle.text.specs.declared.Ask.TheVariants.{Nothing, Unread, Fresh, Open, Post, Emit, Ack, Response, Timer, Close, Room, Show, Free, Write, Read}
use Rattle.engine.specs.declared.Ask as engine
use Rattle.engine.specs.declared.Ask.TheVariants as asks
use Rattle.orders.specs.Ordered.{largest, post_wide}

-- no number is cut
abbrev pub written : Ask → List ℕ → Option engine.Ask
written Open a =
    Some
    (asks.Open
    record {
      far = get_or a 1 0;
      pkey = get_or a 3 0;
      pmtu = get_or a 4 0;
      share = get_or a 5 0;
      ceiling = get_or a 6 0;
      retry = get_or a 7 0;
      rnr = get_or a 8 0;
      timeout = get_or a 9 0;
    }
    (get_or a 2 0))
written Post a =
    Some
    (asks.Post
    record {
      kind = get_or a 2 0;
      immediate = eqb (get_or a 3 0) 1;
      fenced = eqb (get_or a 5 0) 1;
      ticket = get_or a 1 0;
      offset = get_or a 7 0;
      length = get_or a 6 0;
      address = get_or a 8 0;
      key = get_or a 9 0;
      value = if eqb (get_or a 3 0) 1 then get_or a 4 0 else 0;
    })
written Emit a = Some (asks.Emit (get_or a 1 0))
written Ack a = Some (asks.Acknowledge (get_or a 1 0) (get_or a 2 0))
written Response a = Some (asks.Respond (get_or a 1 0) (get_or a 2 0) (get_or a 3 0))
written Timer a = Some (asks.Tick (get_or a 1 0))
written Close a = Some asks.Close
written Nothing a = None
written Unread a = None
written Fresh a = None
written Room a = None
written Show a = None
written Free a = None
written Write a = None
written Read a = None

abbrev over : List ℕ → ℕ → Bool
over a i = ltb largest (get_or a i 0)

-- over 32 bits, but for the pair, and OFFSET, ADDRESS and NS, which have room for 64; of a post also IMM and FENCE over 1, and VALUE where IMM is 1 alone
abbrev pub too_wide : Ask → List ℕ → List Bool
too_wide Open a = over a 1 ∷ over a 2 ∷ over a 3 ∷ over a 4 ∷ over a 5 ∷ over a 6 ∷ over a 7 ∷ over a 8 ∷ over a 9 ∷ []
too_wide Post a = post_wide a ∷ over a 2 ∷ over a 6 ∷ []
too_wide Emit a = over a 1 ∷ []
too_wide Ack a = over a 1 ∷ over a 2 ∷ []
too_wide Response a = over a 1 ∷ over a 2 ∷ over a 3 ∷ []
too_wide Timer a = []
too_wide Close a = []
too_wide Nothing a = []
too_wide Unread a = []
too_wide Fresh a = []
too_wide Room a = []
too_wide Show a = []
too_wide Free a = []
too_wide Write a = []
too_wide Read a = []
