-- What a line asks of the card, from "Reading" and "Calls" of the trace protocol.
use Rattle.std.specs.Prelude.{ℕ, ◌-◌, ◌^◌, min, Bool, ◌&&◌, List, [], ◌∷◌, ltb, eqb, get_or, Option, None, Some, if◌then◌else◌}
use Rattle.refusal.specs.Choice.{any_of}
use Rattle.text.specs.declared.Ask.{Ask}
use Rattle.text.specs.declared.Ask.TheVariants.{Nothing, Unread, Fresh, Open, Post, Emit, Ack, Response, Timer, Close, Room, Show, Free, Write, Read}
use Rattle.text.specs.declared.Parsed.{Parsed}
use Rattle.text.specs.Line.{parsed_of}
use Rattle.rules.specs.declared.Settings.{Settings}
use Rattle.rules.specs.declared.Post as rules
use Rattle.engine.specs.declared.Ask as engine
use Rattle.engine.specs.declared.Ask.TheVariants as asks
use Rattle.orders.specs.declared.Order.{Order}

-- the largest number of 32 bits: it is out of the range of every argument that has one, and it is no pair
abbrev pub largest : ℕ
largest = 2 ^ 32 - 1

-- "A number that is too wide for its argument is an argument out of its range: refusal 3 in its place in the order, or 1 for a pair."
abbrev pub cut : ℕ → ℕ
cut n = min n largest

-- an argument that has a range, put out of it where another one, which may be any 32 bits, is too wide
abbrev pub cut_if : Bool → ℕ → ℕ
cut_if wide n = if wide then largest else cut n

-- "`open P FAR PSN PKEY PMTU SHARE CEILING RETRY RNR TIMEOUT`"
abbrev pub settings_of : List ℕ → Settings
settings_of a =
    record {
      far = cut (get_or a 1 0);
      pkey = cut (get_or a 3 0);
      pmtu = cut (get_or a 4 0);
      share = cut (get_or a 5 0);
      ceiling = cut (get_or a 6 0);
      retry = cut (get_or a 7 0);
      rnr = cut (get_or a 8 0);
      timeout = cut (get_or a 9 0);
    }

-- "`post P TICKET KIND IMM VALUE FENCE LENGTH OFFSET ADDRESS KEY`": "32 bits for ticket, key, immediate"; "IMM and FENCE are 0 or 1 (a larger number is
-- out of its range); VALUE is the immediate, and is ignored where IMM is 0, however large"; "a KEY of over 32 bits is refused all the same"
abbrev pub post_wide : List ℕ → Bool
post_wide a =
    any_of
    (ltb largest (get_or a 1 0)
    ∷ ltb 1 (get_or a 3 0)
    ∷ (eqb (get_or a 3 0) 1 && ltb largest (get_or a 4 0))
    ∷ ltb 1 (get_or a 5 0)
    ∷ ltb largest (get_or a 9 0)
    ∷ [])

abbrev pub post_of : List ℕ → rules.Post
post_of a =
    record {
      kind = cut_if (post_wide a) (get_or a 2 0);
      immediate = eqb (get_or a 3 0) 1;
      fenced = eqb (get_or a 5 0) 1;
      ticket = cut (get_or a 1 0);
      offset = get_or a 7 0;
      length = cut (get_or a 6 0);
      address = get_or a 8 0;
      key = cut (get_or a 9 0);
      value = if eqb (get_or a 3 0) 1 then cut (get_or a 4 0) else 0;
    }

-- of a call on a pair; what a line asks that is none of them asks nothing of a pair
abbrev pub ask_of : Ask → List ℕ → Option engine.Ask
ask_of Open a = Some (asks.Open (settings_of a) (cut (get_or a 2 0)))
ask_of Post a = Some (asks.Post (post_of a))
-- "`emit P BUDGET`"
ask_of Emit a = Some (asks.Emit (cut (get_or a 1 0)))
-- "`ack P PSN SYNDROME`"
ask_of Ack a = Some (asks.Acknowledge (cut (get_or a 1 0)) (cut (get_or a 2 0)))
-- "`response P PSN OPCODE LENGTH`": "32 bits for .. response LENGTH"
ask_of Response a = Some (asks.Respond (cut_if (ltb largest (get_or a 3 0)) (get_or a 1 0)) (cut (get_or a 2 0)) (cut (get_or a 3 0)))
-- "`timer P NS`"
ask_of Timer a = Some (asks.Tick (get_or a 1 0))
ask_of Close a = Some asks.Close
ask_of Nothing a = None
ask_of Unread a = None
ask_of Fresh a = None
ask_of Room a = None
ask_of Show a = None
ask_of Free a = None
ask_of Write a = None
ask_of Read a = None

-- the pair is the first number, as `room`'s bytes are, and `room`'s numbers the second
abbrev pub ordered : Parsed → Order
ordered p =
    record {
      what = p.ask;
      pair = cut (get_or p.args 0 0);
      ask = ask_of p.ask p.args;
      bytes = get_or p.args 0 0;
      numbers = get_or p.args 1 0;
    }

unfoldable pub order_of : List ℕ → Order
order_of l = ordered (parsed_of l)
