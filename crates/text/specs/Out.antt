-- How an answer is written: into a buffer, from a place on, as far as the buffer goes. Assumes nothing.
use Rattle.std.specs.Prelude.{ℕ, zero, suc, ◌+◌, ◌/◌, ◌%◌, ◌≡◌, List, [], ◌∷◌, ◌++◌, ltb, length, set, if◌then◌else◌}

-- the buffer, and the place where the next byte goes
pub record Out : Type 0 where
  pub bytes : List ℕ
  pub at : ℕ

abbrev pub out : List ℕ → ℕ → Out
out bs k = record { bytes = bs; at = k }

-- past the buffer's end nothing is put, and the place stays
abbrev pub put_byte : Out → ℕ → Out
put_byte o b = if ltb o.at (length o.bytes) then out (set o.bytes o.at b) (o.at + 1) else o

unfoldable pub put_all : Out → List ℕ → Out
put_all o [] = o
put_all o (b ∷ bs) = put_all (put_byte o b) bs

-- the text is put into the buffer `before` from `at` on: then it is `after`, and r is the next place
abbrev pub Puts : List ℕ → ℕ → List ℕ → List ℕ → ℕ → Type 0
Puts before at text after r = out after r ≡ put_all (out before at) text

-- a number in its fewest decimal digits, at most k of them
unfoldable pub decimal_in : ℕ → ℕ → List ℕ
decimal_in zero n = []
decimal_in (suc k) n = if ltb n 10 then (48 + n) ∷ [] else decimal_in k (n / 10) ++ ((48 + n % 10) ∷ [])

-- no number of 64 bits has more than 20
abbrev pub decimal : ℕ → List ℕ
decimal n = decimal_in 20 n
