-- A question with the buffer that is lent for it, as the rules' request.
use Rattle.std.specs.Prelude.{List, ℕ}
use Rattle.rules.specs.Requests.{Request, opening, posting, emitting, acknowledging, responding, ticking, closing}
use Rattle.engine.specs.declared.Ask.{Ask}
use Rattle.engine.specs.declared.Ask.TheVariants.{Open, Post, Emit, Acknowledge, Respond, Tick, Close}

abbrev pub asked : Ask → List ℕ → Request
asked (Open settings first) b = opening settings first
asked (Post post) b = posting post
asked (Emit budget) b = emitting budget b
asked (Acknowledge psn syndrome) b = acknowledging psn syndrome b
asked (Respond psn opcode length) b = responding psn opcode length b
asked (Tick elapsed) b = ticking elapsed b
asked Close b = closing b

-- of the two buffers that a card passes on, bytes for an emission and numbers for the others, the one that is lent
abbrev pub lent_of {ℓ} : {A : Type ℓ} → Ask → A → A → A
lent_of (Open settings first) numbers bytes = numbers
lent_of (Post post) numbers bytes = numbers
lent_of (Emit budget) numbers bytes = bytes
lent_of (Acknowledge psn syndrome) numbers bytes = numbers
lent_of (Respond psn opcode length) numbers bytes = numbers
lent_of (Tick elapsed) numbers bytes = numbers
lent_of Close numbers bytes = numbers

-- each buffer after a call: what the call says of it, if it was lent
abbrev pub numbers_after : Ask → List ℕ → List ℕ → List ℕ
numbers_after (Open settings first) said numbers = numbers
numbers_after (Post post) said numbers = numbers
numbers_after (Emit budget) said numbers = numbers
numbers_after (Acknowledge psn syndrome) said numbers = said
numbers_after (Respond psn opcode length) said numbers = said
numbers_after (Tick elapsed) said numbers = said
numbers_after Close said numbers = said

abbrev pub bytes_after : Ask → List ℕ → List ℕ → List ℕ
bytes_after (Open settings first) said bytes = bytes
bytes_after (Post post) said bytes = bytes
bytes_after (Emit budget) said bytes = said
bytes_after (Acknowledge psn syndrome) said bytes = bytes
bytes_after (Respond psn opcode length) said bytes = bytes
bytes_after (Tick elapsed) said bytes = bytes
bytes_after Close said bytes = bytes
