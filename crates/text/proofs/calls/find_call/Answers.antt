-- The word that an arm has matched is the arm's text.
use Rattle.std.proofs.Common.{◌≡◌, ℕ, List, length, sym, ap, rules, arith}
use Rattle.std.proofs.lemmas.Slice.Eq.{HasBytesAt, text_from_reads}
use Rattle.text.specs.Text.{bytes}
use Rattle.text.specs.Inner.{row_of}
use Rattle.text.proofs.calls.find_call.Goals as goal

named : (w p : List ℕ) → length w ≡ length p → HasBytesAt w 0 p → row_of p ≡ row_of w
named w p e h = ap row_of (sym (text_from_reads w p e h))

pub returns-in-response : goal.returns-in-response
returns-in-response c = named c.args.word.now (bytes "response") (omega arith) (search rules)
