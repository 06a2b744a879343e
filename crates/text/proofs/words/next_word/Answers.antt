-- No word, or the first one and the rest.
use Rattle.std.proofs.Common.{ℕ, List, ◌∷◌, sym, ap₂, ◌∙◌}
use Rattle.text.specs.Words.{words}
use Rattle.text.proofs.Cursor.{no-word, first-word, rest-is}
use Rattle.text.proofs.words.next_word.Goals as goal

pub returns-in_err-rest : goal.returns-in_err-rest
returns-in_err-rest c = rw c.from_residual.ensures (no-word _ c.in_err-rest.ensures)

pub returns : goal.returns
returns c =
    first-word _ _ _ _ c.in_ok-rest.ensures (rest-is c.args.line.now c.in_ok-rest.field-0) c.word_end.ensures c.unwrap_or.ensures
    ∙ sym (ap₂ (λ (w r : List ℕ). w ∷ words r) c.split_at.ensures.front c.split_at.ensures.back)
