-- The last three bytes of four.
use Rattle.std.proofs.Common.{◌∙◌, ap, List, ℕ, [], ◌∷◌, get_or}
use Rattle.wire.proofs.Adding.{bytes-high}
use Rattle.wire.proofs.writer.three.Goals as goal

pub returns : goal.returns
returns c =
    ap (λ (l : List ℕ). get_or l 1 0 ∷ get_or l 2 0 ∷ get_or l 3 0 ∷ []) c.to_be_bytes.ensures ∙ bytes-high 3 c.args.value
