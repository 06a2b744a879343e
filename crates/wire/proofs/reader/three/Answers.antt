-- The number of three bytes.
use Rattle.std.proofs.Common.{◌∙◌, ap, List, ℕ, [], ◌∷◌, get_or}
use Rattle.std.specs.Int.{w32, from_be_bytes}
use Rattle.wire.proofs.Seeing.{three_bytes}
use Rattle.wire.proofs.reader.three.Goals as goal

pub returns : goal.returns
returns c =
    c.from_be_bytes.ensures
    ∙ ap (λ (l : List ℕ). from_be_bytes w32 (0 ∷ get_or l 0 0 ∷ get_or l 1 0 ∷ get_or l 2 0 ∷ [])) c.bytes_at.ensures
    ∙ three_bytes c.args.s.now c.args.at
