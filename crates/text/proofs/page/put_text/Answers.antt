use Rattle.std.proofs.Common.{[], ◌∷◌, ◌<◌, length, get_or, refl, sym, ◌∙◌, arith}
use Rattle.text.proofs.Parts.{drop_at}
use Rattle.text.proofs.Putting.{putting-more, putting-end, put_one}
use Rattle.text.proofs.page.put_text.Goals as goal

pub loop-b-preserved : goal.loop-b-preserved
loop-b-preserved c =
    let s = c.args.text.now in
    let i = c.loop-b.b-index in
    let more : i < length s = omega arith in
    putting-more c.loop-b.invariant more (get_or s i 0 ∷ []) (drop_at s i (get_or s i 0) more refl) (c.put_byte-to.ensures ∙ sym (put_one _ _))

pub returns : goal.returns
returns c = putting-end c.loop-b.invariant c.loop-b-test.false refl
