use Rattle.std.proofs.Common.{◌<◌, length, get_or, arith}
use Rattle.text.specs.Hex.{octet_text}
use Rattle.text.proofs.Putting.{putting-more, putting-end, put_two}
use Rattle.text.proofs.Spelling.{lower-at, lower-none}
use Rattle.text.proofs.page.put_octets.Goals as goal

pub loop-b-preserved : goal.loop-b-preserved
loop-b-preserved c =
    let s = c.args.octets.now in
    let i = c.loop-b.b-index in
    let more : i < length s = omega arith in
    putting-more c.loop-b.invariant more (octet_text (get_or s i 0)) (lower-at s i more)
    (put_two _ _ _ c.glyph.ensures c.glyph-in-loop-b.ensures c.put_byte-to.ensures c.put_byte-to-in-loop-b.ensures)

pub returns : goal.returns
returns c = putting-end c.loop-b.invariant c.loop-b-test.false lower-none
