-- The digits before, and the last.
use Rattle.std.proofs.Common.{refl}
use Rattle.text.specs.Out.{out}
use Rattle.text.proofs.Spelling.{more-digits}
use Rattle.text.proofs.page.+put_digits.Goals as goal

pub returns : goal.returns
returns t c =
    more-digits (out c.args.bytes.now c.args.at) c.args.places c.args.n c.if-places-eq0.false c.if-n-lt10.false c.put_digits-next.ensures refl c.put_byte-2.ensures
