-- Four bytes, copied to their place.
use Rattle.std.proofs.Common.{◌∙◌, arith}
use Rattle.wire.specs.Bytes.{bytes}
use Rattle.wire.proofs.Adding.{bytes-high}
use Rattle.wire.proofs.Bytes.{bytes-length}
use Rattle.walks.proofs.Placing.{copied-placed}
use Rattle.walks.proofs.emission.put_number.Goals as goal

pub returns : goal.returns
returns c =
    let long = bytes-length 4 c.args.n in
    copied-placed c.args.at _ (bytes 4 c.args.n) c.args.out.now _ (c.copy_from_slice.ensures.after ∙ c.to_be_bytes.ensures ∙ bytes-high 4 c.args.n)
    (omega (arith, long)) (omega (arith, long, c.requires, c.told-out))
