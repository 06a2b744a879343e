-- No HEX, no room, or the bytes up to `i`.
use Rattle.std.proofs.Common.{◌≡◌, ℕ, ◌*◌, ◌+◌, ◌<◌, sym, ap, ◌∙◌, length, get_or, arith}
use Rattle.std.specs.Prelude.{Option, unwrap_or}
use Rattle.text.specs.Hex.{nibble}
use Rattle.text.proofs.Decoding.{value, value-is, no-hex, no_room, filling-more, filling-end}
use Rattle.text.proofs.hex.decode.Goals as goal
use Rattle.text.proofs.hex.decode.Goals.{then-not-is_hex-via-then-not-is_hex, then-not-is_hex-via-else-not-is_hex+then-n-out}

pub returns-then-not-is_hex-clause-value : goal.returns-then-not-is_hex-clause-value
returns-then-not-is_hex-clause-value c =
    elim c.then-not-is_hex.branch [
      | then-not-is_hex-via-then-not-is_hex w ↦ (no-hex c.args.word.now c.args.out.now (sym w.if-not-is_hex.ensures)).0
      | then-not-is_hex-via-else-not-is_hex+then-n-out w ↦ (no_room c.args.word.now c.args.out.now (sym w.if-not-is_hex.ensures) w.if-n-out.true).0
    ]

pub returns-then-not-is_hex-clause-out_after : goal.returns-then-not-is_hex-clause-out_after
returns-then-not-is_hex-clause-out_after c =
    elim c.then-not-is_hex.branch [
      | then-not-is_hex-via-then-not-is_hex w ↦ (no-hex c.args.word.now c.args.out.now (sym w.if-not-is_hex.ensures)).1
      | then-not-is_hex-via-else-not-is_hex+then-n-out w ↦ (no_room c.args.word.now c.args.out.now (sym w.if-not-is_hex.ensures) w.if-n-out.true).1
    ]

pub loop-i-preserved : goal.loop-i-preserved
loop-i-preserved c =
    filling-more c.loop-i.invariant c.loop-i-test.true c.if-n-out.false
    (c.unwrap_or-high.ensures ∙ ap (λ (o : Option _). unwrap_or o 0) c.nibble.ensures ∙ digit (2 * c.loop-i.i) (omega arith))
    (c.unwrap_or-low.ensures ∙ ap (λ (o : Option _). unwrap_or o 0) c.nibble-in-loop-i.ensures ∙ digit (2 * c.loop-i.i + 1) (omega arith))
  where
    digit : (k : ℕ) → k < length c.args.word.now → unwrap_or (nibble (get_or c.args.word.now k 0)) 0 ≡ value (get_or c.args.word.now k 0)
    digit k h = value-is c.args.word.now k (sym c.if-not-is_hex.ensures) (omega arith) h

pub returns-clause-value : goal.returns-clause-value
returns-clause-value c =
    (filling-end c.loop-i.invariant c.loop-i-test.false (sym c.if-not-is_hex.ensures) c.if-n-out.false).0

pub returns-clause-out_after : goal.returns-clause-out_after
returns-clause-out_after c =
    (filling-end c.loop-i.invariant c.loop-i-test.false (sym c.if-not-is_hex.ensures) c.if-n-out.false).1
