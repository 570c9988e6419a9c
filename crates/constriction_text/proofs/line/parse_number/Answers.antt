use Rattle.std.proofs.Common.{◌≡◌, ◌-◌, sym, arith, get_or, length}
use Rattle.std.proofs.lemmas.Bool.{eqb-false}
use Rattle.std.proofs.lemmas.Grind.{common_steps}
use Rattle.std.specs.Char.{digit_value}
use Rattle.constriction_text.proofs.Numbers.{value_grows_by, read_number-large, read_number-end}
use Rattle.constriction_text.proofs.line.parse_number.Goals as goal

pub returns-in_err-checked_mul : goal.returns-in_err-checked_mul
returns-in_err-checked_mul c =
    let w = c.args.word.now in
    let grown = value_grows_by c.loop-byte.value c.loop-byte.byte-index w c.loop-byte-test.true in
    rw c.from_residual.ensures (sym (read_number-large w (omega (arith, grown, c.loop-byte.invariant.value, c.in_err-checked_mul.ensures))))

pub returns-in_err-value : goal.returns-in_err-value
returns-in_err-value c =
    let w = c.args.word.now in
    let grown = value_grows_by c.loop-byte.value c.loop-byte.byte-index w c.loop-byte-test.true in
    let digit : digit_value (get_or w c.loop-byte.byte-index 0) ≡ get_or w c.loop-byte.byte-index 0 - 48 = grind (arith, common_steps) in
    rw c.from_residual-in_err-value.ensures
    (sym (read_number-large w
    (omega (arith, grown, digit, c.loop-byte.invariant.value, c.in_ok-checked_mul.ensures.1, c.in_err-value.ensures, c.from.ensures))))

pub returns : goal.returns
returns c =
    read_number-end c.args.word.now c.loop-byte.byte-index c.loop-byte.value c.loop-byte-test.false
    c.loop-byte.invariant.digits c.loop-byte.invariant.value
    (omega (arith, eqb-false (length c.args.word.now) 0 (sym c.if-is_empty.ensures))) c.if-word-gt-DIGITS.false c.loop-byte.invariant.small
