use Rattle.std.proofs.Common.{◌+◌, sym, arith}
use Rattle.line_words.proofs.MoreDigits.{more-value, more-digits, too-large}
use Rattle.line_words.proofs.numbers.digits_up_to.Goals as goal

pub returns-then-value-from-clause-number : goal.returns-then-value-from-clause-number
returns-then-value-from-clause-number c =
    let ds = c.args.digits.now in
    let i = c.loop-digit.digit-index in
    let value = more-value ds i c.loop-digit.value (omega arith) c.loop-digit.invariant.0 (sym c.if-not-is_ascii_digit.ensures.value) in
    sym (too-large c.args.most ds (i + 1) (omega arith))

pub loop-digit-preserved : goal.loop-digit-preserved
loop-digit-preserved c =
    let ds = c.args.digits.now in
    let i = c.loop-digit.digit-index in
    let digit = sym c.if-not-is_ascii_digit.ensures.value in (
      rw c.from.ensures (more-value ds i c.loop-digit.value (omega arith) c.loop-digit.invariant.0 digit),
      omega arith,
      more-digits ds i (omega arith) c.loop-digit.invariant.2 digit,
    )
