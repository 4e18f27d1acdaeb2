use Rattle.std.proofs.Common.{◌≡◌, None, ◌∙◌, sym}
use Rattle.recovery_times.proofs.Digits.{no-thousandths}
use Rattle.line_words.specs.Numbers.{digits_up_to}
use Rattle.recovery_times.proofs.reading.thousandths_of.Goals as goal

pub returns-in_err-value-clause-part : goal.returns-in_err-value-clause-part
returns-in_err-value-clause-part c =
    let none : digits_up_to 3600000 c.args.digits.now ≡ None = sym c.in_err-value.ensures.number in
    c.from_residual.ensures ∙ sym (no-thousandths c.args.digits.now none)
