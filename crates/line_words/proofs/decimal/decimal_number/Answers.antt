use Rattle.std.proofs.Common.{◌≡◌, ◌∙◌, ap, sym, Ok, arith, decimal}
use Rattle.std.proofs.lemmas.Fmt.{parse-decimal}
use Rattle.std.proofs.lemmas.Slice.Eq.{bytes_eq-Decides}
use Rattle.line_words.proofs.decimal.decimal_number.Goals as goal
use Rattle.line_words.proofs.decimal.decimal_number.Goals.{else-number-greatest-via-then-number-greatest+else-eq, else-number-greatest-via-else-number-greatest}

pub returns-in_err-number-clause-none : goal.returns-in_err-number-clause-none
returns-in_err-number-clause-none c = λ none number few spelled.
    let fits = c.ranges.greatest.fits in
    let parsed : c.parse.result ≡ Ok number = parse-decimal 64 number c.args.word.now c.parse.result (omega (arith, few, fits)) (omega (arith, few, fits)) spelled c.parse.ensures.value.0 in
    let value = c.ok.ensures.value in
    let was = c.in_err-number.was in
    grind (arith, parsed, value, was)

pub returns-else-number-greatest-clause-none : goal.returns-else-number-greatest-clause-none
returns-else-number-greatest-clause-none c = λ none number few spelled.
    let fits = c.ranges.greatest.fits in
    let parsed : c.parse.result ≡ Ok number = parse-decimal 64 number c.args.word.now c.parse.result (omega (arith, few, fits)) (omega (arith, few, fits)) spelled c.parse.ensures.value.0 in
    let value = c.ok.ensures.value in
    let was = c.in_ok-number.was in
    let same : c.in_ok-number.number ≡ number = grind (arith, parsed, value, was) in
    elim c.else-number-greatest.branch [
      | else-number-greatest-via-then-number-greatest+else-eq w ↦
          let alike : w.format.result.now ≡ c.args.word.now = w.format.ensures.text ∙ ap decimal same ∙ sym spelled in
          let yes = (bytes_eq-Decides w.format.result.now c.args.word.now).1 alike in
          let no = w.if-eq.ensures in
          grind (arith, yes, no)
      | else-number-greatest-via-else-number-greatest w ↦
          let above = w.if-number-greatest.false in
          omega (arith, same, few, above)
    ]
