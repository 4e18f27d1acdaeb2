use Rattle.std.proofs.Common.{◌≡◌, ◌∙◌, sym, arith, rules}
use Rattle.std.proofs.lemmas.Fmt.{decimal_injective}
use Rattle.command_grammar.proofs.number.Number.read.Goals as goal

pub returns-in_default : goal.returns-in_default
returns-in_default c number least most is =
    let found : c.in-Some.value ≡ number = decimal_injective _ _ (search rules) (search rules) (sym (c.in-Some.ensures.spelled.1) ∙ is) in
    absurd (omega arith)
