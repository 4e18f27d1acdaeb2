use Rattle.std.proofs.Common.{◌≡◌, ◌∙◌, Some, ap, rules}
use Rattle.clap.specs.Lexer.{usize_max}
use Rattle.clap.specs.Walk.{Rule, rule_of}
use Rattle.clap.specs.declared.builder.action.ArgAction.TheVariants.{Append}
use Rattle.clap.specs.declared.builder.arg.Arg.{Arg}
use Rattle.clap.specs.declared.builder.range.ValueRange.{ValueRange}
use Rattle.command_grammar.proofs.building.several.Goals as goal

abbrev full : ValueRange
full = record { start_inclusive = 0; end_inclusive = usize_max }

pub returns : goal.returns
returns c =
    let range : c.num_args.result.num_vals ≡ Some full = search rules in
    ap rule_of c.num_args.ensures.0
    ∙ (ap (λ v. rule_of (record c.action.result { num_vals = v })) range
    ∙ (ap (λ (a : Arg). rule_of (record a { num_vals = Some full })) c.action.ensures
    ∙ ap (λ (r : Rule). record r { action = Some Append; range = Some full }) c.new.ensures.rule))
