use Rattle.std.proofs.Common.{Some, ap}
use Rattle.clap.specs.Walk.{Rule}
use Rattle.clap.specs.declared.builder.action.ArgAction.TheVariants.{Set}
use Rattle.command_grammar.proofs.building.valued.Goals as goal

pub returns : goal.returns
returns c =
    rw (c.action.ensures, c.long.ensures) (ap (λ (r : Rule). record r { long = Some c.args.id.now; action = Some Set }) c.new.ensures.rule)
