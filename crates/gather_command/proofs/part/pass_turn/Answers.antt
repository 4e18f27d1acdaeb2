use Rattle.std.proofs.Common.{arith}
use Rattle.gather_command.specs.Reading.{MayFail}
use Rattle.gather_command.proofs.Parts.{one-led}
use Rattle.gather_command.proofs.part.pass_turn.Goals as goal

pub passes-requires : goal.passes-requires
passes-requires g c = omega (arith, c.in_ok-notes.ensures.nodes, c.requires.0.0)

pub returns : goal.returns
returns g c =
    one-led (MayFail g.S.Source.failures) c.args.weaving.now c.notes.new.self c.passes.new.self c.args.node c.args.entry.now c.requires
    c.in_ok-notes.ensures.noted c.in_ok-notes.ensures.nodes c.passes.ensures
