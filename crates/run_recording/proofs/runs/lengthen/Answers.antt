use Rattle.std.proofs.Common.{◌<◌, length, arith}
use Rattle.std.proofs.lemmas.Grind.{common_steps}
use Rattle.run_recording.specs.declared.mark.Mark.TheVariants.{Settled}
use Rattle.run_recording.proofs.RunsOfMarks.{last_written}
use Rattle.run_recording.proofs.runs.lengthen.Goals as goal

pub returns : goal.returns
returns c =
    let some : 0 < length c.args.runs.now = grind (arith, common_steps) in
    last_written c.args.runs.now (record { first = 0; count = 0; mark = Settled }) c.saturating_add.result some c.saturating_add.ensures
