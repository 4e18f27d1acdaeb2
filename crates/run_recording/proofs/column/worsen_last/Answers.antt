use Rattle.std.proofs.Common.{◌∙◌, ◌<◌, length, ap, slice_set, ◌-◌, arith}
use Rattle.std.proofs.lemmas.Grind.{common_steps}
use Rattle.run_recording.specs.Columns.{column_of}
use Rattle.run_recording.proofs.Columns.{last_arises, last_written}
use Rattle.run_recording.proofs.column.worsen_last.Goals as goal

pub worsen-requires : goal.worsen-requires
worsen-requires c =
    let columns = c.args.columns.now in
    let some : 0 < length columns = grind (arith, common_steps) in
    last_arises columns c.args.change c.args.marks.now _ some c.requires

pub returns : goal.returns
returns c =
    let columns = c.args.columns.now in
    let some : 0 < length columns = grind (arith, common_steps) in
    ap (λ x. slice_set columns (length columns - 1) x) c.worsen.ensures
    ∙ last_written columns (column_of c.args.marks.now c.args.counts.now) _ some
