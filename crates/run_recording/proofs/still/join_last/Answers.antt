use Rattle.std.proofs.Common.{◌∙◌, ◌<◌, length, ap, slice_set, ◌-◌, arith}
use Rattle.std.proofs.lemmas.Grind.{common_steps}
use Rattle.run_recording.proofs.Stills.{last_written}
use Rattle.run_recording.proofs.still.join_last.Goals as goal

pub returns : goal.returns
returns c =
    let stills = c.args.stills.now in
    let some : 0 < length stills = grind (arith, common_steps) in
    ap (λ x. slice_set stills (length stills - 1) x) c.joined.ensures ∙ last_written stills c.args.moment.now _ some
