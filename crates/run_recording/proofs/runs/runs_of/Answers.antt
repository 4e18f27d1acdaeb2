use Rattle.std.proofs.Common.{◌≡◌, ◌<◌, length, arith}
use Rattle.std.proofs.lemmas.Grind.{common_steps}
use Rattle.run_recording.specs.Runs.{mark_in}
use Rattle.run_recording.proofs.RunsOfMarks.{marks_next, all_marks}
use Rattle.run_recording.proofs.runs.runs_of.Goals as goal

pub loop-place-preserved : goal.loop-place-preserved
loop-place-preserved c =
    let within : c.loop-place.place < length c.args.columns.now = grind (arith, common_steps) in
    marks_next (mark_in c.args.v) c.args.columns.now c.loop-place.place _ _ _ _ within c.mark_in.ensures c.loop-place.invariant c.in_ok-put_mark.ensures

pub returns : goal.returns
returns c =
    let all : length c.args.columns.now ≡ c.loop-place.place = grind (arith, common_steps) in
    all_marks (mark_in c.args.v) c.args.columns.now c.loop-place.place _ all c.loop-place.invariant
