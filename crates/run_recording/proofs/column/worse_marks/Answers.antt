use Rattle.std.proofs.Common.{◌≡◌, ◌∙◌, ◌+◌, ◌<◌, ◌++◌, length, ap, take, drop, slice_set, suc, rules, arith}
use Rattle.run_recording.specs.Marks.{worse_marks}
use Rattle.run_recording.proofs.Marks.{next_mark}
use Rattle.run_recording.proofs.column.worse_marks.Goals as goal

pub loop-v-preserved : goal.loop-v-preserved
loop-v-preserved c =
    let v = c.loop-v.v in
    let marks = c.args.marks.now in
    let later = c.args.later.now in
    let in_marks : v < length marks = search (rules, arith) in
    let in_later : v < length later = search (rules, arith) in
    let next : suc v ≡ v + 1 = omega arith in
    ap (λ xs. slice_set xs v c.worse.result) c.loop-v.invariant
    ∙ ap (λ m. slice_set (worse_marks (take v marks) (take v later) ++ drop v marks) v m) c.worse.ensures
    ∙ next_mark marks later v _ _ in_marks in_later
    ∙ ap (λ k. worse_marks (take k marks) (take k later) ++ drop k marks) next
