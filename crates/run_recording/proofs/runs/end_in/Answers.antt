use Rattle.std.proofs.Common.{◌≡◌, ◌-◌, ◌↔◌, IsTrue, length, slice_index_or, rules}
use Rattle.run_recording.specs.declared.runs.Run.{Run}
use Rattle.run_recording.specs.declared.mark.Mark.TheVariants.{Settled}
use Rattle.run_recording.proofs.RunsOfMarks.{last_ends}
use Rattle.run_recording.proofs.runs.end_in.Goals as goal

pub returns-in-len1-up : goal.returns-in-len1-up
returns-in-len1-up c =
    let d : Run = record { first = 0; count = 0; mark = Settled } in
    let last = last_ends c.args.mark c.args.runs.now d c.in-len1-up.len_at_least in
    let same : IsTrue c.eq.result ↔ ((slice_index_or c.args.runs.now (length c.args.runs.now - 1) d).mark ≡ c.args.mark) = search rules in
    ((λ t. last.1 (same.0 t)), (λ e. same.1 (last.0 e)))
