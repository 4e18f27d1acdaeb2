use Rattle.std.proofs.Common.{◌≡◌, ◌∙◌, ◌++◌, ap, subst, length, string_bytes}
use Rattle.topology.specs.Eccentricity.{sharp_of}
use Rattle.experiments.specs.Summary.{IsSummaryOf}
use Rattle.subcommands.specs.Measured.{run_lines, served_sweeps, totals}
use Rattle.subcommands.proofs.measure.measured_text.Goals as goal

pub returns : goal.returns
returns c =
    let net = c.args.net.now in
    let runs = c.args.runs.now in
    let summary = c.summary_of-summary.result in
    let lines : string_bytes c.push_runs.new.text ≡ run_lines (sharp_of net) c.args.table runs =
    c.in_ok-push_runs.ensures
    ∙ ap (λ bytes. bytes ++ run_lines c.sharp_bound-bound.result c.args.table runs) c.new-text.ensures.bytes
    ∙ ap (λ bound. run_lines bound c.args.table runs) c.sharp_bound-bound.ensures in
    record {
      summary = summary;
      sums_up = subst (λ sweeps. IsSummaryOf sweeps summary)
          (c.as_mut_slice.ensures.value ∙ c.in_ok-served.ensures ∙ ap (served_sweeps runs) c.sharp_bound-bound.ensures) c.summary_of-summary.ensures;
      text_is = c.in_ok-push_totals.ensures ∙ ap (λ bytes. bytes ++ totals net (length runs) summary) lines;
    }
