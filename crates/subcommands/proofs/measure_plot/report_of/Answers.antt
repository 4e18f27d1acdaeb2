use Rattle.std.proofs.Common.{◌∙◌, ap, subst, IsTrue, ◌↔◌}
use Rattle.subcommands.specs.MeasuredCsv.{csv_text, HaveSettled}
use Rattle.subcommands.specs.MeasuredPlot.{IsFigureOf}
use Rattle.subcommands.proofs.measure_plot.report_of.Goals as goal

pub returns : goal.returns
returns g c =
    let net = c.args.net.now in
    let runs = c.in_ok-runs.runs.items in
    record {
      runs = runs;
      are_runs = c.in_ok-runs.ensures;
      rows_are = c.in_ok-csv_text.ensures ∙ ap (λ rs. csv_text c.sharp_bound.result rs) c.as_slice-2.ensures.value
          ∙ ap (λ b. csv_text b runs) c.sharp_bound.ensures;
      figure = c.in_ok-figure.figure;
      is_figure = subst (λ rs. IsFigureOf net c.args.plan rs c.in_ok-figure.figure) c.as_slice.ensures.value c.in_ok-figure.ensures;
      is_plot = c.in_ok-plotted.ensures.text;
      served_is = subst (λ b. IsTrue c.have_settled.result ↔ HaveSettled runs b) c.sharp_bound-2.ensures
          (subst (λ rs. IsTrue c.have_settled.result ↔ HaveSettled rs c.sharp_bound-2.result) c.as_slice-3.ensures.value c.have_settled.ensures);
    }
