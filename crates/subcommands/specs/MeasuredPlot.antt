-- What `measure --csv --plot` prints, and what it plots.
use Rattle.std.specs.Prelude.{◌≡◌, ℕ, ◌+◌, ◌-◌, ◌*◌, if◌then◌else◌, List, [], ◌∷◌, IsTrue, ◌↔◌, string_bytes}
use Rattle.topology.specs.Network.{Network}
use Rattle.topology.specs.Eccentricity.{eccentricity_of, sharp_of}
use Rattle.experiments.specs.Layered.{IsSettlingOf}
use Rattle.experiments.specs.declared.layered_run.Settling.{Settling}
use Rattle.settling_plot.specs.Plot.{IsPlotted}
use Rattle.settling_plot.specs.declared.figure.Figure.{Figure}
use Rattle.settling_plot.specs.declared.figure.PlottedLayer.{PlottedLayer}
use Rattle.settling_plot.specs.declared.figure.PlottedLayer.TheVariants.{Links, Tree, Ring, Served}
use Rattle.subcommands.specs.Measured.{AreRunsOf}
use Rattle.subcommands.specs.MeasuredCsv.{csv_text, has_settled, HaveSettled}
use Rattle.subcommands.specs.declared.measure.MeasurePlan.{MeasurePlan}
use Rattle.subcommands.specs.declared.measure_plot.PlanReport.{PlanReport}

-- after how many sweeps a layer stood permanently in a run
abbrev pub sweeps_of : PlottedLayer → Settling → ℕ
sweeps_of Links s = s.links
sweeps_of Tree s = s.tree
sweeps_of Ring s = s.ring
sweeps_of Served s = s.served

-- the same of each of the runs that served by the bound
abbrev pub settled_sweeps : ℕ → PlottedLayer → List Settling → List ℕ
settled_sweeps bound layer [] = []
settled_sweeps bound layer (s ∷ ss) =
    if has_settled s bound then sweeps_of layer s ∷ settled_sweeps bound layer ss else settled_sweeps bound layer ss

-- What is plotted of the runs of a plan on a network: when each layer stood permanently in the runs
-- that served, and the bound that no run exceeds, as the theorem on layers says
-- (`IsSettlingWithin`).
pub record IsFigureOf (net : Network) (plan : MeasurePlan) (runs : List Settling) (f : Figure) : Type 0 where
  pub nodes : f.nodes ≡ net.nodes
  pub all : f.runs ≡ plan.runs
  pub seed : f.seed ≡ plan.seed
  pub links : f.links.sweeps.items ≡ settled_sweeps (sharp_of net) Links runs
  pub tree : f.tree.sweeps.items ≡ settled_sweeps (sharp_of net) Tree runs
  pub ring : f.ring.sweeps.items ≡ settled_sweeps (sharp_of net) Ring runs
  pub served : f.served.sweeps.items ≡ settled_sweeps (sharp_of net) Served runs
  pub links_bound : f.links.bound ≡ 6
  pub tree_bound : f.tree.bound ≡ 6 + 4 * (eccentricity_of net + 2)
  pub ring_bound : f.ring.bound ≡ sharp_of net - 1
  pub served_bound : f.served.bound ≡ sharp_of net

-- the rows and the plot are those of the runs of a plan on a network, and the flag says whether each
-- has served
pub record IsReportOf (net : Network) (plan : MeasurePlan) (report : PlanReport) : Type 0 where
  pub runs : List Settling
  pub are_runs : AreRunsOf (IsSettlingOf net plan.scheduler) plan runs
  pub rows_are : string_bytes report.rows ≡ csv_text (sharp_of net) runs
  pub figure : Figure
  pub is_figure : IsFigureOf net plan runs figure
  pub is_plot : IsPlotted figure report.plot.items
  pub served_is : IsTrue report.all_served ↔ HaveSettled runs (sharp_of net)
