-- What `measure --json` prints, as data. An object's members stand in the order of their names.
use Rattle.std.specs.Prelude.{◌↔◌, IsTrue, ℕ, Bool, true, false, ◌||◌, not, if◌then◌else◌, List, [], ◌∷◌, length, Option, codes}
use Rattle.std.specs.Option.{option_map}
use Rattle.serde_json.specs.Data.{Data, Members, null, array, object, no_members, put}
use Rattle.serde_json.specs.View.{items_of}
use Rattle.serde_json.specs.Written.{IsInOrder}
use Rattle.topology.specs.Network.{Network, bound_of}
use Rattle.topology.specs.Eccentricity.{sharp_of}
use Rattle.experiments.specs.declared.measured_run.Recovery.{Recovery}
use Rattle.experiments.specs.declared.summary.ThreeNumberSummary.{ThreeNumberSummary}
use Rattle.experiments.specs.Shown.{IsRunOf}
use Rattle.experiments.specs.Summary.{IsSummaryOf}
use Rattle.network_commands.specs.BoundData.{count, or_null}
use Rattle.subcommands.specs.Measured.{AreRunsOf, has_served, HaveServed, IsMeasured, served_sweeps}
use Rattle.subcommands.specs.declared.measure.MeasurePlan.{MeasurePlan}

-- after how many sweeps a run served, or null
abbrev pub sweeps_data : ℕ → Recovery → Data
sweeps_data bound r = if has_served r bound then count r.sweeps else null

abbrev pub run_data : ℕ → Recovery → Data
run_data bound r =
    object (put (codes "sweeps") (sweeps_data bound r) (put (codes "seed") (count r.seed) no_members))

-- the runs that are shown: all with a table, else those that have not served
abbrev pub runs_data : ℕ → Bool → List Recovery → List Data
runs_data bound table [] = []
runs_data bound table (r ∷ rs) =
    if table || not (has_served r bound) then run_data bound r ∷ runs_data bound table rs
    else runs_data bound table rs

-- the least, the median and the most, or null for each if no run has served
abbrev pub summary_members : Option ThreeNumberSummary → Members → Members
summary_members summary others =
    put (codes "most") (or_null (option_map (λ s. s.most) summary))
    (put (codes "median") (or_null (option_map (λ s. s.median) summary))
    (put (codes "least") (or_null (option_map (λ s. s.least) summary)) others))

-- the number of runs, those that are shown, and both bounds
abbrev pub measured_members : Network → List Recovery → Bool → Members → Members
measured_members net runs table others =
    put (codes "sweeps-bound") (count (bound_of net))
    (put (codes "sharp") (count (sharp_of net))
    (put (codes "seeds") (array (items_of (runs_data (sharp_of net) table runs)))
    (put (codes "runs") (count (length runs)) others)))

abbrev pub measured_data : Network → List Recovery → Bool → Option ThreeNumberSummary → Data
measured_data net runs table summary =
    object (measured_members net runs table (summary_members summary no_members))

-- the text is the object of the runs on a network, with the summary of those that have served
pub record IsMeasuredJson (net : Network) (runs : List Recovery) (table : Bool) (text : List ℕ) : Type 0 where
  pub summary : Option ThreeNumberSummary
  pub sums_up : IsSummaryOf (served_sweeps runs (sharp_of net)) summary
  pub in_order : IsInOrder text (measured_data net runs table summary)

-- the text of the runs on a network, as an object or as lines
abbrev pub IsTextOrJson : Bool → Network → List Recovery → Bool → List ℕ → Type 0
IsTextOrJson true net runs table text = IsMeasuredJson net runs table text
IsTextOrJson false net runs table text = IsMeasured net runs table text

-- the text is that of the runs of a plan on a network, and the flag says whether each has served
pub record IsPlanMeasured (is_json : Bool) (net : Network) (plan : MeasurePlan) (text : List ℕ) (served : Bool) : Type 0 where
  pub runs : List Recovery
  pub are_runs : AreRunsOf (IsRunOf net plan.scheduler) plan runs
  pub measured : IsTextOrJson is_json net runs plan.table text
  pub served_is : IsTrue served ↔ HaveServed runs (sharp_of net)
