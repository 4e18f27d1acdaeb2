-- The text of measured runs.
use Rattle.std.specs.Prelude.{◌≡◌, ℕ, Bool, ◌||◌, ◌&&◌, not, nat_le, if◌then◌else◌, List, [], ◌∷◌, ◌++◌, ◌+◌, length, All, IsTrue, Option, Some, None, codes, decimal}
use Rattle.topology.specs.Network.{Network, bound_of}
use Rattle.topology.specs.Eccentricity.{sharp_of}
use Rattle.experiments.specs.declared.measured_run.Recovery.{Recovery}
use Rattle.experiments.specs.declared.summary.ThreeNumberSummary.{ThreeNumberSummary}
use Rattle.experiments.specs.Summary.{IsSummaryOf}
use Rattle.network_commands.specs.Bound.{number_line}
use Rattle.subcommands.specs.declared.measure.MeasurePlan.{MeasurePlan}

-- a run had as many sweeps as the bound says, and served by then
abbrev pub has_served : Recovery → ℕ → Bool
has_served r bound = nat_le bound r.seen && nat_le r.sweeps bound

-- `seed S sweeps K`, or `none` in place of K
abbrev pub run_line : ℕ → Recovery → List ℕ
run_line bound r =
    codes "seed " ++ (decimal r.seed
    ++ (codes " sweeps " ++ ((if has_served r bound then decimal r.sweeps else codes "none") ++ codes "\n")))

-- the line of a run: in a table, of each; without one, only of a run that has not served
abbrev pub shown_line : ℕ → Bool → Recovery → List ℕ
shown_line bound table r = if table || not (has_served r bound) then run_line bound r else []

-- these lines, one after the other
abbrev pub run_lines : ℕ → Bool → List Recovery → List ℕ
run_lines bound table [] = []
run_lines bound table (r ∷ rs) = shown_line bound table r ++ run_lines bound table rs

-- after how many sweeps the runs that served did so
abbrev pub served_sweeps : List Recovery → ℕ → List ℕ
served_sweeps [] bound = []
served_sweeps (r ∷ rs) bound = if has_served r bound then r.sweeps ∷ served_sweeps rs bound else served_sweeps rs bound

-- `sweeps least K median K most K`, or `none` for each if no run has served
abbrev pub summary_line : Option ThreeNumberSummary → List ℕ
summary_line None = codes "sweeps least none median none most none\n"
summary_line (Some s) =
    codes "sweeps least " ++ (decimal s.least
    ++ (codes " median " ++ (decimal s.median ++ (codes " most " ++ (decimal s.most ++ codes "\n")))))

-- the number of runs, the summary of those that have served, and both bounds
abbrev pub totals : Network → ℕ → Option ThreeNumberSummary → List ℕ
totals net runs summary =
    number_line (codes "runs") runs
    ++ (summary_line summary
    ++ (number_line (codes "sharp") (sharp_of net) ++ number_line (codes "sweeps-bound") (bound_of net)))

-- the text of the runs on a network: their lines, and their summary
pub record IsMeasured (net : Network) (runs : List Recovery) (table : Bool) (text : List ℕ) : Type 0 where
  pub summary : Option ThreeNumberSummary
  pub sums_up : IsSummaryOf (served_sweeps runs (sharp_of net)) summary
  pub text_is : text ≡ run_lines (sharp_of net) table runs ++ totals net (length runs) summary

-- such runs of successive seeds, from this seed on
abbrev pub AreOfSeeds : {R : Type 0} → (ℕ → R → Type 0) → ℕ → List R → Type 0
AreOfSeeds IsRun seed [] = Unit {0}
AreOfSeeds IsRun seed (r ∷ rs) = IsRun seed r × AreOfSeeds IsRun (seed + 1) rs

-- all such runs of a plan: as many as it says, from its first seed on
pub record AreRunsOf {R : Type 0} (IsRun : ℕ → R → Type 0) (plan : MeasurePlan) (runs : List R) : Type 0 where
  pub all : length runs ≡ plan.runs
  pub each : AreOfSeeds IsRun plan.seed runs

-- each run has served
abbrev pub HaveServed : List Recovery → ℕ → Type 0
HaveServed runs bound = All (λ r. IsTrue (has_served r bound)) runs
