-- Small examples of the texts of `measure` and of cut files, with some that fail.
use Rattle.std.proofs.Common.{◌≡◌, ◌≢◌, ◌∙◌, sym, ℕ, true, false, IsTrue, [], ◌∷◌, Some, None, codes, refl, arith}
use Rattle.std.specs.Fmt.{digits}
use Rattle.std.proofs.lemmas.List.Elements.{All-head, All-tail}
use Rattle.rand_pcg.specs.Lcg.{Lcg}
use Rattle.topology.specs.Network.{Network}
use Rattle.experiments.specs.Shown.{IsRunOf}
use Rattle.experiments.specs.declared.layered_run.Settling.{Settling}
use Rattle.experiments.specs.declared.measured_run.Recovery.{Recovery}
use Rattle.experiments.specs.declared.measured_run.Scheduler.TheVariants as scheduler
use Rattle.experiments.specs.declared.plan.Order.TheVariants as order
use Rattle.experiments.specs.declared.plan.PlanFault.TheVariants as plan
use Rattle.command_parts.specs.command_faults.declared.fault.Fault.TheVariants as fault
use Rattle.subcommands.specs.declared.schedule.Turns.TheVariants as turns
use Rattle.subcommands.specs.declared.measure.MeasurePlan.{MeasurePlan}
use Rattle.subcommands.specs.Cut.{IsCutTo}
use Rattle.subcommands.specs.Damaged.{junk_text}
use Rattle.subcommands.specs.Measured.{AreRunsOf, has_served, HaveServed, run_line, run_lines, served_sweeps, summary_line}
use Rattle.subcommands.specs.MeasuredCsv.{csv_row, csv_text}
use Rattle.subcommands.specs.PlanFault.{fault_of}
use Rattle.subcommands.specs.Turns.{order_of}

abbrev pub two_nodes : Network
two_nodes = record { nodes = 2; root = 0; capacity = 1; lease = 0; edges = (0, 1) ∷ [] }

-- ---- `measure`

abbrev recovery : ℕ → ℕ → ℕ → Recovery
recovery seed sweeps seen = record { seed = seed; sweeps = sweeps; seen = seen }

-- a run of eight sweeps served after five; a run of only seven has not served by eight
served : has_served (recovery 4 5 8) 8 ≡ true
served = refl

served_not-short : has_served (recovery 4 5 7) 8 ≡ false
served_not-short = refl

served_not-late : has_served (recovery 4 9 9) 8 ≡ false
served_not-late = refl

prints-run : run_line 8 (recovery 4 5 8) ≡ codes "seed 4 sweeps 5\n"
unfolding digits
prints-run = refl

prints-unserved : run_line 8 (recovery 4 5 7) ≡ codes "seed 4 sweeps none\n"
unfolding digits
prints-unserved = refl

-- in a table each run has a line; without one, only runs that have not served
prints-table : run_lines 8 true (recovery 4 5 8 ∷ recovery 5 2 7 ∷ []) ≡ codes "seed 4 sweeps 5\nseed 5 sweeps none\n"
unfolding digits
prints-table = refl

prints-unserved_alone : run_lines 8 false (recovery 4 5 8 ∷ recovery 5 2 7 ∷ []) ≡ codes "seed 5 sweeps none\n"
unfolding digits
prints-unserved_alone = refl

sums-served : served_sweeps (recovery 4 5 8 ∷ recovery 5 2 7 ∷ recovery 6 1 8 ∷ []) 8 ≡ 5 ∷ 1 ∷ []
sums-served = refl

prints-summary : summary_line (Some (record { least = 1; median = 2; most = 8 })) ≡ codes "sweeps least 1 median 2 most 8\n"
unfolding digits
prints-summary = refl

prints-no_summary : summary_line None ≡ codes "sweeps least none median none most none\n"
prints-no_summary = refl

all-served : HaveServed (recovery 4 5 8 ∷ []) 8
all-served = search arith

all_not-served : ¬ HaveServed (recovery 4 5 8 ∷ recovery 5 2 7 ∷ []) 8
all_not-served h =
    let P : Recovery → Type 0 = λ r. IsTrue (has_served r 8) in
    grind (arith, All-head P (recovery 5 2 7) [] (All-tail P (recovery 4 5 8) (recovery 5 2 7 ∷ []) h))

-- one run does not meet a plan of two, nor do runs of other seeds
abbrev two_runs : MeasurePlan
two_runs = record { runs = 2; seed = 4; scheduler = scheduler.Rounds; table = false; progress = false }

runs_not-one : (r : Recovery) → ¬ AreRunsOf (IsRunOf two_nodes two_runs.scheduler) two_runs (r ∷ [])
runs_not-one r are = grind (arith, are.all)

runs_not-same : (r : Recovery) → ¬ AreRunsOf (IsRunOf two_nodes two_runs.scheduler) two_runs (r ∷ r ∷ [])
runs_not-same r are = omega (arith, are.each.0.seed_is, are.each.1.0.seed_is)

-- ---- rows

-- a run of seed 7 with 5 events, whose links were stable after 2 sweeps, and which served after 5
abbrev settling : ℕ → Settling
settling seen = record { seed = 7; events = 5; links = 2; tree = 4; ring = 5; served = 5; seen = seen }

rows-served : csv_row 8 (settling 8) ≡ codes "7,5,2,4,5,5\n"
unfolding digits
rows-served = refl

-- with fewer sweeps than the bound its four last cells are empty
rows-short : csv_row 8 (settling 7) ≡ codes "7,5,,,,\n"
unfolding digits
rows-short = refl

rows_not-short : csv_row 8 (settling 7) ≢ codes "7,5,2,4,5,5\n"
rows_not-short same = grind (arith, sym rows-short ∙ same)

rows-none : csv_text 8 [] ≡ codes "seed,events,links,tree,ring,served\n"
rows-none = refl

-- ---- schedules and files

orders-rounds : order_of (turns.Rounds 3) ≡ order.Rounds 3
orders-rounds = refl

said-memory : fault_of plan.Memory ≡ fault.Memory
said-memory = refl

said_not-sink : fault_of plan.Sink ≢ fault.Memory
said_not-sink = grind arith

-- a file of four bytes is cut to two, and not to four
cuts : IsCutTo (Some 2) (codes "abcd") (codes "ab")
cuts = (refl, omega arith)

cuts_not-whole : ¬ IsCutTo (Some 4) (codes "abcd") (codes "abcd")
cuts_not-whole cut = omega (arith, cut.1)

cuts-none : IsCutTo None (codes "abcd") (codes "abcd")
cuts-none = refl

cuts_not-none : ¬ IsCutTo None (codes "abcd") (codes "ab")
cuts_not-none cut = grind (arith, cut)

junk-none : (g : Lcg) → junk_text 0 g ≡ []
junk-none g = refl
