use Rattle.std.proofs.Common.{◌≡◌, ◌++◌, drop, map}
use Rattle.serde_json.specs.View.{view}
use Rattle.subcommands.specs.MeasuredData.{runs_data}
use Rattle.subcommands.proofs.measure_json.push_runs.Given as goal

-- the data of all runs except those that are left
abbrev pub invariant-loop-run : goal.invariant-loop-run
invariant-loop-run l = runs_data l.bound l.table l.runs
    ≡ map view l.list.items ++ runs_data l.bound l.table (drop l.run-index l.runs)
