use Rattle.std.proofs.Common.{◌≡◌, ◌++◌, drop}
use Rattle.subcommands.specs.MeasuredPlot.{settled_sweeps}
use Rattle.subcommands.proofs.measure_plot.settled_sweeps.Given as goal

-- the sweeps of all runs except those that are left
abbrev pub invariant-loop-run : goal.invariant-loop-run
invariant-loop-run l = settled_sweeps l.bound l.layer l.runs ≡ l.sweeps.items ++ settled_sweeps l.bound l.layer (drop l.run-index l.runs)
