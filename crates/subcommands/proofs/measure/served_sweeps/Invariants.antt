use Rattle.std.proofs.Common.{◌≡◌, ◌++◌, drop}
use Rattle.subcommands.specs.Measured.{served_sweeps}
use Rattle.subcommands.proofs.measure.served_sweeps.Given as goal

-- the sweeps of all runs except those that are left
abbrev pub invariant-loop-run : goal.invariant-loop-run
invariant-loop-run l = served_sweeps l.runs l.bound ≡ l.sweeps.items ++ served_sweeps (drop l.run-index l.runs) l.bound
