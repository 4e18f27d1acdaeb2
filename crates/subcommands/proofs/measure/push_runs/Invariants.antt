use Rattle.std.proofs.Common.{◌≡◌, ◌++◌, drop, string_bytes}
use Rattle.subcommands.specs.Measured.{run_lines}
use Rattle.subcommands.proofs.measure.push_runs.Given as goal

-- the lines of all runs except those that are left
abbrev pub invariant-loop-run : goal.invariant-loop-run
invariant-loop-run l =
    string_bytes l.fn.text ++ run_lines l.bound l.table l.runs ≡ string_bytes l.text ++ run_lines l.bound l.table (drop l.run-index l.runs)
