use Rattle.std.proofs.Common.{◌≡◌, ◌++◌, drop, string_bytes}
use Rattle.subcommands.specs.MeasuredCsv.{csv_rows}
use Rattle.subcommands.proofs.measure_csv.push_rows.Given as goal

-- the rows of all runs except those that are left
abbrev pub invariant-loop-run : goal.invariant-loop-run
invariant-loop-run l =
    string_bytes l.fn.text ++ csv_rows l.bound l.runs ≡ string_bytes l.text ++ csv_rows l.bound (drop l.run-index l.runs)
