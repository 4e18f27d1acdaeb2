use Rattle.std.proofs.Common.{◌≡◌, ◌++◌, codes, string_bytes}
use Rattle.std.specs.List.{flat_map, range_with_len}
use Rattle.settling_plot.specs.Curves.{corner_in}
use Rattle.settling_plot.proofs.Tallies.{runs_before}
use Rattle.settling_plot.proofs.curves.steps_of.Given as goal

-- the corners of the first numbers are added
abbrev pub invariant-loop-number : goal.invariant-loop-number
invariant-loop-number l =
    (l.by ≡ runs_before l.sweeps l.number)
    × (string_bytes l.steps ≡ codes "M72 378" ++ flat_map (corner_in l.scale l.sweeps) (range_with_len 0 l.number))
