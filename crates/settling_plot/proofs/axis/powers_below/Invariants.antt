use Rattle.std.proofs.Common.{◌≡◌, ◌≤◌}
use Rattle.settling_plot.specs.Axes.{powers_below}
use Rattle.settling_plot.proofs.axis.powers_below.Given as goal

-- as many of the first powers are below
abbrev pub invariant-loop-k : goal.invariant-loop-k
invariant-loop-k l = (l.count ≡ powers_below l.most l.k) × (l.count ≤ l.k)
