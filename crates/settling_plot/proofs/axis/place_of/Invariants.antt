use Rattle.std.proofs.Common.{◌≡◌, ◌≤◌, ◌+◌, ◌*◌}
use Rattle.settling_plot.specs.Axes.{place_of}
use Rattle.settling_plot.proofs.axis.place_of.Given as goal

-- the first doublings are gone through
abbrev pub invariant-loop-k : goal.invariant-loop-k
invariant-loop-k l = (l.place ≡ place_of l.step l.k l.sweeps) × (l.place ≤ 640 * (l.k + 1))
