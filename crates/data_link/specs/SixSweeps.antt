-- How soon a link is stable, counted in sweeps alone.
use Rattle.std.specs.Prelude.{ℕ, List}
use Rattle.data_link.specs.Edge.{EdgeState, EdgeEvent, IsEdgeInRange, IsStable, edge_run}
use Rattle.data_link.specs.Sweep.{Sweeps}

-- a link is stable after six sweeps, whatever its capacity
abbrev pub StableAfterSixSweeps : Type 0
StableAfterSixSweeps =
    (capacity : ℕ) (s : EdgeState) (es : List EdgeEvent) → IsEdgeInRange capacity s
    → Sweeps capacity s 6 es
    → IsStable capacity (edge_run capacity s es)
