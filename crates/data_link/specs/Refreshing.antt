-- How a staged payload reaches the copy.
use Rattle.std.specs.Prelude.{ℕ, Bool, IsTrue, List, [], ◌∷◌}
use Rattle.link_model.specs.topology.declared.frame.Payload.{Payload}
use Rattle.data_link.specs.Edge.{EdgeState, EdgeEvent, IsEdgeInRange, IsStable, edge_run, edge_step}
use Rattle.data_link.specs.Sweep.{IsSweep}

-- what near has staged passes the test at each moment of a run
abbrev pub StagedPasses : (Payload → Bool) → ℕ → EdgeState → List EdgeEvent → Type 0
StagedPasses test capacity s [] = IsTrue (test s.near.staged)
StagedPasses test capacity s (e ∷ es) =
    IsTrue (test s.near.staged) × StagedPasses test capacity (edge_step capacity s e) es

-- on a stable link, what holds of the staged payload throughout a sweep holds of far's copy at its
-- end, whatever is handed in
abbrev pub SweepCopiesStaged : Type 0
SweepCopiesStaged =
    (test : Payload → Bool) (capacity : ℕ) (s : EdgeState) (es : List EdgeEvent)
    → IsEdgeInRange capacity s → IsStable capacity s
    → IsSweep capacity s es → StagedPasses test capacity s es
    → IsTrue (test (edge_run capacity s es).far.copy)
