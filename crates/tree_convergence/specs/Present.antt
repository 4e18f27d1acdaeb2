-- What is present, and what is staged, along a run; and how often a number moves.
use Rattle.std.specs.Prelude.{◌≡◌, ℕ, Bool, true, List, [], ◌∷◌}
use Rattle.topology.specs.declared.frame.Payload.{Payload}
use Rattle.run_model.specs.World.{World}
use Rattle.run_model.specs.Step.{step}
use Rattle.run_model.specs.data_link.Edge.{moves_in}
use Rattle.run_model.specs.Project.{present, edge_of, edge_events}
use Rattle.run_model.specs.declared.event.Event.{Event}

-- at every moment of a run, what u says about itself to v passes the test
abbrev pub AlwaysPresent : (Payload → Bool) → World → List Event → ℕ → ℕ → Type 0
AlwaysPresent test w [] u v = test (present w u v) ≡ true
AlwaysPresent test w (e ∷ es) u v =
    (test (present w u v) ≡ true) × AlwaysPresent test (step w e) es u v

-- at every moment of a run, what u has staged for v passes the test
abbrev pub AlwaysStaged : (Payload → Bool) → World → List Event → ℕ → ℕ → Type 0
AlwaysStaged test w [] u v = test ((w.node u).port v).staged ≡ true
AlwaysStaged test w (e ∷ es) u v =
    (test ((w.node u).port v).staged ≡ true) × AlwaysStaged test (step w e) es u v

-- how often the number that u sends to v moves along a run
abbrev pub number_moves : World → List Event → ℕ → ℕ → ℕ
number_moves w es u v = moves_in w.net.capacity (edge_of w u v) (edge_events w es u v)
