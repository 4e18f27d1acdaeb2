-- What a node says to a neighbour along a run.
use Rattle.std.specs.Prelude.{ℕ, List, [], ◌∷◌}
use Rattle.topology.specs.declared.frame.Payload.{Payload}
use Rattle.run_model.specs.World.{World}
use Rattle.run_model.specs.Step.{step}
use Rattle.run_model.specs.Project.{present}
use Rattle.run_model.specs.declared.event.Event.{Event}

-- the payloads that u would have said to v, one for each moment of the run
abbrev pub said_in : World → List Event → ℕ → ℕ → List Payload
said_in w [] u v = present w u v ∷ []
said_in w (e ∷ es) u v = present w u v ∷ said_in (step w e) es u v
