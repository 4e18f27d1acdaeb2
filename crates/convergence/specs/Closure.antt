-- What a run from a legitimate world goes through.
use Rattle.std.specs.Prelude.{◌≡◌, List, ◌++◌}
use Rattle.run_model.specs.World.{World}
use Rattle.run_model.specs.Run.{run}
use Rattle.convergence.specs.Legitimate.{IsLegitimate}
use Rattle.run_model.specs.Headline.{IsServing}
use Rattle.run_model.specs.declared.event.Event.{Event}

-- at each moment of the run, including its start and its end, the world is legitimate and serves
abbrev pub IsLegitimateThroughout : World → List Event → Type 0
IsLegitimateThroughout start es =
    (before rest : List Event) → es ≡ before ++ rest
    → IsLegitimate (run start before) × IsServing (run start before)
