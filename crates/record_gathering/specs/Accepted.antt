-- The events of a list that are not refused, each in the world to which the ones before it led.
use Rattle.std.specs.Prelude.{if◌then◌else◌, is_some, List, [], ◌∷◌}
use Rattle.configuration.specs.run_model.World.{World}
use Rattle.configuration.specs.run_model.Step.{refusal, step}
use Rattle.configuration.specs.run_model.declared.event.Event.{Event}

abbrev pub accepted : World → List Event → List Event
accepted w [] = []
accepted w (e ∷ es) = if is_some (refusal w e) then accepted w es else e ∷ accepted (step w e) es
