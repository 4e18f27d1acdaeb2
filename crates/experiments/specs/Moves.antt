-- Events without harms.
use Rattle.std.specs.Prelude.{◌≡◌, false, List}
use Rattle.std.specs.List.{list_any}
use Rattle.layers.specs.configuration.run_model.declared.event.Event.{Event}
use Rattle.experiments.specs.Delays.{is_harm}

-- none of these events is a harm
abbrev pub AreMoves : List Event → Type 0
AreMoves events = list_any is_harm events ≡ false
