-- Where drawn events go.
use Rattle.std.specs.Prelude.{List, ◌++◌}
use Rattle.rand_pcg.specs.Lcg.{Lcg}
use Rattle.run_model.specs.declared.event.Event.{Event}

-- the drawn events come after the events that are there
abbrev pub appended : List Event → List Event × Lcg → List Event × Lcg
appended events drawn = (events ++ drawn.0, drawn.1)
