-- A run is the steps of a list of events, one after the other.
use Rattle.std.specs.Prelude.{Bool, false, ◌||◌, is_none, List, [], ◌∷◌, IsFalse}
use Rattle.run_model.specs.World.{World}
use Rattle.run_model.specs.Step.{refusal, step}
use Rattle.run_model.specs.declared.event.Event.{Event}
use Rattle.run_model.specs.declared.event.Event.TheVariants.{Send, Take, Lose, Tick, Ask, Leave, Damage}

-- the world that a list of events leads to
abbrev pub run : World → List Event → World
run w [] = w
run w (e ∷ es) = run (step w e) es

-- an event is damage if it is a harm that is not refused
abbrev pub is_damage : World → Event → Bool
is_damage w (Damage h) = is_none (refusal w (Damage h))
is_damage w (Send u v) = false
is_damage w (Take u v) = false
is_damage w (Lose u v i) = false
is_damage w (Tick v) = false
is_damage w (Ask v t) = false
is_damage w (Leave v t) = false

-- some event of a list is damage
abbrev pub has_damage : World → List Event → Bool
has_damage w [] = false
has_damage w (e ∷ es) = is_damage w e || has_damage (step w e) es

-- a list is without damage if none of its harms is accepted
abbrev pub IsUndamaged : World → List Event → Type 0
IsUndamaged w es = IsFalse (has_damage w es)
