-- The nodes that the privilege visits.
use Rattle.std.specs.Prelude.{ℕ, Bool, ◌||◌, List, [], ◌∷◌}
use Rattle.run_model.specs.World.{World}
use Rattle.run_model.specs.Step.{step}
use Rattle.run_model.specs.Count.{after_damage}
use Rattle.run_model.specs.Privilege.{is_privileged}
use Rattle.run_model.specs.declared.event.Event.{Event}

-- v is privileged at some moment of a run, including its start and its end
abbrev pub is_privileged_once : World → List Event → ℕ → Bool
is_privileged_once w [] v = is_privileged w v
is_privileged_once w (e ∷ es) v = is_privileged w v || is_privileged_once (step w e) es v

-- the privilege visited v: v was privileged at some moment since the last damage, including the
-- moment right after it; since the start if there was none
abbrev pub is_visited : World → List Event → ℕ → Bool
is_visited w es v = is_privileged_once (after_damage w es).world (after_damage w es).rest v
