-- How many sweeps a run holds.
use Rattle.std.specs.Prelude.{ℕ, if◌then◌else◌, suc, List, [], ◌∷◌}
use Rattle.run_model.specs.World.{World}
use Rattle.run_model.specs.Step.{step}
use Rattle.run_model.specs.Run.{has_damage}
pub use Rattle.run_model.specs.Sweep.{Sweeps}
use Rattle.run_model.specs.declared.event.Event.{Event}

-- r is the greatest number of sweeps that a list holds
pub record IsGreatestCount (w : World) (es : List Event) (r : ℕ) : Type 0 where
  pub held : Sweeps w r es
  pub no_more : ¬ Sweeps w (suc r) es

-- a moment of a run: the world then, and the events still to come
pub record Moment : Type 0 where
  pub world : World
  pub rest : List Event

-- the moment after the last damage of a list; the start if there is none
abbrev pub after_damage : World → List Event → Moment
after_damage w [] = record { world = w; rest = [] }
after_damage w (e ∷ es) = if has_damage w (e ∷ es) then after_damage (step w e) es else record { world = w; rest = e ∷ es }

-- the sweep count of a list: the greatest number of sweeps since its last damage
abbrev pub IsSweepCount : World → List Event → ℕ → Type 0
IsSweepCount w es r = IsGreatestCount (after_damage w es).world (after_damage w es).rest r
