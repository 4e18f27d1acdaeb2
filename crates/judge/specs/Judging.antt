-- What a judge has counted along a run, and its invariant.
use Rattle.std.specs.Prelude.{◌≡◌, ℕ, ◌+◌, ◌-◌, ◌^◌, min, if◌then◌else◌, is_some, List, [], ◌∷◌, ◌++◌}
use Rattle.configuration.specs.run_model.World.{World, IsWorldInRange}
use Rattle.configuration.specs.run_model.Step.{refusal, step}
use Rattle.configuration.specs.run_model.Run.{run}
use Rattle.configuration.specs.run_model.Count.{after_damage}
use Rattle.configuration.specs.run_model.Greedy.{IsCounted}
use Rattle.configuration.specs.run_model.declared.event.Event.{Event}
use Rattle.judge.specs.Stretch.{StretchView, IsKept}

-- how many events of a list are refused
abbrev pub refused_in : World → List Event → ℕ
refused_in w [] = 0
refused_in w (e ∷ es) = (if is_some (refusal w e) then 1 else 0) + refused_in (step w e) es

-- a count stops at the greatest value of a u64
abbrev pub counted_up_to : ℕ → ℕ
counted_up_to n = min n (2 ^ 64 - 1)

-- The events of a list have led from the start, a world in range, to the world `now`. Since the
-- last damage the judge has seen `count` sweeps, each ended at the first event that completed it,
-- and then a stretch that is not yet a sweep, of which it keeps what it must.
pub record IsJudging (start : World) (es : List Event) (now : World) (s : StretchView) (sweeps refused : ℕ) : Type 0 where
  pub in_range : IsWorldInRange start
  pub now_is : now ≡ run start es
  pub count : ℕ
  pub done : List Event
  pub stretch : List Event
  pub since : (after_damage start es).rest ≡ done ++ stretch
  pub counted : IsCounted (after_damage start es).world done stretch count
  pub kept : IsKept (run (after_damage start es).world done) stretch s
  pub sweeps_are : sweeps ≡ counted_up_to count
  pub refused_are : refused ≡ counted_up_to (refused_in start es)
