-- A measured run that was watched to its end.
use Rattle.std.specs.Prelude.{◌≡◌, ◌≤◌, ℕ, Bool}
use Rattle.topology.specs.Network.{Network}
use Rattle.topology.specs.Eccentricity.{sharp_of}
use Rattle.run_model.specs.Run.{IsUndamaged}
use Rattle.judge.specs.JudgeView.{JudgeView}
use Rattle.experiments.specs.Recovery.{IsWatched, beginning, counted_from}
use Rattle.experiments.specs.Scheduled.{HasEnough, stretches}
use Rattle.experiments.specs.Shown.{scrambled, seeded}
use Rattle.experiments.specs.declared.measured_run.Scheduler.{Scheduler}
use Rattle.experiments.specs.declared.watch.LastFailures.{LastFailures}

-- From the world that the seed scrambles, what was watched are the stretches of the scheduler, without damage and enough of them,
-- drawn from the generator of the seed; and the run serves after the sharper bound at the latest.
pub record IsRunWatched (net : Network) (scheduler : Scheduler) (seed : ℕ) (layered : Bool) (judge : JudgeView) (last : LastFailures) : Type 0 where
  pub count : ℕ
  pub enough : HasEnough net judge.sweeps count
  pub undamaged : IsUndamaged (scrambled net (seeded seed)) (stretches scheduler net (scrambled net (seeded seed)) (seeded seed) count).0
  pub watched : IsWatched (beginning (scrambled net (seeded seed)) layered) (stretches scheduler net (scrambled net (seeded seed)) (seeded seed) count).0 judge last
  pub network : (scrambled net (seeded seed)).net ≡ net
  pub within : counted_from last.serving ≤ sharp_of net
