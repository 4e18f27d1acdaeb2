-- What a measured run has shown.
use Rattle.std.specs.Prelude.{◌≡◌, ◌≤◌, ℕ, List, Option}
use Rattle.rand_core.specs.Pcg32Seed.{pcg32_seed}
use Rattle.rand_pcg.specs.Lcg.{Lcg}
use Rattle.rand_pcg.specs.Pcg.{pcg32_of_seed}
use Rattle.topology.specs.Network.{Network}
use Rattle.topology.specs.Eccentricity.{sharp_of}
use Rattle.run_model.specs.World.{World}
use Rattle.run_model.specs.Start.{default_world}
use Rattle.run_model.specs.Run.{run, IsUndamaged}
use Rattle.run_model.specs.Count.{IsSweepCount}
use Rattle.run_model.specs.declared.event.Event.{Event}
use Rattle.schedules.specs.damage_tool.Harms.{draw_world}
use Rattle.judge.specs.Judging.{counted_up_to}
use Rattle.experiments.specs.declared.measured_run.Recovery.{Recovery}
use Rattle.experiments.specs.Recovery.{FailedLast, counted_from}
use Rattle.experiments.specs.Scheduled.{HasEnough, stretches}
use Rattle.experiments.specs.declared.measured_run.Scheduler.{Scheduler}

-- the world to which the harms lead that a scramble draws
abbrev pub scrambled : Network → Lcg → World
scrambled net g = run (default_world net) (draw_world net g).0

-- These events, without damage, have happened from the start on: the run had as many sweeps as were
-- seen, and when it last failed to serve it had had one fewer than those after which it served.
pub record IsShown (start : World) (events : List Event) (sweeps seen : ℕ) : Type 0 where
  pub undamaged : IsUndamaged start events
  pub last : Option ℕ
  pub failed : FailedLast start events last
  pub sweeps_are : sweeps ≡ counted_from last
  pub count : ℕ
  pub counted : IsSweepCount start events count
  pub seen_are : seen ≡ counted_up_to count

-- the generator of a seed
abbrev pub seeded : ℕ → Lcg
seeded seed = pcg32_of_seed (pcg32_seed 16 seed)

-- The run of a seed on a network under a scheduler: it bears the seed; from the world that this
-- seed scrambles, it is shown by the stretches of the scheduler, of which there were enough, drawn
-- from the generator of this seed; and it serves after the sharper bound at the latest.
pub record IsRunOf (net : Network) (scheduler : Scheduler) (seed : ℕ) (r : Recovery) : Type 0 where
  pub seed_is : r.seed ≡ seed
  pub count : ℕ
  pub enough : HasEnough net r.seen count
  pub shown : IsShown (scrambled net (seeded seed)) (stretches scheduler net (scrambled net (seeded seed)) (seeded seed) count).0 r.sweeps r.seen
  pub within : r.sweeps ≤ sharp_of net
