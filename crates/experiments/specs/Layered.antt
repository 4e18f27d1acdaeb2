-- When each layer of the proof stood permanently in a measured run.
use Rattle.std.specs.Prelude.{◌≡◌, ◌≤◌, ℕ, ◌+◌, ◌-◌, ◌*◌, List, length, Option}
use Rattle.topology.specs.Network.{Network}
use Rattle.topology.specs.Eccentricity.{eccentricity_of, sharp_of}
use Rattle.run_model.specs.World.{World}
use Rattle.run_model.specs.Run.{IsUndamaged}
use Rattle.run_model.specs.Count.{IsSweepCount}
use Rattle.run_model.specs.Headline.{IsServing}
use Rattle.run_model.specs.Links.{AreLinksStable}
use Rattle.run_model.specs.Tree.{IsTreeReached}
use Rattle.run_model.specs.declared.event.Event.{Event}
use Rattle.layers.specs.convergence.Ring.{IsTokenRingGood}
use Rattle.judge.specs.Judging.{counted_up_to}
use Rattle.experiments.specs.Recovery.{FailsLast, counted_from}
use Rattle.experiments.specs.Scheduled.{HasEnough, stretches}
use Rattle.experiments.specs.Shown.{scrambled, seeded}
use Rattle.experiments.specs.declared.layered_run.Settling.{Settling}
use Rattle.experiments.specs.declared.measured_run.Scheduler.{Scheduler}

-- after this many sweeps the fact held permanently: one more than there had been when it last
-- failed, or 0 if it never failed
abbrev pub HoldsFrom : (World → Type 0) → World → List Event → ℕ → Type 0
HoldsFrom Fact start events sweeps =
    (last : Option ℕ) × FailsLast Fact start events last × (sweeps ≡ counted_from last)

-- These events, without damage, have happened from the start on. There were this many events and
-- sweeps, and each layer stood permanently after its number of sweeps, as the proof defines the
-- layer.
pub record IsSettlingShown (start : World) (events : List Event) (s : Settling) : Type 0 where
  pub undamaged : IsUndamaged start events
  pub events_are : s.events ≡ counted_up_to (length events)
  pub links : HoldsFrom AreLinksStable start events s.links
  pub tree : HoldsFrom IsTreeReached start events s.tree
  pub ring : HoldsFrom IsTokenRingGood start events s.ring
  pub served : HoldsFrom IsServing start events s.served
  pub count : ℕ
  pub counted : IsSweepCount start events count
  pub seen_are : s.seen ≡ counted_up_to count

-- no layer stood later than the proof says
pub record IsSettlingWithin (net : Network) (s : Settling) : Type 0 where
  pub links : s.links ≤ 6
  pub tree : s.tree ≤ 6 + 4 * (eccentricity_of net + 2)
  pub ring : s.ring ≤ sharp_of net - 1
  pub served : s.served ≤ sharp_of net

-- The run of a seed on a network under a scheduler: it bears the seed; it is shown by enough
-- stretches, drawn as for the run that is measured without its layers; and no layer stood later
-- than the proof says.
pub record IsSettlingOf (net : Network) (scheduler : Scheduler) (seed : ℕ) (s : Settling) : Type 0 where
  pub seed_is : s.seed ≡ seed
  pub count : ℕ
  pub enough : HasEnough net s.seen count
  pub shown : IsSettlingShown (scrambled net (seeded seed)) (stretches scheduler net (scrambled net (seeded seed)) (seeded seed) count).0 s
  pub within : IsSettlingWithin net s
