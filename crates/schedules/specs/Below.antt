-- What the laws of rounds rest on: laws of the crates below.
use Rattle.topology.specs.Laws.{JoinedAreNodes}
use Rattle.configuration.specs.run_model.Ticks.{TicksAreAccepted}
use Rattle.configuration.specs.run_model.Laws.{NetworkStays, OwnNodeAlone, RangesStay, StrictSweepsAreSweeps, SweepGrows}

pub record Below : Type 0 where
  pub nodes : JoinedAreNodes
  pub network : NetworkStays
  pub own : OwnNodeAlone
  pub accepted : TicksAreAccepted
  pub ranges : RangesStay
  pub strict : StrictSweepsAreSweeps
  pub grows : SweepGrows
