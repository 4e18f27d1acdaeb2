-- What holds of whole schedules.
use Rattle.std.specs.Prelude.{ℕ, Option}
use Rattle.rand_pcg.specs.Lcg.{Lcg}
use Rattle.topology.specs.Network.{Network, IsAcceptedNetwork}
use Rattle.run_model.specs.Start.{default_world}
use Rattle.schedules.specs.damage_tool.Laws.{AreAccepted}
use Rattle.experiments.specs.Plan.{planned}
use Rattle.experiments.specs.declared.plan.Order.{Order}

-- no event of a schedule is refused, from the default world on
abbrev pub PlansAreAccepted : Type 0
PlansAreAccepted =
    (net : Network) (scramble : Option Lcg) (loan : Option ℕ) (order : Order) → IsAcceptedNetwork net
    → AreAccepted (default_world net) (planned net scramble loan order)
