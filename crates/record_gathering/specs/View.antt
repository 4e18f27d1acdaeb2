-- What contracts see of a gathering: the world, in the state to which the entries so far led it,
-- and the queues that are being noted, by node.
use Rattle.std.specs.Prelude.{ℕ, List}
use Rattle.configuration.specs.ConfigurationView.{ConfigurationView, world_of}
use Rattle.configuration.specs.run_model.World.{World}

pub record GatheringView : Type 0 where
  pub configuration : ConfigurationView
  pub queues : List (List ℕ)

-- its world
abbrev pub gathered : GatheringView → World
gathered g = world_of g.configuration
