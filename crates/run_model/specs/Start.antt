-- The world in which nothing has happened.
use Rattle.std.specs.Prelude.{ℕ, []}
use Rattle.link_model.specs.topology.Network.{Network}
use Rattle.link_model.specs.topology.Ranges.{ranges_of}
use Rattle.node_core.specs.State.{default_node}
use Rattle.run_model.specs.World.{World}

-- every node is as at its start, nothing is under way, and `pairs` pairs of links are spare
abbrev pub world_with_spares : Network → (pairs : ℕ) → World
world_with_spares net pairs = record { net = net; spares = pairs; node = λ v. default_node (ranges_of net); link = λ u v. [] }

-- the same with no spare pair
abbrev pub default_world : Network → World
default_world net = world_with_spares net 0
