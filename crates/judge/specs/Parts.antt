-- The parts of a world.
use Rattle.std.specs.Prelude.{List}
use Rattle.configuration.specs.node_core.View.{NodeView}
use Rattle.configuration.specs.LinksView.{LinksView}
use Rattle.judge.specs.Stretch.{StretchView, HasRoomFor}
use Rattle.configuration.specs.ConfigurationView.{AreNodesOf}

-- the parts belong to one world: each id of the network has a node that knows its own site, and
-- there is room for its stretches
pub record AreOneWorlds (nodes : List NodeView) (links : LinksView) (room : StretchView) : Type 0 where
  pub nodes_are : AreNodesOf links.net nodes
  pub room_is : HasRoomFor links.net room
