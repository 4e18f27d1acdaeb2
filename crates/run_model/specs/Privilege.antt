-- Which nodes are privileged, and which lend.
use Rattle.std.specs.Prelude.{ℕ, Bool, is_some}
use Rattle.node_core.specs.Machines.{is_node_privileged}
use Rattle.run_model.specs.World.{World, site}

-- a node is privileged if one of its machines may move
abbrev pub is_privileged : World → ℕ → Bool
is_privileged w v = is_node_privileged (site w v) (w.node v)

-- a node lends if its desk lends to a ticket
abbrev pub is_lending : World → ℕ → Bool
is_lending w v = is_some (w.node v).desk.lent
