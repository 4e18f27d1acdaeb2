-- Which nodes an edge of the true tree joins.
use Rattle.std.specs.Prelude.{ℕ, ◌&&◌, ◌||◌, Bool, nat_lt}
use Rattle.topology.specs.Network.{Network}
use Rattle.topology.specs.Tree.{parent_of}
use Rattle.layers.specs.euler_ring.Cycle.{is_named}

-- one of the network's nodes has the other as its parent
abbrev pub has_parent : Network → ℕ → ℕ → Bool
has_parent net v w = nat_lt v net.nodes && is_named (parent_of net v) w

-- an edge of the tree joins two nodes
abbrev pub is_on_tree : Network → ℕ → ℕ → Bool
is_on_tree net v w = has_parent net v w || has_parent net w v
