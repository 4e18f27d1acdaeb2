-- Whether a node is in its place on the tree.
use Rattle.std.specs.Prelude.{ℕ, Bool, true, false, ◌==◌, ◌&&◌, nat_lt, Option, None, Some}
use Rattle.node_core.specs.data_link.topology.Network.{Network}
use Rattle.node_core.specs.data_link.topology.Tree.{distance_of, parent_of}
use Rattle.node_core.specs.State.{LocalState}

-- the two ids are the same, or both are none
abbrev pub same_id : Option ℕ → Option ℕ → Bool
same_id None None = true
same_id (Some v) (Some w) = v == w
same_id _ _ = false

-- a node of the network has the distance and the parent that the network gives it
abbrev pub is_in_place : Network → ℕ → ℕ → Option ℕ → Bool
is_in_place net id distance parent =
    nat_lt id net.nodes && (distance == distance_of net id) && same_id parent (parent_of net id)

-- a node is in its place
abbrev pub is_placed : Network → ℕ → LocalState → Bool
is_placed net id s = is_in_place net id s.distance s.parent
