-- What no event changes in a network.
use Rattle.std.specs.Prelude.{◌≡◌}
use Rattle.link_model.specs.topology.Network.{Network}

-- two networks of the same nodes, with the same root, capacity and lease; their edges may differ
pub record IsSameFrame (net other : Network) : Type 0 where
  pub nodes : other.nodes ≡ net.nodes
  pub root : other.root ≡ net.root
  pub capacity : other.capacity ≡ net.capacity
  pub lease : other.lease ≡ net.lease
