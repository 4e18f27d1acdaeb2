-- A world: a network, the state of each node, and the items under way on each directed link, as
-- functions of the nodes' ids. There are also spare links.
use Rattle.std.specs.Prelude.{ℕ, ◌<◌, ◌≤◌, ◌==◌, ◌&&◌, if◌then◌else◌, IsTrue, List, All, length}
use Rattle.link_model.specs.topology.At.{at}
use Rattle.link_model.specs.topology.Network.{Network, IsAcceptedNetwork, are_joined}
use Rattle.link_model.specs.topology.Ranges.{ranges_of}
use Rattle.link_model.specs.declared.item.Item.{Item}
use Rattle.node_core.specs.Site.{Site, site_of}
pub use Rattle.node_core.specs.Step.{item_fits}
use Rattle.node_core.specs.State.{LocalState, IsNodeInRange}

-- The network is part of the world, since edges join and go while it runs. `spares` counts the
-- spare pairs of links, each for one more edge. `link u v` holds what is under way from u to v,
-- oldest first.
pub record World : Type 0 where
  pub net : Network
  pub spares : ℕ
  pub node : ℕ → LocalState
  pub link : ℕ → ℕ → List Item

-- Each node is in range, and each link of an edge holds at most as many items as its capacity, all
-- in range. Every such world is a possible start.
pub record IsWorldInRange (w : World) : Type 0 where
  pub network : IsAcceptedNetwork w.net
  pub nodes : (v : ℕ) → v < w.net.nodes → IsNodeInRange (site_of w.net v) (w.node v)
  pub capacity : (u v : ℕ) → IsTrue (are_joined w.net.edges u v) → length (w.link u v) ≤ w.net.capacity
  pub items : (u v : ℕ) → IsTrue (are_joined w.net.edges u v) → All (λ item. IsTrue (item_fits (ranges_of w.net) item)) (w.link u v)

-- what v knows of the network, and what v is in it
abbrev pub site : World → ℕ → Site
site w v = site_of w.net v

-- the world with s as the state of v
abbrev pub with_node : World → ℕ → LocalState → World
with_node w v s = record w { node = at w.node v s }

-- a function of two ids, with the value x at u and v
abbrev pub at_pair : {X : Type 0} → (ℕ → ℕ → X) → ℕ → ℕ → X → ℕ → ℕ → X
at_pair f u v x i j = if (i == u) && (j == v) then x else f i j

-- the world with these items on the link from u to v
abbrev pub with_link : World → ℕ → ℕ → List Item → World
with_link w u v items = record w { link = at_pair w.link u v items }
