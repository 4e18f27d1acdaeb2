-- What contracts see of the links of a network: a link each way between every two joined nodes,
-- and spare pairs of links.
use Rattle.std.specs.Prelude.{◌≡◌, ℕ, ◌+◌, ◌*◌, ◌/◌, ◌≤◌, ◌&&◌, if◌then◌else◌, nat_lt, IsTrue, List, [], All, length, slice_index_or}
use Rattle.topology.specs.Network.{Network, IsAcceptedNetwork, are_joined}
use Rattle.topology.specs.Ranges.{ranges_of}
use Rattle.run_model.specs.link_model.Link.{LinkView, link}
use Rattle.run_model.specs.link_model.declared.item.Item.{Item}
use Rattle.run_model.specs.World.{item_fits}
use Rattle.configuration.specs.PairTable.{PairTableView, value_at}
use Rattle.configuration.specs.Placed.{ArePlaced}

-- the network; the links, one after the other; the place of the link between every two nodes; and
-- the places of the spare links
pub record LinksView : Type 0 where
  pub net : Network
  pub places : PairTableView
  pub links : List LinkView
  pub spares : List ℕ

-- the link from u to v, if v is a node; the first link stands for all missing ones
abbrev pub link_between : LinksView → ℕ → ℕ → LinkView
link_between l u v = slice_index_or l.links (value_at l.places u v) (link 0 [])

-- what is under way from u to v
abbrev pub under_way : LinksView → ℕ → ℕ → List Item
under_way l u v = if nat_lt u l.net.nodes && nat_lt v l.net.nodes then (link_between l u v).items else []

-- how many pairs of links are spare
abbrev pub spare_pairs : LinksView → ℕ
spare_pairs l = length l.spares / 2

-- Joined nodes have links of their own, and what is under way on them is in range. After the first
-- link come two for each edge, and the spare ones.
pub record IsLinks (l : LinksView) : Type 0 where
  pub network : IsAcceptedNetwork l.net
  pub placed : ArePlaced l.net (are_joined l.net.edges) l.places l.links l.spares
  pub count : length l.links ≡ length l.spares + 2 * length l.net.edges + 1
  pub within : All (λ link. length link.items ≤ link.capacity) l.links
  pub fits : All (λ link. All (λ item. IsTrue (item_fits (ranges_of l.net) item)) link.items) l.links
