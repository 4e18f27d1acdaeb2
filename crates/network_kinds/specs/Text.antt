-- A network as the members of a TOML document.
use Rattle.std.specs.Prelude.{ℕ, pos, List, [], ◌∷◌, codes}
use Rattle.std.specs.Ordering.{nat_cmp, match_ordering}
use Rattle.std.specs.Cmp.Lexicographic.{slice_cmp}
use Rattle.toml.specs.Data.{Data, Items, no_items, item, Members, no_members, member, integer, array}
use Rattle.topology.specs.Network.{Network, Edge}

-- the members with this value under this key, in the order of their keys
abbrev pub with_member : List ℕ → Data → Members → Members
with_member k d no_members = member k d no_members
with_member k d (member l e ms) =
    match_ordering (slice_cmp nat_cmp k l) (member k d (member l e ms)) (member l d ms) (member l e (with_member k d ms))

-- an edge is an array of its two ends
abbrev pub edge_data : Edge → Data
edge_data e = array (item (integer (pos e.0)) (item (integer (pos e.1)) no_items))

-- and the edges are an array of these
abbrev pub edges_data : List Edge → Items
edges_data [] = no_items
edges_data (e ∷ es) = item (edge_data e) (edges_data es)

-- the five members of a network
abbrev pub network_data : Network → Members
network_data net =
    member (codes "capacity") (integer (pos net.capacity))
    (member (codes "edges") (array (edges_data net.edges))
    (member (codes "lease") (integer (pos net.lease))
    (member (codes "nodes") (integer (pos net.nodes))
    (member (codes "root") (integer (pos net.root)) no_members))))
