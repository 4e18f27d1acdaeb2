-- Dijkstra's machines at one node: one for each tree neighbour, placed on the Euler tour of the
-- tree (Dijkstra 1974).
use Rattle.std.specs.Prelude.{ℕ, Bool, List, if◌then◌else◌}
use Rattle.std.specs.List.{list_any}
use Rattle.registers.specs.topology.declared.frame.Payload.{Payload}
use Rattle.registers.specs.k_state.Machine.{root_moved, is_privileged}
use Rattle.euler_ring.specs.Cycle.{tree_neighbours, source_for, special, is_named, is_on}
use Rattle.node_core.specs.Site.{Site}
use Rattle.node_core.specs.State.{LocalState}

-- the neighbours on the tree, as this node sees it: its parent, and each neighbour whose copy names
-- this node as its parent
abbrev pub tree_of : Site → LocalState → List ℕ
tree_of site s = tree_neighbours s.parent site.id site.neighbours (λ w. (s.port w).copy.parent)

-- what the machine that comes in from t sees before it: the copied ring value at that port
abbrev pub before : LocalState → ℕ → ℕ
before s t = (s.port t).copy.ring

-- the machine from t is the special one: the root's, for its smallest tree neighbour
abbrev pub is_special : Site → LocalState → ℕ → Bool
is_special site s t = is_named (special site.is_root (tree_of site s)) t

-- the machine from t may move: the special one if it sees its own value, any other if it sees a
-- different value
abbrev pub may_move : Site → LocalState → ℕ → Bool
may_move site s t = is_privileged (is_special site s t) (s.value t) (before s t)

-- its value after its move: one more, modulo K, for the special one; what it sees, for any other
abbrev pub moved_value : Site → LocalState → ℕ → ℕ
moved_value site s t =
    if is_special site s t then root_moved (s.value t) site.ranges.ring else before s t

-- a node is privileged if one of its machines may move
abbrev pub is_node_privileged : Site → LocalState → Bool
is_node_privileged site s = list_any (may_move site s) (tree_of site s)

-- the ring value for w: that of the machine which leaves towards w, and 0 if w is no tree
-- neighbour
abbrev pub ring_for : Site → LocalState → ℕ → ℕ
ring_for site s w = if is_on (tree_of site s) w then s.value (source_for (tree_of site s) w) else 0

-- what the node says of itself to w
abbrev pub payload_for : Site → LocalState → ℕ → Payload
payload_for site s w = record { distance = s.distance; parent = s.parent; ring = ring_for site s w }
