-- What is seen of the nodes of a world.
use Rattle.std.specs.Prelude.{◌≡◌, ℕ, Bool, true, false, ◌==◌, ◌&&◌, if◌then◌else◌, nat_lt, List, Option, None, Some, map, slice_index_or}
use Rattle.std.specs.List.{range_with_len}
use Rattle.topology.specs.Network.{Network, Edge}
use Rattle.topology.specs.Tree.{distance_of, parent_of}
use Rattle.world.specs.run_model.World.{World}
use Rattle.world.specs.run_model.Privilege.{is_privileged}
use Rattle.world.specs.run_model.NodeCounts.{privileged_count, lending_count}
use Rattle.run_recording.specs.declared.mark.Mark.{Mark}
use Rattle.run_recording.specs.declared.mark.Mark.TheVariants.{Settled, Wrong, Privileged, Lending}
use Rattle.run_recording.specs.declared.look.Look.{Look}
use Rattle.run_recording.specs.declared.look.Place.{Place}
use Rattle.run_recording.specs.declared.sight.NodesSight.{NodesSight}

-- both are none, or both are the same node
abbrev pub is_same : Option ℕ → Option ℕ → Bool
is_same None None = true
is_same (Some v) (Some w) = v == w
is_same _ _ = false

-- both are the same place
abbrev pub is_at : Place → Place → Bool
is_at a b = (a.distance == b.distance) && is_same a.parent b.parent

-- a node's distance and parent are the true ones
abbrev pub is_settled : World → ℕ → Bool
is_settled w v = ((w.node v).distance == distance_of w.net v) && is_same (w.node v).parent (parent_of w.net v)

-- a node that lends shows only that
abbrev pub lending_or : Option ℕ → Mark → Mark
lending_or (Some ticket) mark = Lending ticket
lending_or None mark = mark

-- what is seen of a node
abbrev pub mark_of : World → ℕ → Mark
mark_of w v = lending_or (w.node v).desk.lent (if is_privileged w v then Privileged else if is_settled w v then Settled else Wrong)

-- what is seen at an id, which may have no node
abbrev pub mark_at : World → ℕ → Mark
mark_at w v = if nat_lt v w.net.nodes then mark_of w v else Settled

-- the marks of all ids
abbrev pub marks_of : World → List Mark
marks_of w = map (mark_at w) (range_with_len 0 64)

-- ---- the nodes one by one

-- the true place of a node; for an id without a node, the distance 0 and no parent
abbrev pub place_of : Network → ℕ → Place
place_of net v = record { distance = distance_of net v; parent = parent_of net v }

abbrev pub nowhere : Place
nowhere = record { distance = 0; parent = None }

abbrev pub place_at : Network → ℕ → Place
place_at net v = if nat_lt v net.nodes then place_of net v else nowhere

-- the true places of all ids
abbrev pub places_of : Network → List Place
places_of net = map (place_at net) (range_with_len 0 64)

-- the edge at a place among the edges; past the last edge (0, 0), which joins no two nodes
abbrev pub edge_at : Network → ℕ → Edge
edge_at net k = slice_index_or net.edges k (0, 0)

-- the edges, at 256 places: a network has at most that many
abbrev pub edges_of : Network → List Edge
edges_of net = map (edge_at net) (range_with_len 0 256)

-- what is seen of a node, by its true place
abbrev pub look_by : World → Place → ℕ → Look
look_by w place v = record {
  own = record { distance = (w.node v).distance; parent = (w.node v).parent };
  settled = is_at (record { distance = (w.node v).distance; parent = (w.node v).parent }) place;
  privileged = is_privileged w v;
  lent = (w.node v).desk.lent;
}

-- what is seen of a node: its distance and parent, whether they are the true ones, whether it is
-- privileged, and to whom it lends
abbrev pub look_of : World → ℕ → Look
look_of w v = look_by w (place_of w.net v) v

-- the look of an id without a node
abbrev pub nothing : Look
nothing = record { own = nowhere; settled = true; privileged = false; lent = None }

abbrev pub look_at : World → ℕ → Look
look_at w v = if nat_lt v w.net.nodes then look_of w v else nothing

-- what is seen of all ids
abbrev pub looks_of : World → List Look
looks_of w = map (look_at w) (range_with_len 0 64)

-- the mark of a look
abbrev pub mark_of_look : Look → Mark
mark_of_look look = lending_or look.lent (if look.privileged then Privileged else if look.settled then Settled else Wrong)

-- what is seen of a world at one moment
abbrev pub sight_of : World → NodesSight
sight_of w = record {
  places = places_of w.net;
  edges = edges_of w.net;
  looks = looks_of w;
  marks = marks_of w;
  privileged = privileged_count w;
  lending = lending_count w;
}

-- this is the sight of the world
pub record IsSightOf (w : World) (sight : NodesSight) : Type 0 where
  pub is : sight ≡ sight_of w
