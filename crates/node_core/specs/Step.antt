-- What a node does: it takes an item from a neighbour, it ticks, and its clients ask and leave.
use Rattle.std.specs.Prelude.{ℕ, Bool, true, ◌&&◌, is_none, if◌then◌else◌}
use Rattle.euler_ring.specs.Cycle.{is_on}
use Rattle.registers.specs.topology.At.{at}
use Rattle.registers.specs.topology.Ranges.{frame_fits}
use Rattle.registers.specs.topology.declared.frame.Frame.{Frame}
use Rattle.registers.specs.topology.declared.frame.Ranges.{Ranges}
use Rattle.data_link.specs.link_model.declared.item.Item.{Item}
use Rattle.data_link.specs.link_model.declared.item.Item.TheVariants as item
use Rattle.registers.specs.data_link.Port.{port_after}
use Rattle.bfs_tree.specs.Step.{new_distance, new_parent}
use Rattle.lock_desk.specs.Desk.{desk_ticked}
use Rattle.node_core.specs.Site.{Site}
use Rattle.node_core.specs.State.{LocalState}
use Rattle.node_core.specs.Machines.{tree_of, may_move, moved_value, is_node_privileged, payload_for}

-- an item is noise, or a frame whose fields are in range
abbrev pub item_fits : Ranges → Item → Bool
item_fits r (item.Frame f) = frame_fits r f
item_fits r item.Noise = true

-- a frame from neighbour w comes to its port; it may stage what the node had to say to w before it
abbrev pub heard : Site → ℕ → Frame → LocalState → LocalState
heard site w f s = record s {
  port = at s.port w (port_after site.ranges.counter (s.port w) f (payload_for site s w));
}

-- an item from neighbour w: a frame in range is heard; a frame out of range changes nothing, nor
-- does noise
abbrev pub taken : Site → ℕ → Item → LocalState → LocalState
taken site w (item.Frame f) s = if frame_fits site.ranges f then heard site w f s else s
taken site w item.Noise s = s

-- a node's copied distance of its neighbour w
abbrev pub copied_distance : LocalState → ℕ → ℕ
copied_distance s w = (s.port w).copy.distance

-- first part of a tick: distance and parent follow from the copies
abbrev pub recomputed : Site → LocalState → LocalState
recomputed site s = record s {
  distance = new_distance site.is_root site.ranges.nodes (copied_distance s) site.neighbours;
  parent = new_parent site.is_root (copied_distance s) site.neighbours;
}

-- second and third part: the desk ends a loan or begins one
abbrev pub desk_done : Site → LocalState → LocalState
desk_done site s = record s { desk = desk_ticked site.lease (is_node_privileged site s) s.desk }

-- last part: if the desk lends to nobody, each machine that may move does, all at once
abbrev pub machines_moved : Site → LocalState → LocalState
machines_moved site s = record s {
  value = λ t. if is_none s.desk.lent && (is_on (tree_of site s) t && may_move site s t)
      then moved_value site s t
      else s.value t;
}

-- a tick
abbrev pub ticked : Site → LocalState → LocalState
ticked site s = machines_moved site (desk_done site (recomputed site s))
