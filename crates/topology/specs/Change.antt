-- One edge joins a network or parts from it: why that is refused, and what stays as it is.
use Rattle.std.specs.Prelude.{ℕ, Bool, not, ◌&&◌, ◌||◌, ◌==◌, if◌then◌else◌, nat_le, length, Option, Some, None}
use Rattle.std.specs.List.{remove}
use Rattle.topology.specs.Network.{Network, are_joined, parted_net}
use Rattle.topology.specs.Tree.{is_connected}
use Rattle.topology.specs.declared.fault.NetFault.{NetFault}
use Rattle.topology.specs.declared.fault.NetFault.TheVariants.{TooBig, BadEdge, LoopEdge, DoubleEdge, NoEdge, Apart}

-- one of the two is not a node
abbrev pub has_no_node : Network → ℕ → ℕ → Bool
has_no_node net u v = nat_le net.nodes u || nat_le net.nodes v

-- the first reason, if any, why no edge can join the two
abbrev pub join_fault : Network → ℕ → ℕ → Option NetFault
join_fault net u v =
    if nat_le 256 (length net.edges) then Some TooBig
    else if has_no_node net u v then Some BadEdge
    else if u == v then Some LoopEdge
    else if are_joined net.edges u v then Some DoubleEdge
    else None

-- the first reason, if any, why the edge between the two cannot go
abbrev pub part_fault : Network → ℕ → ℕ → Option NetFault
part_fault net u v =
    if has_no_node net u v then Some BadEdge
    else if not (are_joined net.edges u v) then Some NoEdge
    else if not (is_connected (parted_net net u v)) then Some Apart
    else None

-- the two networks differ at most in their edges
abbrev pub is_same_frame : Network → Network → Bool
is_same_frame net other =
    net.nodes == other.nodes
    && (net.root == other.root && (net.capacity == other.capacity && net.lease == other.lease))

-- the network without the edge at a place
abbrev pub without_place : Network → ℕ → Network
without_place net place = record net { edges = remove net.edges place }
