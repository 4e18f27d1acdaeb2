-- What is seen of the link to a neighbour.
use Rattle.std.specs.Prelude.{is_some, Option, None, Some}
use Rattle.turn_watch.specs.declared.links.LinkSight.{LinkSight}
use Rattle.node_connections.specs.declared.port.NodePort.{NodePort}

-- a link is up while its port has a connection on which the hello is out
abbrev pub link_sight : {P : Type 0} → NodePort P → LinkSight
link_sight port = record { is_up = is_some port.link.pipe; made = port.made }

-- a node that is not in the network has no port
abbrev pub link_at : {P : Type 0} → Option (NodePort P) → Option LinkSight
link_at None = None
link_at (Some port) = Some (link_sight port)
