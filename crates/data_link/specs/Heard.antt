-- What a frame does to a port, as its caller sees it.
use Rattle.std.specs.Prelude.{◌==◌, not}
use Rattle.link_model.specs.topology.declared.frame.Frame.{Frame}
use Rattle.data_link.specs.Port.{PortState}
use Rattle.data_link.specs.declared.heard.Heard.{Heard}

-- whether a frame moves the port's number, and whether it is accepted
abbrev pub heard_of : PortState → Frame → Heard
heard_of p f = record { moved = f.ack == p.seq; accepted = not (f.seq == p.last) }
