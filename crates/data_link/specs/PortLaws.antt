-- The law of one port.
use Rattle.std.specs.Prelude.{IsTrue}
use Rattle.link_model.specs.topology.Ranges.{frame_fits, payload_fits}
use Rattle.link_model.specs.topology.declared.frame.Frame.{Frame}
use Rattle.link_model.specs.topology.declared.frame.Payload.{Payload}
use Rattle.link_model.specs.topology.declared.frame.Ranges.{Ranges}
use Rattle.data_link.specs.Port.{PortState, port_after, port_fits}

-- a frame in range, and a payload in range that is handed in as present, keep a port in range
abbrev pub PortStaysInRange : Type 0
PortStaysInRange =
    (r : Ranges) (p : PortState) (f : Frame) (present : Payload) → IsTrue (port_fits r p)
    → IsTrue (frame_fits r f) → IsTrue (payload_fits r present)
    → IsTrue (port_fits r (port_after r.counter p f present))
