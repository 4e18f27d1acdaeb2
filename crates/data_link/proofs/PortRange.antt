-- A port stays in range.
use Rattle.std.proofs.Common.{arith, rules, IsTrue}
use Rattle.link_model.specs.topology.Ranges.{frame_fits, payload_fits}
use Rattle.link_model.specs.topology.declared.frame.Frame.{Frame}
use Rattle.link_model.specs.topology.declared.frame.Payload.{Payload}
use Rattle.link_model.specs.topology.declared.frame.Ranges.{Ranges}
use Rattle.data_link.specs.Port.{PortState, port_acked, port_heard, port_fits}
use Rattle.data_link.specs.PortLaws.{PortStaysInRange}

port_acked-fits : (r : Ranges) (p : PortState) (f : Frame) (present : Payload) → IsTrue (port_fits r p) → IsTrue (payload_fits r present)
    → IsTrue (port_fits r (port_acked r.counter p f present))
port_acked-fits r p f present fits says = search (rules, arith)

port_heard-fits : (r : Ranges) (p : PortState) (f : Frame) → IsTrue (port_fits r p) → IsTrue (frame_fits r f) → IsTrue (port_fits r (port_heard p f))
port_heard-fits r p f fits sent = search (rules, arith)

pub port-stays_in_range : PortStaysInRange
port-stays_in_range r p f present fits sent says = port_heard-fits r (port_acked r.counter p f present) f (port_acked-fits r p f present fits says) sent
