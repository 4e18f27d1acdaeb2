-- The parts of a port that is in range.
use Rattle.std.proofs.Common.{◌<◌, arith, IsTrue, List}
use Rattle.topology.specs.Ranges.{payload_fits}
use Rattle.topology.specs.declared.frame.Ranges.{Ranges}
use Rattle.state_writing.specs.node_core.data_link.Port.{counters_fit}
use Rattle.node_state_file.specs.declared.saved.SavedPort.{SavedPort}
use Rattle.state_writing.specs.node_core.Writes.{own_fits}
use Rattle.std.specs.List.{list_all}
use Rattle.node_state_file.specs.declared.saved.Header.{Header}
use Rattle.node_state_file.specs.Reading.{fields_fit, saved_port_fits}

pub counters_of : (r : Ranges) (p : SavedPort) → IsTrue (saved_port_fits r p) → IsTrue (counters_fit r p.seq p.last)
counters_of r p fits = grind (arith, fits)

pub staged_of : (r : Ranges) (p : SavedPort) → IsTrue (saved_port_fits r p) → IsTrue (payload_fits r p.staged)
staged_of r p fits = grind (arith, fits)

pub copy_of : (r : Ranges) (p : SavedPort) → IsTrue (saved_port_fits r p) → IsTrue (payload_fits r p.copy)
copy_of r p fits = grind (arith, fits)

pub value_of : (r : Ranges) (p : SavedPort) → IsTrue (saved_port_fits r p) → p.value < r.ring
value_of r p fits = grind (arith, fits)

-- The parts of a file that is in range.
pub own_of : (r : Ranges) (h : Header) (ports : List SavedPort) → IsTrue (fields_fit r h ports) → IsTrue (own_fits r h.distance h.parent)
own_of r h ports fits = grind (arith, fits)

pub ports_of : (r : Ranges) (h : Header) (ports : List SavedPort) → IsTrue (fields_fit r h ports) → IsTrue (list_all (saved_port_fits r) ports)
ports_of r h ports fits = grind (arith, fits)
