-- The name by which a network's fault is reported.
use Rattle.std.specs.Prelude.{ℕ, List, codes}
use Rattle.topology.specs.declared.fault.NetFault.{NetFault}
use Rattle.topology.specs.declared.fault.NetFault.TheVariants.{NotToml, Missing, Shape, TooSmall, TooBig, BadRoot, BadCapacity, BadLease, BadEdge, LoopEdge, DoubleEdge, Apart, Memory, NoEdge}

-- the name of a fault
abbrev pub fault_name : NetFault → List ℕ
fault_name NotToml = codes "NotToml"
fault_name Missing = codes "Missing"
fault_name Shape = codes "Shape"
fault_name TooSmall = codes "TooSmall"
fault_name TooBig = codes "TooBig"
fault_name BadRoot = codes "BadRoot"
fault_name BadCapacity = codes "BadCapacity"
fault_name BadLease = codes "BadLease"
fault_name BadEdge = codes "BadEdge"
fault_name LoopEdge = codes "LoopEdge"
fault_name DoubleEdge = codes "DoubleEdge"
fault_name Apart = codes "Apart"
fault_name Memory = codes "Memory"
fault_name NoEdge = codes "NoEdge"
