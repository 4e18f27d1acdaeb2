-- A number for each reason why a file is not taken up, so that two can be compared.
use Rattle.std.specs.Prelude.{ℕ}
use Rattle.topology.specs.declared.fault.NetFault.{NetFault}
use Rattle.topology.specs.declared.fault.NetFault.TheVariants as net
use Rattle.network_file.specs.declared.fault.NetworkFault.TheVariants as file
use Rattle.network_file.specs.declared.news.Found.{Found}
use Rattle.network_file.specs.declared.news.Found.TheVariants.{Same, OtherEdges, Other, Refused}

-- no two faults have one number
abbrev pub fault_number : NetFault → ℕ
fault_number net.NotToml = 3
fault_number net.Missing = 4
fault_number net.Shape = 5
fault_number net.TooSmall = 6
fault_number net.TooBig = 7
fault_number net.BadRoot = 8
fault_number net.BadCapacity = 9
fault_number net.BadLease = 10
fault_number net.BadEdge = 11
fault_number net.LoopEdge = 12
fault_number net.DoubleEdge = 13
fault_number net.Apart = 14
fault_number net.Memory = 15
fault_number net.NoEdge = 16

-- 0 is no reason
abbrev pub reason : Found → ℕ
reason Same = 0
reason OtherEdges = 0
reason Other = 1
reason (Refused file.Unreadable) = 2
reason (Refused (file.Refused fault)) = fault_number fault
