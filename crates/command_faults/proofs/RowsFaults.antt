-- Small examples of how a fault is reported, with one that is reported otherwise.
use Rattle.std.proofs.Common.{◌≡◌, ◌≢◌, codes, refl, arith}
use Rattle.network_file.specs.topology.declared.fault.NetFault.TheVariants.{NotToml}
use Rattle.network_file.specs.declared.fault.NetworkFault.TheVariants.{Refused, Unreadable}
use Rattle.command_faults.specs.declared.fault.Fault.TheVariants as fault
use Rattle.command_faults.specs.declared.path_fault.PathFault.TheVariants as path
use Rattle.command_faults.specs.FaultText.{fault_text}
use Rattle.command_faults.specs.PathFaultText.{path_fault_text}

says-network : fault_text (fault.Network Unreadable) ≡ codes "network Unreadable"
says-network = refl

says-refused : fault_text (fault.Network (Refused NotToml)) ≡ codes "network NotToml"
says-refused = refl

says-node : fault_text fault.NoNode ≡ codes "the network has no such node"
says-node = refl

says-long : fault_text fault.EventsLong ≡ codes "the events are too long"
says-long = refl

says_not-output : fault_text fault.Output ≢ fault_text fault.Memory
says_not-output = grind arith

says-path : path_fault_text (path.Fault fault.Threads) ≡ codes "a thread cannot be started"
says-path = refl
