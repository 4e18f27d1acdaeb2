-- What is said of a file that gives no network.
use Rattle.std.specs.Prelude.{ℕ, List, ◌++◌, codes}
use Rattle.topology.specs.FaultName.{fault_name}
use Rattle.network_file.specs.declared.fault.NetworkFault.{NetworkFault}
use Rattle.network_file.specs.declared.fault.NetworkFault.TheVariants.{Unreadable, Refused}

-- the word `network`, and the name of the fault
abbrev pub network_fault_text : NetworkFault → List ℕ
network_fault_text Unreadable = codes "network Unreadable"
network_fault_text (Refused fault) = codes "network " ++ fault_name fault
