-- How a fault of the program is reported.
use Rattle.std.specs.Prelude.{ℕ, List, ◌++◌, codes}
use Rattle.network_file.specs.FaultText.{network_fault_text}
use Rattle.command_faults.specs.declared.fault.Fault.{Fault}
use Rattle.command_faults.specs.declared.fault.Fault.TheVariants.{Network, NoNode, EventsUnreadable, EventsLong, Memory}
use Rattle.command_faults.specs.declared.fault.Fault.TheVariants.{Output, Closed, EventsUnwritable, Threads}

-- what failed, with its name
abbrev pub fault_text : Fault → List ℕ
fault_text (Network fault) = network_fault_text fault
fault_text NoNode = codes "the network has no such node"
fault_text EventsUnreadable = codes "the events cannot be read"
fault_text EventsLong = codes "the events are too long"
fault_text Memory = codes "out of memory"
fault_text Output = codes "standard output cannot be written"
fault_text Closed = codes "nobody reads standard output"
fault_text EventsUnwritable = codes "the file for the events cannot be written"
fault_text Threads = codes "a thread cannot be started"
