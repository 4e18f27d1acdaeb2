-- Small examples of the line and the status by which the program ends, and some that look like them and are none.
use Rattle.std.proofs.Common.{◌≡◌, ◌≢◌, codes, refl, arith}
use Rattle.command_faults.specs.declared.fault.Fault.TheVariants.{Closed, EventsLong, Memory, NoNode, Output}
use Rattle.command_faults.specs.declared.path_fault.PathFault.TheVariants.{Fault}
use Rattle.program_ends.specs.Ends.{end_status}
use Rattle.program_ends.specs.FaultLine.{fault_line, path_fault_line}

ends-node : fault_line NoNode ≡ codes "tokentree: the network has no such node"
ends-node = refl

ends-long : fault_line EventsLong ≡ codes "tokentree: the events are too long"
ends-long = refl

ends_not-unnamed : fault_line Memory ≢ codes "out of memory"
ends_not-unnamed = grind arith

ends-path : path_fault_line (Fault Output) ≡ codes "tokentree: standard output cannot be written"
ends-path = refl

ends_not-path : path_fault_line (Fault Output) ≢ codes "tokentree: cannot write output"
ends_not-path = grind arith

-- a reader that is gone, and a full disk, under `lock`
status-closed : end_status Closed 125 ≡ 141
status-closed = refl

status-full : end_status Output 125 ≡ 125
status-full = refl

-- a reader that is gone is no usual fault
status_not-fault : end_status Closed 1 ≢ end_status Output 1
status_not-fault = grind arith
