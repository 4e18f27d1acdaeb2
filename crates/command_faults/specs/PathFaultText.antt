-- How a fault of a command that changes a file is reported.
use Rattle.std.specs.Prelude.{ℕ, List, ◌++◌, codes}
use Rattle.command_faults.specs.FaultText.{fault_text}
use Rattle.command_faults.specs.declared.path_fault.PathFault.{PathFault}
use Rattle.command_faults.specs.declared.path_fault.PathFault.TheVariants.{Fault, Unwritable}

-- a fault of any command, or the path of the file that cannot be written
abbrev pub path_fault_text : PathFault → List ℕ
path_fault_text (Fault fault) = fault_text fault
path_fault_text (Unwritable path) = codes "cannot write " ++ path.now
