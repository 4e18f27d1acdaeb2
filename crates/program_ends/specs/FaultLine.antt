-- The line that says why the program ends with status 1.
use Rattle.std.specs.Prelude.{ℕ, List, ◌++◌, codes}
use Rattle.command_faults.specs.declared.fault.Fault.{Fault}
use Rattle.command_faults.specs.declared.path_fault.PathFault.{PathFault}
use Rattle.command_faults.specs.FaultText.{fault_text}
use Rattle.command_faults.specs.PathFaultText.{path_fault_text}

-- the program's name, and then the fault
abbrev pub fault_line : Fault → List ℕ
fault_line fault = codes "tokentree: " ++ fault_text fault

-- the same for a command that changes a file
abbrev pub path_fault_line : PathFault → List ℕ
path_fault_line fault = codes "tokentree: " ++ path_fault_text fault
