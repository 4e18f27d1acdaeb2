-- What a node's process prints of its start.
use Rattle.std.specs.Prelude.{ℕ, List, ◌++◌, Option, None, Some, codes, decimal}
use Rattle.node_state_file.specs.declared.fault.FileFault.{FileFault}
use Rattle.node_state_file.specs.declared.fault.FileFault.TheVariants as read
use Rattle.node_state_file.specs.declared.starting.StartFault.{StartFault}
use Rattle.node_state_file.specs.declared.starting.StartFault.TheVariants.{File, Absent, Device}
use Rattle.node_folder.specs.declared.note.Note.{Note}
use Rattle.node_folder.specs.declared.note.Note.TheVariants.{Started, Ready}

-- the name of a fault of a stored state
abbrev pub file_fault_name : FileFault → List ℕ
file_fault_name read.Short = codes "Short"
file_fault_name read.Magic = codes "Magic"
file_fault_name read.Shape = codes "Shape"
file_fault_name read.Range = codes "Range"
file_fault_name read.Long = codes "Long"
file_fault_name read.Memory = codes "Memory"

-- the name of the fault that kept a stored state from being used
abbrev pub start_fault_name : StartFault → List ℕ
start_fault_name (File fault) = file_fault_name fault
start_fault_name Absent = codes "Absent"
start_fault_name Device = codes "Device"

-- what a node's process says
abbrev pub note_text : Note → List ℕ
note_text (Started None) = codes "start loaded"
note_text (Started (Some fault)) = codes "start default " ++ start_fault_name fault
note_text Ready = codes "ready"

-- the same as a line, with the node in front if one is named
abbrev pub note_line : Option ℕ → Note → List ℕ
note_line None note = note_text note
note_line (Some id) note = codes "node " ++ (decimal id ++ (codes " " ++ note_text note))
