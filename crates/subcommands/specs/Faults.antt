-- Which faults a command may end with, by what it does.
use Rattle.std.specs.Prelude.{◌≡◌, ◌⊎◌, ℕ, List}
use Rattle.std.specs.Borrow.{Bor}
use Rattle.command_parts.specs.command_faults.declared.fault.Fault.{Fault}
use Rattle.command_parts.specs.command_faults.declared.fault.Fault.TheVariants.{Network, NoNode, Memory, Output, Closed, EventsUnwritable}
use Rattle.command_parts.specs.command_faults.declared.path_fault.PathFault.{PathFault}
use Rattle.command_parts.specs.command_faults.declared.path_fault.PathFault.TheVariants.{Fault as Said, Unwritable}
use Rattle.network_commands.specs.Faults.{IsUnprinted}

-- a network was not read or a text not printed, or the file of this path cannot be written
abbrev pub IsUnplotted : Bor (List ℕ) → PathFault → Type 0
IsUnplotted path (Said fault) = IsUnprinted fault
IsUnplotted path (Unwritable unwritten) = unwritten ≡ path

-- a file gives no network, or one without such a node; memory ran out; or the file of this path cannot be written
abbrev pub IsUnsaved : Bor (List ℕ) → PathFault → Type 0
IsUnsaved path (Said (Network fault)) = Unit {0}
IsUnsaved path (Said NoNode) = Unit {0}
IsUnsaved path (Said Memory) = Unit {0}
IsUnsaved path (Said fault) = ⊥
IsUnsaved path (Unwritable unwritten) = unwritten ≡ path

-- the events of a run are not written: memory ran out, or their file cannot be written
abbrev pub IsUnwritten : Fault → Type 0
IsUnwritten fault = (fault ≡ Memory) ⊎ (fault ≡ EventsUnwritable)
