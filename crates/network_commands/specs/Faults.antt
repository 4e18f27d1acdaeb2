-- The faults with which a command that reads a network and prints a text may end.
use Rattle.command_faults.specs.declared.fault.Fault.{Fault}
use Rattle.command_faults.specs.declared.fault.Fault.TheVariants.{Network, Memory, Output, Closed}

-- a file gives no network, memory ran out, or standard output failed or has no reader
abbrev pub IsUnprinted : Fault → Type 0
IsUnprinted (Network fault) = Unit {0}
IsUnprinted Memory = Unit {0}
IsUnprinted Output = Unit {0}
IsUnprinted Closed = Unit {0}
IsUnprinted fault = ⊥
