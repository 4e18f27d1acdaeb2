-- The program's fault for a simulation's fault.
use Rattle.command_faults.specs.declared.fault.Fault.{Fault}
use Rattle.command_faults.specs.declared.fault.Fault.TheVariants.{EventsUnreadable, EventsLong, Memory, Output}
use Rattle.world.specs.declared.simulation.SimFault.{SimFault}
use Rattle.world.specs.declared.simulation.SimFault.TheVariants.{Memory as MemoryRefused, Read, Long, Write}

-- events that cannot be read, or are too long; memory or output that failed
abbrev pub fault_of : SimFault → Fault
fault_of MemoryRefused = Memory
fault_of Read = EventsUnreadable
fault_of Long = EventsLong
fault_of Write = Output
