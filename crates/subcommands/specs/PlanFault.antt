-- The program's fault for a schedule's fault.
use Rattle.experiments.specs.declared.plan.PlanFault.{PlanFault}
use Rattle.experiments.specs.declared.plan.PlanFault.TheVariants.{Memory as MemoryRefused, Sink}
use Rattle.command_parts.specs.command_faults.declared.fault.Fault.{Fault}
use Rattle.command_parts.specs.command_faults.declared.fault.Fault.TheVariants.{Memory, Output}

-- memory that was refused, or output that failed
abbrev pub fault_of : PlanFault → Fault
fault_of MemoryRefused = Memory
fault_of Sink = Output
