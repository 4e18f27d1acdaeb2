-- Which faults may end a start, by how far it has come.
use Rattle.std.specs.Prelude.{Bool, true, false}
use Rattle.process_parts.specs.declared.start.StartStage.{StartStage}
use Rattle.process_parts.specs.declared.start.StartStage.TheVariants.{Begun, Checked, Entered, Held, Listening}
use Rattle.process_parts.specs.declared.fault.NodeFault.{NodeFault}
use Rattle.process_parts.specs.declared.fault.NodeFault.TheVariants.{Network, NoNode, LongName}
use Rattle.process_parts.specs.declared.fault.NodeFault.TheVariants.{Folder, RightsStay, Lock, Running}
use Rattle.process_parts.specs.declared.fault.NodeFault.TheVariants.{Links, Clients, Looks, System, Input, Memory}

-- invalid words end a start before anything is made, a missing folder before its place is taken,
-- and a place that another process holds before a socket is made; memory may be refused at any
-- time
abbrev pub may_end : StartStage → NodeFault → Bool
may_end stage Memory = true
may_end Begun (Network fault) = true
may_end Begun (NoNode nodes) = true
may_end Begun LongName = true
may_end Checked Folder = true
may_end Checked RightsStay = true
may_end Entered Lock = true
may_end Entered Running = true
may_end Held Links = true
may_end Held Clients = true
may_end Held Looks = true
may_end Held LongName = true
may_end Listening System = true
may_end Listening Input = true
may_end _ _ = false
