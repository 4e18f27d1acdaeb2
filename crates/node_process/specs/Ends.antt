-- The fault with which a node ends.
use Rattle.std.specs.Prelude.{Bool, true, false, Option, None, Some}
use Rattle.record_files.specs.process_parts.node_keeping.declared.saved.AfterSave.{AfterSave}
use Rattle.record_files.specs.process_parts.node_keeping.declared.saved.AfterSave.TheVariants as save
use Rattle.record_files.specs.process_parts.declared.fault.NodeFault.{NodeFault}
use Rattle.record_files.specs.process_parts.declared.fault.NodeFault.TheVariants.{Displaced, StopStays}

-- a node that was displaced, or whose stop file stays, ends with a fault; one that was stopped ends
-- well
abbrev pub end_fault : AfterSave → Option NodeFault
end_fault save.Displaced = Some Displaced
end_fault save.StopStays = Some StopStays
end_fault _ = None

-- a node ends unless the decision is that it goes on
abbrev pub ends_by : AfterSave → Bool
ends_by (save.GoOn lost) = false
ends_by _ = true
