-- Small examples of each definition, with some that fail.
use Rattle.std.proofs.Common.{◌≡◌, ◌≢◌, true, false, Some, None, refl, arith}
use Rattle.record_files.specs.process_parts.node_keeping.declared.saved.AfterSave.TheVariants as save
use Rattle.record_files.specs.process_parts.declared.fault.NodeFault.TheVariants.{Displaced, StopStays}
use Rattle.node_process.specs.Ends.{end_fault, ends_by}

-- a displaced node ends with its own fault, a stopped one with none
fault-displaced : end_fault save.Displaced ≡ Some Displaced
fault-displaced = refl

fault_not-displaced : end_fault save.Displaced ≢ Some StopStays
fault_not-displaced = grind arith

fault-stopped : end_fault save.Stop ≡ None
fault-stopped = refl

goes-on : ends_by (save.GoOn (record { links = true; clients = false; looks = false })) ≡ false
goes-on = refl

goes_not-on : ends_by save.StopStays ≡ true
goes_not-on = refl
