-- Faults with which commands may end, and some with which they may not.
use Rattle.std.proofs.Common.{◌≢◌, ℕ, List, refl, arith, inl, inr}
use Rattle.std.specs.Borrow.{Bor}
use Rattle.command_parts.specs.command_faults.declared.fault.Fault.TheVariants.{NoNode, Output, EventsUnwritable}
use Rattle.command_parts.specs.command_faults.declared.path_fault.PathFault.TheVariants.{Fault, Unwritable}
use Rattle.subcommands.specs.Faults.{IsUnplotted, IsUnsaved, IsUnwritten}

module _ (path other : Bor (List ℕ)) where
  unplotted-path : IsUnplotted path (Unwritable path)
  unplotted-path = refl

  -- another file is not blamed
  unplotted_not-other : other ≢ path → ¬ IsUnplotted path (Unwritable other)
  unplotted_not-other differ same = differ same

  unplotted_not-node : ¬ IsUnplotted path (Fault NoNode)
  unplotted_not-node never = never

  unsaved-node : IsUnsaved path (Fault NoNode)
  unsaved-node = tt

  -- nothing is printed
  unsaved_not-output : ¬ IsUnsaved path (Fault Output)
  unsaved_not-output never = never

unwritten-file : IsUnwritten EventsUnwritable
unwritten-file = inr refl

unwritten_not-output : ¬ IsUnwritten Output
unwritten_not-output (inl e) = grind (arith, e)
unwritten_not-output (inr e) = grind (arith, e)
