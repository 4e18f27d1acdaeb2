-- How the command `gather` ends.
use Rattle.std.specs.Prelude.{◌≡◌, ℕ, List, [], ◌∷◌, Option, Result, Ok, Err}
use Rattle.std.specs.Process.{exit_status}
use Rattle.std.specs.declared.io.Error.{Error}
use Rattle.std.specs.declared.process.ExitCode.{ExitCode}
use Rattle.command_parts.specs.command_faults.declared.fault.Fault.{Fault}
use Rattle.command_parts.specs.command_faults.declared.fault.Fault.TheVariants as said
use Rattle.command_parts.specs.command_faults.Output.{kept_fault, IsUntaken}
use Rattle.gather_command.specs.declared.command.PrintFault.{PrintFault}
use Rattle.gather_command.specs.declared.command.PrintFault.TheVariants as print
use Rattle.gather_command.specs.declared.gathered.Gathered.{Gathered}
use Rattle.gather_command.specs.declared.fault.Flaw.{Flaw}
use Rattle.gather_command.specs.declared.fault.GatherFault.{GatherFault}
use Rattle.gather_command.specs.declared.fault.GatherFault.TheVariants as fault

-- the status after events were gathered: 1 if a file was not read to its end
abbrev pub flaws_status : List Flaw → ℕ
flaws_status [] = 0
flaws_status (flaw ∷ flaws) = 1

-- the status is 1 if nothing is gathered; the faults that any command may end with are passed on
abbrev pub EndsWith : GatherFault → Result ExitCode Fault → Type 0
EndsWith fault.Memory end = end ≡ Err said.Memory
EndsWith fault.Output end = end ≡ Err said.Output
EndsWith why (Ok status) = exit_status status ≡ 1
EndsWith why (Err x) = ⊥

-- why not all events were printed: a fault of the output is that of the text's first error
abbrev pub print_fault : GatherFault → Option Error → PrintFault
print_fault fault.Output first = print.Output (kept_fault said.Output first)
print_fault why first = print.Gathering why

-- a fault of the output is reported as one
abbrev pub IsPrintFault : PrintFault → Type 0
IsPrintFault (print.Gathering fault.Output) = ⊥
IsPrintFault (print.Gathering why) = Unit {0}
IsPrintFault (print.Output end) = IsUntaken end

-- after all events were printed the status is that of the flaws; a fault of the output is passed on
abbrev pub PrintingEndsWith : Result Gathered PrintFault → Result ExitCode Fault → Type 0
PrintingEndsWith (Ok shown) (Ok status) = exit_status status ≡ flaws_status shown.flaws.items
PrintingEndsWith (Ok shown) (Err x) = ⊥
PrintingEndsWith (Err (print.Gathering why)) end = EndsWith why end
PrintingEndsWith (Err (print.Output why)) end = end ≡ Err why
