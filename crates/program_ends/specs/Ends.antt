-- The status that the program ends with after a fault.
use Rattle.std.specs.Prelude.{ℕ}
use Rattle.command_faults.specs.declared.fault.Fault.{Fault}
use Rattle.command_faults.specs.declared.fault.Fault.TheVariants.{Closed}

-- 128 and the number of SIGPIPE, 13, if the reader of standard output is gone; else the one for faults
abbrev pub end_status : Fault → ℕ → ℕ
end_status Closed status = 141
end_status fault status = status
