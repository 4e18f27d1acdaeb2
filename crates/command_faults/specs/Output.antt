-- The fault of a command whose text standard output does not take.
use Rattle.std.specs.Prelude.{◌≡◌, ◌⊎◌, Option, Some, None, Result, Ok, Err}
use Rattle.std.specs.IoError.{error_kind}
use Rattle.std.specs.declared.io.Error.{Error}
use Rattle.std.specs.declared.io.ErrorKind.{ErrorKind}
use Rattle.std.specs.declared.io.ErrorKind.TheVariants.{BrokenPipe}
use Rattle.command_faults.specs.declared.fault.Fault.{Fault}
use Rattle.command_faults.specs.declared.fault.Fault.TheVariants.{Output, Closed}

-- its reader is gone if the system says that the pipe is broken
abbrev pub refused_for : ErrorKind → Fault
refused_for BrokenPipe = Closed
refused_for _ = Output

-- by the error that the system returned
abbrev pub output_fault : Error → Fault
output_fault error = refused_for (error_kind error)

-- standard output failed, or its reader is gone
abbrev pub IsUntaken : Fault → Type 0
IsUntaken fault = (fault ≡ Output) ⊎ (fault ≡ Closed)

-- a sink keeps the first of its errors
abbrev pub first_error : Option Error → Error → Option Error
first_error None error = Some error
first_error (Some first) error = Some first

-- After a call that succeeded, the kept error is the same as before; after a call that failed with an error,
-- it is the first one.
abbrev pub KeepsFirst : {A E : Type 0} → Result A E → Option Error → Option Error → Type 0
KeepsFirst (Ok x) before after = after ≡ before
KeepsFirst (Err e) before after = (error : Error) × (after ≡ first_error before error)

-- a fault of the output becomes that of the first error, if one was kept; any other fault stays as it is
abbrev pub kept_fault : Fault → Option Error → Fault
kept_fault Output (Some error) = output_fault error
kept_fault fault first = fault

-- so a fault of the output stays one, and any other fault stays the same
abbrev pub IsKeptAs : Fault → Fault → Type 0
IsKeptAs Output said = IsUntaken said
IsKeptAs fault said = said ≡ fault
