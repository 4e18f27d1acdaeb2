-- The state of standard input, by what a read of it returns.
use Rattle.std.specs.Prelude.{ℕ, ◌==◌, if◌then◌else◌, Result, Ok, Err}
use Rattle.std.specs.IoError.{error_kind}
use Rattle.std.specs.declared.io.Error.{Error}
use Rattle.std.specs.declared.io.ErrorKind.{ErrorKind}
use Rattle.std.specs.declared.io.ErrorKind.TheVariants.{Interrupted}
use Rattle.unix_ends.specs.declared.input.InputSight.{InputSight}
use Rattle.unix_ends.specs.declared.input.InputSight.TheVariants.{Open, Ended, Unreadable}

-- a read that a signal interrupted says nothing, so the input counts as open
abbrev pub sight_of_kind : ErrorKind → InputSight
sight_of_kind Interrupted = Open
sight_of_kind _ = Unreadable

-- a read of no bytes means the end
abbrev pub input_sight : Result ℕ Error → InputSight
input_sight (Ok count) = if count == 0 then Ended else Open
input_sight (Err error) = sight_of_kind (error_kind error)
