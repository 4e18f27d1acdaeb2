-- What a read that gave nothing means.
use Rattle.std.specs.Prelude.{ℕ, ◌==◌, Bool, true, false, not, Result, Ok, Err}
use Rattle.std.specs.IoError.{error_kind}
use Rattle.std.specs.declared.io.Error.{Error}
use Rattle.std.specs.declared.io.ErrorKind.{ErrorKind}
use Rattle.std.specs.declared.io.ErrorKind.TheVariants.{WouldBlock, Interrupted}

-- nothing is there yet, or a signal came: a later try may succeed
abbrev pub is_for_later : ErrorKind → Bool
is_for_later WouldBlock = true
is_for_later Interrupted = true
is_for_later _ = false

-- a stream that has ended gives no more bytes, or a lasting fault
abbrev pub is_end : Result ℕ Error → Bool
is_end (Ok count) = count == 0
is_end (Err error) = not (is_for_later (error_kind error))
