-- How a command ended, as the system reports it.
use Rattle.std.specs.Prelude.{◌/◌, ◌%◌, ◌==◌, if◌then◌else◌}
use Rattle.std.specs.Process.{status_bits}
use Rattle.std.specs.declared.process.status.ExitStatus.{ExitStatus}
use Rattle.lock_client.specs.declared.outcome.CommandEnd.{CommandEnd}
use Rattle.lock_client.specs.declared.outcome.CommandEnd.TheVariants.{Exited, Killed}

-- by POSIX's wait status: low seven bits of 0 mean that it ended by itself, and the next byte is
-- its status; else they are the signal that ended it; 127 means that it has not ended, and its
-- status is unknown
abbrev pub command_end : ExitStatus → CommandEnd
command_end s =
    if status_bits s % 128 == 0 then Exited (status_bits s / 256 % 256)
    else if status_bits s % 128 == 127 then Exited 125
    else Killed (status_bits s % 128)
