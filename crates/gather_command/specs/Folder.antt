-- What becomes of a file of a record in a folder.
use Rattle.std.specs.declared.io.ErrorKind.{ErrorKind}
use Rattle.std.specs.declared.io.ErrorKind.TheVariants as kind
use Rattle.gather_command.specs.declared.records.Opened.{Opened}
use Rattle.gather_command.specs.declared.records.Opened.TheVariants.{Absent, NoMemory, Unreadable}

-- what became of a file that was not opened, by the system's answer
abbrev pub not_opened : {F : Type 0} → ErrorKind → Opened F
not_opened kind.NotFound = Absent
not_opened kind.OutOfMemory = NoMemory
not_opened _ = Unreadable
