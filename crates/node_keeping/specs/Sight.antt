-- Whether the file that a name leads to is still the one that was made.
use Rattle.std.specs.Prelude.{◌==◌, ◌&&◌, if◌then◌else◌, Result, Ok, Err}
use Rattle.std.specs.declared.io.ErrorKind.{ErrorKind}
use Rattle.std.specs.declared.io.ErrorKind.TheVariants.{NotFound, NotADirectory}
use Rattle.node_keeping.specs.declared.sight.FileId.{FileId}
use Rattle.node_keeping.specs.declared.sight.FileSight.{FileSight}
use Rattle.node_keeping.specs.declared.sight.FileSight.TheVariants.{Own, NotOwn, Unseen}

-- a file is known by its device and its number there; if there is no file, or no folder on the way
-- to it, this counts as another file; any other answer of the system says nothing
abbrev pub file_sight : FileId → Result FileId ErrorKind → FileSight
file_sight own (Ok found) =
    if (found.device == own.device) && (found.inode == own.inode) then Own else NotOwn
file_sight own (Err NotFound) = NotOwn
file_sight own (Err NotADirectory) = NotOwn
file_sight own (Err _) = Unseen
