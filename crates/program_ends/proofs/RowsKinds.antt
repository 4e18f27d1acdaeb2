-- Small examples of why a file cannot be made, and of what may wait.
use Rattle.std.proofs.Common.{◌≡◌, ◌≢◌, refl, true, false, Some, None, Ok, Err, codes}
use Rattle.std.specs.Fs.{IsDir, IsFile, file_type}
use Rattle.std.specs.declared.fs.Metadata.{Metadata}
use Rattle.std.specs.declared.io.Error.{Error}
use Rattle.std.specs.declared.io.ErrorKind.TheVariants.{NotFound, PermissionDenied}
use Rattle.program_ends.specs.Kinds.{unmade_text, MayWait}

-- its folder is there, and takes no file
says-unmade : unmade_text NotFound true ≡ Some (codes "no file can be made in its folder")
says-unmade = refl

-- its folder is not there, or the file is, without the right to write it
leaves-missing : unmade_text NotFound false ≡ None
leaves-missing = refl

leaves-forbidden : unmade_text PermissionDenied true ≡ None
leaves-forbidden = refl

-- a folder without the file is not left to the system's words
unmade_not-left : unmade_text NotFound true ≢ None
unmade_not-left e = cc

-- a pipe is neither a plain file nor a folder
pipe-waits : (found : Metadata) → ¬ IsFile (file_type found) → ¬ IsDir (file_type found) → MayWait (Ok found)
pipe-waits found no-file no-folder = (no-file, no-folder)

-- a plain file does not make one wait, nor does what is not there
file_not-waits : (found : Metadata) → IsFile (file_type found) → ¬ MayWait (Ok found)
file_not-waits found is-file (no-file, _) = no-file is-file

absent_not-waits : (error : Error) → ¬ MayWait (Err error)
absent_not-waits error waits = waits
