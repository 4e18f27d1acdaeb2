-- Why a file is no network file, before it is read; why a file cannot be made; and when opening a file may wait.
use Rattle.std.specs.Prelude.{ℕ, List, Bool, true, nat_lt, if◌then◌else◌, Option, Some, None, Result, Ok, codes}
use Rattle.std.specs.Fs.{IsDir, IsFile, file_type}
use Rattle.std.specs.declared.fs.Metadata.{Metadata}
use Rattle.std.specs.declared.io.Error.{Error}
use Rattle.std.specs.declared.io.ErrorKind.{ErrorKind}
use Rattle.std.specs.declared.io.ErrorKind.TheVariants.{NotFound}
use Rattle.network_file.specs.NetworkFile.{most_bytes}

-- it is a folder; or no plain file; or has more bytes than a network file may
abbrev pub kind_text : Bool → Bool → ℕ → Option (List ℕ)
kind_text is_folder is_file length =
    if is_folder then Some (codes "is a folder")
    else if is_file then (if nat_lt most_bytes length then Some (codes "has more than 1048576 bytes") else None)
    else Some (codes "is no plain file")

-- the file does not exist, though its folder does; for all else the system's words are enough
abbrev pub unmade_text : ErrorKind → Bool → Option (List ℕ)
unmade_text NotFound true = Some (codes "no file can be made in its folder")
unmade_text _ _ = None

-- by what the system says of the two, the first is a folder and the second a plain file
abbrev pub AreSwapped : Result Metadata Error → Result Metadata Error → Type 0
AreSwapped (Ok file) (Ok dir) = IsDir (file_type file) × IsFile (file_type dir)
AreSwapped _ _ = ⊥

-- by what the system says of it, the file exists, and is neither a plain file nor a folder: opening a pipe waits for its
-- other end
abbrev pub MayWait : Result Metadata Error → Type 0
MayWait (Ok found) = (¬ IsFile (file_type found)) × (¬ IsDir (file_type found))
MayWait _ = ⊥
