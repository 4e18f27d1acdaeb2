-- The lines of a desk's clients.
use Rattle.std.specs.Prelude.{ℕ, if◌then◌else◌, List, map, codes}
use Rattle.std.specs.Str.{bytes_eq}
use Rattle.byte_lines.specs.Lines.{whole_lines}
use Rattle.lock_desk.specs.declared.client_line.ClientLine.{ClientLine}
use Rattle.lock_desk.specs.declared.client_line.ClientLine.TheVariants.{Lock, Unlock, Status, Unknown}

-- what a line asks for: three words are known, byte for byte
abbrev pub client_line : List ℕ → ClientLine
client_line line =
    if bytes_eq line (codes "lock") then Lock
    else if bytes_eq line (codes "unlock") then Unlock
    else if bytes_eq line (codes "status") then Status
    else Unknown

-- what the bytes of a client ask for, line by line
abbrev pub client_lines : List ℕ → List ClientLine
client_lines bytes = map client_line (whole_lines bytes)
