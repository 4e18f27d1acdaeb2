-- Who may use the folder of a network and its files, as POSIX modes: 256, 128 and 64 let the user
-- read, write and enter; 32, 16 and 8 let the group. The right to write to a socket is the right to
-- connect to it.
use Rattle.std.specs.Prelude.{ℕ, ◌+◌, Option, None, Some}
use Rattle.process_parts.specs.declared.rights.Rights.{Rights}
use Rattle.process_parts.specs.declared.rights.Rights.TheVariants.{Usual, GroupLocks}

-- the user alone, or the group may enter and read too
abbrev pub folder_mode : Rights → ℕ
folder_mode Usual = 256 + 128 + 64
folder_mode GroupLocks = 256 + 128 + 64 + 32 + 8

-- the user alone
abbrev pub own_mode : Rights → Option ℕ
own_mode Usual = None
own_mode GroupLocks = Some (256 + 128)

-- the user and the group
abbrev pub clients_mode : Rights → Option ℕ
clients_mode Usual = None
clients_mode GroupLocks = Some (256 + 128 + 32 + 16)
