-- Why a desk is not reached, by what the system answered.
use Rattle.std.specs.Prelude.{◌≡◌, ◌⊎◌, ℕ, List, Bool, true, false, Option, Some, None}
use Rattle.std.specs.Borrow.{Bor}
use Rattle.std.specs.declared.io.ErrorKind.{ErrorKind}
use Rattle.std.specs.declared.io.ErrorKind.TheVariants as kind
use Rattle.lock_command.specs.declared.notice.Notice.{Notice}
use Rattle.lock_command.specs.declared.notice.Notice.TheVariants.{NoFolder, Forbidden, NoSockets, NoNode, TooLong, NoService}
use Rattle.lock_command.specs.declared.notice.Notice.TheVariants.{NobodyListens, NoAnswer, System, Memory}

-- nothing is there: no node, or no folder
abbrev pub missing_notice : Bool → Bor (List ℕ) → ℕ → Notice
missing_notice true folder node = NoNode folder node
missing_notice false folder node = NoFolder folder

-- what is reported of a node that is not reached: too many connections wait to be accepted; the
-- socket's name is too long; the user has no right to it; the process has no descriptor left; else
-- nothing is there
abbrev pub unreached_notice : ErrorKind → Bool → Bor (List ℕ) → ℕ → Notice
unreached_notice kind.WouldBlock has_folder folder node = NoService node
unreached_notice kind.InvalidInput has_folder folder node = TooLong folder node
unreached_notice kind.PermissionDenied has_folder folder node = Forbidden folder
unreached_notice kind.Uncategorized has_folder folder node = System
unreached_notice _ has_folder folder node = missing_notice has_folder folder node

-- memory ran out, or some answer of the system leads to this notice
abbrev pub IsUnreached : Bor (List ℕ) → ℕ → Notice → Type 0
IsUnreached folder node notice =
    (notice ≡ Memory)
    ⊎ ((kind : ErrorKind) × (has_folder : Bool) × (notice ≡ unreached_notice kind has_folder folder node))

-- what is reported of a folder that cannot be read
abbrev pub unread_notice : ErrorKind → Bor (List ℕ) → Notice
unread_notice kind.NotFound folder = NoFolder folder
unread_notice kind.NotADirectory folder = NoFolder folder
unread_notice kind.OutOfMemory folder = Memory
unread_notice kind.Uncategorized folder = System
unread_notice _ folder = Forbidden folder

-- some answer of the system leads to this notice
abbrev pub IsUnread : Bor (List ℕ) → Notice → Type 0
IsUnread folder notice = (kind : ErrorKind) × (notice ≡ unread_notice kind folder)

-- nobody is found in a folder: it has no socket, nobody listens, nobody answers, memory ran out,
-- or it cannot be read
abbrev pub IsUnanswered : Bor (List ℕ) → Notice → Type 0
IsUnanswered folder notice =
    (notice ≡ NoSockets folder) ⊎ ((notice ≡ NobodyListens folder) ⊎ ((notice ≡ NoAnswer folder)
    ⊎ ((notice ≡ Memory) ⊎ IsUnread folder notice)))

-- a session does not begin: the system gives no clock or poll, or memory ran out
abbrev pub IsUnbegun : Notice → Type 0
IsUnbegun notice = (notice ≡ System) ⊎ (notice ≡ Memory)

-- the desk of the chosen node is not reached, or no node's desk is
abbrev pub IsUnreachable : Bor (List ℕ) → Option ℕ → Notice → Type 0
IsUnreachable folder (Some node) notice = IsUnreached folder node notice
IsUnreachable folder None notice = IsUnanswered folder notice

-- the lock could not be asked for
abbrev pub IsUnasked : Bor (List ℕ) → Option ℕ → Notice → Type 0
IsUnasked folder node notice = IsUnreachable folder node notice ⊎ IsUnbegun notice
