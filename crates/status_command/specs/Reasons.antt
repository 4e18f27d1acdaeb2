-- Why nodes are not asked, or not shown, by the system's answer; and the exit status.
use Rattle.std.specs.Prelude.{◌≡◌, ◌⊎◌, ◌≤◌, List, ℕ}
use Rattle.std.specs.Borrow.{Bor}
use Rattle.std.specs.declared.io.ErrorKind.{ErrorKind}
use Rattle.std.specs.declared.io.ErrorKind.TheVariants as kind
use Rattle.status_command.specs.declared.notice.StatusNotice.{StatusNotice}
use Rattle.status_command.specs.declared.notice.StatusNotice.TheVariants.{NoFolder, Forbidden, System, Memory, Output, Closed}

-- why a folder cannot be read; std has the kind Uncategorized for a process that has no descriptor
-- left
abbrev pub why_no_nodes : ErrorKind → Bor (List ℕ) → StatusNotice
why_no_nodes kind.NotFound folder = NoFolder folder
why_no_nodes kind.NotADirectory folder = NoFolder folder
why_no_nodes kind.OutOfMemory folder = Memory
why_no_nodes kind.Uncategorized folder = System
why_no_nodes _ folder = Forbidden folder

-- why a node is not asked
abbrev pub why_not_asked : ErrorKind → StatusNotice
why_not_asked kind.Uncategorized = System
why_not_asked _ = Memory

-- why nothing more is shown: the reader is gone if the system says that the pipe is broken
abbrev pub why_not_written : ErrorKind → StatusNotice
why_not_written kind.BrokenPipe = Closed
why_not_written kind.OutOfMemory = Memory
why_not_written _ = Output

-- The exit status after a notice: 1. If the reader is gone, it is 141, which a shell shows for a process
-- that SIGPIPE ended: 128, and 13, the number of that signal.
abbrev pub notice_status : StatusNotice → ℕ
notice_status Closed = 141
notice_status _ = 1

-- an exit status is 0, 1 or 141; this does not say when it is which
abbrev pub IsEnd : ℕ → Type 0
IsEnd status = (status ≤ 1) ⊎ (status ≡ 141)
