-- The lines on standard error.
use Rattle.std.specs.Prelude.{ℕ, List, ◌++◌, codes, decimal}
use Rattle.lock_command.specs.declared.notice.Cause.{Cause}
use Rattle.lock_command.specs.declared.notice.Cause.TheVariants as cause
use Rattle.lock_command.specs.declared.notice.Fate.{Fate}
use Rattle.lock_command.specs.declared.notice.Fate.TheVariants as fate
use Rattle.lock_command.specs.declared.notice.Notice.{Notice}
use Rattle.lock_command.specs.declared.notice.Notice.TheVariants.{NoFolder, Forbidden, NoSockets}
use Rattle.lock_command.specs.declared.notice.Notice.TheVariants.{NoNode, TooLong, WentAway}
use Rattle.lock_command.specs.declared.notice.Notice.TheVariants.{NoService, NotInTime, NoRoom, Lost}
use Rattle.lock_command.specs.declared.notice.Notice.TheVariants.{NobodyListens, NoAnswer, Waiting, Granted, Released}
use Rattle.lock_command.specs.Seconds.{seconds_text}
use Rattle.lock_command.specs.declared.notice.Notice.TheVariants.{GuardGone, ClientGone, NoGuard, InDoubt, NoCommand, CannotRun, UnknownEnd}
use Rattle.lock_command.specs.declared.notice.Notice.TheVariants.{System, Memory, Output}

abbrev pub cause_text : Cause → List ℕ
cause_text cause.Ended = codes "ended the loan"
cause_text cause.WentAway = codes "went away"

abbrev pub fate_text : Fate → List ℕ
fate_text fate.Ended = codes "the command is ended"
fate_text fate.RunsOn = codes "the command runs on without it"
fate_text fate.NoCommand = codes "no command ran under it"

-- what each notice says
abbrev pub notice_text : Notice → List ℕ
notice_text (NoFolder folder) = codes "there is no folder " ++ folder.now
notice_text (Forbidden folder) = codes "this user may not use the sockets in " ++ folder.now
notice_text (NoSockets folder) = codes "no node has a socket in " ++ (folder.now
    ++ codes ": start one there")
notice_text (NoNode folder node) =
    codes "nobody listens at " ++ (folder.now ++ (codes "/desk-" ++ (decimal node
    ++ (codes ".sock: start node " ++ (decimal node
    ++ codes ", if the network has it")))))
notice_text (TooLong folder node) =
    folder.now ++ (codes "/desk-" ++ (decimal node
    ++ codes ".sock is too long for a socket's name: 107 bytes at most"))
notice_text (WentAway node) = codes "node " ++ (decimal node
    ++ codes " went away before it lent the lock")
notice_text (NoService node) = codes "what answers for node " ++ (decimal node
    ++ codes " is no lock service")
notice_text (NotInTime node limit) =
    codes "node " ++ (decimal node ++ (codes " did not lend the lock within " ++ (seconds_text limit.millis
    ++ codes " s")))
notice_text (NoRoom node) = codes "node " ++ (decimal node
    ++ codes " has no room for a client: 128 are connected")
notice_text (NobodyListens folder) = codes "nobody listens at the sockets in " ++ (folder.now
    ++ codes ": start a node there")
notice_text (NoAnswer folder) = codes "no node in " ++ (folder.now ++ codes " answers")
notice_text (Waiting node) = codes "waiting at node " ++ decimal node
notice_text (Granted node) = codes "node " ++ (decimal node ++ codes " granted the lock")
notice_text (Released node) = codes "node " ++ (decimal node ++ codes " took the lock back")
notice_text (Lost node cause command) =
    codes "the lock is lost, since node " ++ (decimal node ++ (codes " "
    ++ (cause_text cause ++ (codes ": " ++ fate_text command))))
notice_text (GuardGone command) =
    codes "the second process of this lock is gone, which guards the command: " ++ fate_text command
notice_text ClientGone =
    codes "the first process of this lock is gone, which ran the command: the command is ended"
notice_text NoGuard =
    codes "no second process can be started to guard the command, which was not run"
notice_text (InDoubt node) =
    codes "the lock may have been lost: node "
    ++ (decimal node ++ codes " did not say that it was held to the end")
notice_text (NoCommand name) = codes "there is no command " ++ name.now
notice_text (CannotRun name) = name.now ++ codes " cannot be run"
notice_text UnknownEnd = codes "the system does not say how the command ended"
notice_text System = codes "the system has no descriptor, poll or clock to give; try again"
notice_text Memory = codes "out of memory"
notice_text Output = codes "standard output cannot be written"

-- the line, which begins with the program's name
abbrev pub notice_line : Notice → List ℕ
notice_line notice = codes "tokentree: " ++ notice_text notice
