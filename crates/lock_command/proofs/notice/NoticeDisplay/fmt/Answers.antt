use Rattle.lock_command.proofs.notice.NoticeDisplay.fmt.Goals as goal

pub returns-in-NoNode-clause-writes : goal.returns-in-NoNode-clause-writes
returns-in-NoNode-clause-writes g c = λ plain ok. rw c.in-NoNode.is
    (c.write-in-NoNode.ensures.writes plain ok)

pub returns-in-TooLong-clause-writes : goal.returns-in-TooLong-clause-writes
returns-in-TooLong-clause-writes g c = λ plain ok. rw c.in-TooLong.is
    (c.write-in-TooLong.ensures.writes plain ok)

pub returns-in-NoService-clause-writes : goal.returns-in-NoService-clause-writes
returns-in-NoService-clause-writes g c = λ plain ok. rw c.in-NoService.is
    (c.write-in-NoService.ensures.writes plain ok)

pub returns-in-NotInTime-clause-writes : goal.returns-in-NotInTime-clause-writes
returns-in-NotInTime-clause-writes g c = λ plain ok. rw c.in-NotInTime.is
    (c.write-in-NotInTime.ensures.writes plain ok)

pub returns-in-InDoubt-clause-writes : goal.returns-in-InDoubt-clause-writes
returns-in-InDoubt-clause-writes g c = λ plain ok. rw c.in-InDoubt.is
    (c.write-in-InDoubt.ensures.writes plain ok)

pub returns-in-CannotRun-clause-writes : goal.returns-in-CannotRun-clause-writes
returns-in-CannotRun-clause-writes g c = λ plain ok. rw c.in-CannotRun.is
    (c.write-in-CannotRun.ensures.writes plain ok)
