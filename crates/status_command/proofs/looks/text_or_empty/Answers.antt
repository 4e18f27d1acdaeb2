use Rattle.status_command.proofs.Texts.{text-is, no-text}
use Rattle.status_command.proofs.looks.text_or_empty.Goals as goal

pub returns-in-Ok : goal.returns-in-Ok
returns-in-Ok c = text-is _ _ c.in-Ok.ensures.cases

pub returns-in-Err : goal.returns-in-Err
returns-in-Err c = no-text _ c.in-Err.ensures.cases.0
