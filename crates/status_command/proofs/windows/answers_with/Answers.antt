use Rattle.std.proofs.Common.{◌∙◌}
use Rattle.status_command.specs.Asking.{answers_in}
use Rattle.status_command.proofs.Lists.{nodes-answer, nodes-filled}
use Rattle.status_command.proofs.windows.answers_with.Goals as goal

pub returns-clause-nodes : goal.returns-clause-nodes
returns-clause-nodes c =
    rw (c.in_ok-all.ensures, c.as_slice.ensures.value, c.in_ok-said.ensures)
    (nodes-filled c.args.windows.now (answers_in c.args.desks.now) ∙ nodes-answer c.args.desks.now)
