use Rattle.std.proofs.Common.{◌≡◌, ◌++◌, drop}
use Rattle.status_command.specs.Asking.{answers_in}
use Rattle.status_command.proofs.answering.answers.Given as goal

-- the answers so far, and those of the nodes that are left, are all
abbrev pub invariant-loop-asked : goal.invariant-loop-asked
invariant-loop-asked l = answers_in l.all ≡ l.answers.items ++ answers_in (drop l.asked-index l.all)
