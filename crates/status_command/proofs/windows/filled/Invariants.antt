use Rattle.std.proofs.Common.{◌≡◌, ◌++◌, drop}
use Rattle.status_command.specs.Windows.{filled}
use Rattle.status_command.proofs.windows.filled.Given as goal

-- the answers so far, and those of the nodes that are left, are all
abbrev pub invariant-loop-answer : goal.invariant-loop-answer
invariant-loop-answer l = filled l.windows l.answers ≡ l.all.items ++ filled l.windows (drop l.answer-index l.answers)
