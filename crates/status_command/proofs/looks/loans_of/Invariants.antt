use Rattle.std.proofs.Common.{◌≡◌, ◌++◌, drop}
use Rattle.status_command.specs.Asking.{loans_in}
use Rattle.status_command.proofs.looks.loans_of.Given as goal

-- the loans so far, and those of the nodes that are left, are all
abbrev pub invariant-loop-asked : goal.invariant-loop-asked
invariant-loop-asked l = loans_in l.all ≡ l.loans.items ++ loans_in (drop l.asked-index l.all)
