use Rattle.std.proofs.Common.{◌≡◌}
use Rattle.status_command.specs.Asking.{nodes_in}
use Rattle.status_command.proofs.asking.wait_for_all.Given as goal

abbrev pub invariant-loop-look : goal.invariant-loop-look
invariant-loop-look g l = nodes_in l.all ≡ nodes_in l.fn.all
