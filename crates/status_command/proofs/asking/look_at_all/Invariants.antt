use Rattle.std.proofs.Common.{◌≡◌}
use Rattle.status_command.specs.Asking.{nodes_in}
use Rattle.status_command.proofs.asking.look_at_all.Given as goal

abbrev pub invariant-loop-place : goal.invariant-loop-place
invariant-loop-place g l = nodes_in l.all ≡ nodes_in l.fn.all
