use Rattle.std.proofs.Common.{◌≡◌, ◌++◌, map, take, drop}
use Rattle.gather_command.specs.Watch.{one_again}
use Rattle.gather_command.proofs.watch.all_again.Given as goal

-- the nodes in front are done
abbrev pub invariant-loop-place : goal.invariant-loop-place
invariant-loop-place l = l.nodes ≡ map one_again (take l.place l.fn.nodes) ++ drop l.place l.fn.nodes
