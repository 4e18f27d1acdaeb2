use Rattle.std.proofs.Common.{◌≡◌, [], replicate}
use Rattle.gather_command.proofs.delays.Delays.new.Given as goal

abbrev pub invariant-loop-place : goal.invariant-loop-place
invariant-loop-place l = l.links.items ≡ replicate l.place []
