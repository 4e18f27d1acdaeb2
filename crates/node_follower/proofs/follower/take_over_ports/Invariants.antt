use Rattle.std.proofs.Common.{◌≡◌}
use Rattle.node_core.specs.View.{site_in}
use Rattle.node_follower.proofs.follower.take_over_ports.Given as goal

abbrev pub invariant-loop-w : goal.invariant-loop-w
invariant-loop-w g l = site_in l.to ≡ site_in l.fn.to
