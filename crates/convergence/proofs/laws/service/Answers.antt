use Rattle.convergence.proofs.Visited.{legitimate-visits, each-state_visits}
use Rattle.convergence.proofs.Passes.{moves-pass_served, moves-clear}
use Rattle.convergence.proofs.Served.{waiting-are_served}
use Rattle.convergence.proofs.laws.service.Goals as goal

pub returns : goal.returns
returns c = let below = c.below.ensures in record {
  legitimate = legitimate-visits below;
  each_state = each-state_visits below;
  passes = moves-pass_served below;
  clears = moves-clear below;
  served = waiting-are_served below;
}
