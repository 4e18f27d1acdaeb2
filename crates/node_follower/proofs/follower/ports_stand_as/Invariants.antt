use Rattle.std.proofs.Common.{All, take}
use Rattle.node_core.specs.View.{site_in, state_of}
use Rattle.node_follower.specs.Following.{AreSameAt}
use Rattle.node_follower.proofs.follower.ports_stand_as.Given as goal

abbrev pub invariant-loop-w : goal.invariant-loop-w
invariant-loop-w g l = All (λ w. AreSameAt w (state_of l.one) (state_of l.other)) (take l.w-index (site_in l.one).neighbours)
