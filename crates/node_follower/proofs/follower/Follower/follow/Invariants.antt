use Rattle.std.proofs.Common.{◌≡◌, take}
use Rattle.node_core.specs.Deeds.{Leads}
use Rattle.node_core.specs.View.{site_in, state_of}
use Rattle.node_follower.specs.Following.{account_of}
use Rattle.node_follower.proofs.follower.Follower.follow.Given as goal

abbrev pub invariant-loop-deed : goal.invariant-loop-deed
invariant-loop-deed g l =
    Leads (site_in l.fn.self) (account_of (take l.deed-index l.fn.deeds)) (state_of l.fn.self) (state_of l.self)
    × (site_in l.self ≡ site_in l.fn.self)
