use Rattle.std.proofs.Common.{ℕ, ◌<◌}
use Rattle.configuration.specs.ConfigurationView.{world_of}
use Rattle.configuration.specs.TreeShown.{IsNodeShown}
use Rattle.configuration.proofs.whole.shows_tree.Given as goal

-- the nodes below `v` have their distances and parents
abbrev pub invariant-loop-v : goal.invariant-loop-v
invariant-loop-v g l = (u : ℕ) → u < l.v → IsNodeShown (world_of l.configuration) u
