use Rattle.std.proofs.Common.{ℕ, ◌<◌}
use Rattle.configuration.specs.ConfigurationView.{world_of}
use Rattle.layers.specs.Stages.{IsNodeTrue}
use Rattle.layers.proofs.tree.is_tree_reached.Given as goal

-- the nodes below `v` show the truth
abbrev pub invariant-loop-v : goal.invariant-loop-v
invariant-loop-v g l = (u : ℕ) → u < l.v → IsNodeTrue (world_of l.configuration) u
