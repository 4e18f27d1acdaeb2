use Rattle.std.proofs.Common.{ℕ, ◌<◌}
use Rattle.configuration.specs.ConfigurationView.{world_of}
use Rattle.layers.specs.Stages.{IsNodeAtStage}
use Rattle.layers.proofs.tree.is_at_stage.Given as goal

-- the nodes below `v` are at the stage
abbrev pub invariant-loop-v : goal.invariant-loop-v
invariant-loop-v g l = (u : ℕ) → u < l.v → IsNodeAtStage l.stage (world_of l.configuration) u
