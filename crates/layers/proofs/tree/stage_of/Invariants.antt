use Rattle.configuration.specs.run_model.Tree.{IsTreeAtStage}
use Rattle.configuration.specs.ConfigurationView.{world_of}
use Rattle.layers.proofs.tree.stage_of.Given as goal

-- the tree is at the stage that was come to
abbrev pub invariant-loop-stage : goal.invariant-loop-stage
invariant-loop-stage g l = IsTreeAtStage l.stage (world_of l.configuration)
