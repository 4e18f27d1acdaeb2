use Rattle.std.proofs.Common.{ℕ, ◌<◌, IsTrue}
use Rattle.configuration.specs.ConfigurationView.{world_of}
use Rattle.configuration.specs.run_model.Privilege.{is_privileged, is_lending}
use Rattle.layers.proofs.loans.are_loans_privileged.Given as goal

-- of the nodes below `v` each that lends is privileged
abbrev pub invariant-loop-v : goal.invariant-loop-v
invariant-loop-v g l = (u : ℕ) → u < l.v → IsTrue (is_lending (world_of l.configuration) u) → IsTrue (is_privileged (world_of l.configuration) u)
