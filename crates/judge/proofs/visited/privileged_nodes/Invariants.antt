use Rattle.std.proofs.Common.{◌≡◌, ◌&&◌, ℕ, nat_lt}
use Rattle.configuration.specs.run_model.Privilege.{is_privileged}
use Rattle.configuration.specs.ConfigurationView.{world_of}
use Rattle.judge.specs.Stretch.{has_bit}
use Rattle.judge.proofs.visited.privileged_nodes.Given as goal

abbrev pub invariant-loop-node : goal.invariant-loop-node
invariant-loop-node g l = (v : ℕ) → has_bit l.mask v ≡ (nat_lt v l.node && is_privileged (world_of l.configuration) v)
