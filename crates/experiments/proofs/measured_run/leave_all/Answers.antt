use Rattle.std.proofs.Common.{◌≡◌, rules}
use Rattle.judge.specs.configuration.ConfigurationView.{world_of}
use Rattle.experiments.proofs.Stretches.{by-leaves, by-all_leaves}
use Rattle.experiments.proofs.measured_run.leave_all.Goals as goal

pub loop-node-preserved : goal.loop-node-preserved
loop-node-preserved g c = by-leaves c.loop-node.node _ _ _ _ _ _ c.loop-node.invariant c.leave.ensures

pub returns : goal.returns
returns g c =
    let all : c.loop-node.node ≡ (world_of c.args.watch.now.judge.configuration).net.nodes = search rules in
    by-all_leaves c.loop-node.node _ _ _ _ all c.loop-node.invariant
