use Rattle.std.proofs.Common.{◌≡◌, ◌∙◌, ap, sym}
use Rattle.configuration.specs.node_core.Machines.{is_node_privileged}
use Rattle.configuration.specs.node_core.View.{site_in}
use Rattle.configuration.specs.run_model.Privilege.{is_privileged}
use Rattle.configuration.specs.ConfigurationView.{world_of}
use Rattle.judge.proofs.Visits.{one-more, none-more}
use Rattle.judge.proofs.visited.privileged_nodes.Goals as goal
use Rattle.judge.proofs.visited.privileged_nodes.Goals.{then-privileged, else-privileged}

pub loop-node-preserved : goal.loop-node-preserved
loop-node-preserved g c =
    let w = world_of c.args.configuration.now in
    let same : is_privileged w c.loop-node.node ≡ c.privileged.result =
    ap (λ s. is_node_privileged s (w.node c.loop-node.node)) (sym c.node.ensures.site)
    ∙ ap (is_node_privileged (site_in c.node.result.now)) (sym c.node.ensures.state) ∙ sym c.privileged.ensures in
    elim c.if-privileged.branch [
      | then-privileged t ↦ rw t.mask-is (one-more (is_privileged w) c.loop-node.mask t.with-mask.result c.loop-node.node c.loop-node.invariant t.with-mask.ensures (same ∙ t.if-privileged.true))
      | else-privileged t ↦ rw t.mask-is (none-more (is_privileged w) c.loop-node.mask c.loop-node.node c.loop-node.invariant (same ∙ t.if-privileged.false))
    ]
