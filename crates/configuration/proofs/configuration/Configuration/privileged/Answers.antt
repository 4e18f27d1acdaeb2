use Rattle.std.proofs.Common.{rules, ◌≡◌, ◌∙◌, ◌+◌, ap, sym}
use Rattle.run_model.specs.node_core.Machines.{is_node_privileged}
use Rattle.run_model.specs.node_core.View.{site_in}
use Rattle.run_model.specs.Privilege.{is_privileged}
use Rattle.configuration.specs.ConfigurationView.{world_of}
use Rattle.configuration.proofs.NodeCounts.{count-yes, count-no, count-most}
use Rattle.configuration.proofs.configuration.Configuration.privileged.Goals as goal
use Rattle.configuration.proofs.configuration.Configuration.privileged.Goals.{then-privileged, else-privileged}

pub overflow_add-count : goal.overflow_add-count
overflow_add-count g c = let most = count-most (is_privileged (world_of c.args.self.now)) c.loop-v.v c.loop-v.invariant in search (rules, most)

pub loop-v-preserved : goal.loop-v-preserved
loop-v-preserved g c =
    let same : is_privileged (world_of c.args.self.now) c.loop-v.v ≡ c.privileged.result =
    ap (λ s. is_node_privileged s ((world_of c.args.self.now).node c.loop-v.v)) (sym c.node.ensures.site)
    ∙ ap (is_node_privileged (site_in c.node.result.now)) (sym c.node.ensures.state) ∙ sym c.privileged.ensures in
    elim c.if-privileged.branch [
      | then-privileged w ↦ w.count-is ∙ ap (λ n. n + 1) c.loop-v.invariant ∙ sym (count-yes (is_privileged (world_of c.args.self.now)) c.loop-v.v (same ∙ w.if-privileged.true))
      | else-privileged w ↦ w.count-is ∙ c.loop-v.invariant ∙ sym (count-no (is_privileged (world_of c.args.self.now)) c.loop-v.v (same ∙ w.if-privileged.false))
    ]
