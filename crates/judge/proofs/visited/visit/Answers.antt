use Rattle.std.proofs.Common.{◌≡◌, ◌∙◌, ap, sym}
use Rattle.configuration.specs.node_core.Machines.{is_node_privileged}
use Rattle.configuration.specs.node_core.View.{site_in}
use Rattle.configuration.specs.run_model.Privilege.{is_privileged}
use Rattle.configuration.specs.ConfigurationView.{world_of}
use Rattle.judge.proofs.Visits.{bit-there, not-here}
use Rattle.judge.proofs.visited.visit.Goals as goal
use Rattle.judge.proofs.visited.visit.Goals.{else-visited-mask-via-then-visited-mask+else-privileged, else-visited-mask-via-else-visited-mask}

pub returns-else-visited-mask : goal.returns-else-visited-mask
returns-else-visited-mask g c =
    let w = world_of c.args.configuration.now in
    elim c.else-visited-mask.branch [
      | else-visited-mask-via-then-visited-mask+else-privileged t ↦
          let same : is_privileged w c.args.node ≡ t.privileged.result =
          ap (λ s. is_node_privileged s (w.node c.args.node)) (sym t.node.ensures.site)
          ∙ ap (is_node_privileged (site_in t.node.result.now)) (sym t.node.ensures.state) ∙ sym t.privileged.ensures in
          λ v. not-here (is_privileged w) c.args.mask c.args.node v (same ∙ t.if-privileged.false)
      | else-visited-mask-via-else-visited-mask t ↦ λ v. bit-there c.args.mask c.with-visited.result c.args.node v (is_privileged w v) c.with-visited.ensures t.if-visited-mask.false
    ]
