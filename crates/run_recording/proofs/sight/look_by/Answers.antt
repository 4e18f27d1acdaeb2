use Rattle.std.proofs.Common.{◌≡◌, ◌∙◌, ap}
use Rattle.world.specs.judge.node_core.Machines.{is_node_privileged}
use Rattle.world.specs.judge.node_core.View.{site_in}
use Rattle.world.specs.run_model.Privilege.{is_privileged}
use Rattle.world.specs.judge.configuration.ConfigurationView.{world_of}
use Rattle.run_recording.proofs.Sights.{look_is}
use Rattle.run_recording.proofs.sight.look_by.Goals as goal

pub returns : goal.returns
returns g c =
    let w = world_of c.args.configuration.now in
    let v = c.args.v in
    let state = c.node-node.ensures.state in
    let privileged : c.privileged.result ≡ is_privileged w v =
    c.privileged.ensures
    ∙ ap (is_node_privileged (site_in c.node-node.result.now)) state
    ∙ ap (λ s. is_node_privileged s (w.node v)) c.node-node.ensures.site in
    let distance = c.distance.ensures ∙ ap (λ s. s.distance) state in
    let parent = c.parent.ensures ∙ ap (λ s. s.parent) state in
    let lent = c.lent.ensures ∙ ap (λ s. s.desk.lent) state in
    look_is w c.args.place v c.distance.result c.parent.result c.is_at.result c.privileged.result c.lent.result distance parent c.is_at.ensures privileged lent
