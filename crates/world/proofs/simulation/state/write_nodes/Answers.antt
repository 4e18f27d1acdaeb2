use Rattle.std.proofs.Common.{◌≡◌, ◌∙◌, ap, ◌<◌, ℕ, List, arith}
use Rattle.std.proofs.lemmas.Grind.{common_steps}
use Rattle.judge.specs.node_core.Site.{Site}
use Rattle.judge.specs.node_core.Status.{status_line}
use Rattle.judge.specs.node_core.State.{LocalState}
use Rattle.judge.specs.run_model.World.{site, World}
use Rattle.world.specs.StateText.{node_line, node_lines}
use Rattle.judge.specs.configuration.ConfigurationView.{world_of}
use Rattle.world.proofs.Writing.{fails_on_the_way, numbers_fail, numbers_go_on, numbers_end}
use Rattle.world.proofs.simulation.state.write_nodes.Goals as goal

-- the status line of a node that stands as the world has it
line_is : (w : World) (v : ℕ) (line : List ℕ) (at : Site) (state : LocalState) → line ≡ status_line at state → at ≡ site w v → state ≡ w.node v → line ≡ node_line w v
line_is w v line at state is same stands = is ∙ ap (λ s. status_line s state) same ∙ ap (status_line (site w v)) stands

pub returns-in_err-write_all : goal.returns-in_err-write_all
returns-in_err-write_all g c =
    let w = world_of c.args.configuration.now in
    let below : c.loop-v.v < w.net.nodes = grind (arith, common_steps) in
    let line = line_is w c.loop-v.v _ _ _ c.status-len.ensures.text c.node.ensures.site c.node.ensures.state in
    fails_on_the_way c.from_residual.result (node_lines w) _ _ _ _ c.from_residual.ensures.0
    (numbers_fail (node_line w) w.net.nodes c.loop-v.v _ _ _ below c.loop-v.invariant.0 (rw line at c.in_err-write_all.ensures.0))
    (grind (arith, common_steps)) (grind (arith, common_steps))

pub loop-v-preserved : goal.loop-v-preserved
loop-v-preserved g c =
    let w = world_of c.args.configuration.now in
    let below : c.loop-v.v < w.net.nodes = grind (arith, common_steps) in
    let line = line_is w c.loop-v.v _ _ _ c.status-len.ensures.text c.node.ensures.site c.node.ensures.state in
    (numbers_go_on (node_line w) w.net.nodes c.loop-v.v _ _ _ below c.loop-v.invariant.0 (rw line at c.in_ok-write_all.ensures.0), grind (arith, common_steps))

pub returns : goal.returns
returns g c =
    let w = world_of c.args.configuration.now in
    (numbers_end (node_line w) w.net.nodes c.loop-v.v _ _ (grind (arith, common_steps)) c.loop-v.invariant.0, c.loop-v.invariant.1)
