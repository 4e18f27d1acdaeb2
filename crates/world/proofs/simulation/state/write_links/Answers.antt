use Rattle.std.proofs.Common.{◌<◌, arith}
use Rattle.std.proofs.lemmas.Grind.{common_steps}
use Rattle.world.specs.StateText.{link_lines, links_from}
use Rattle.judge.specs.configuration.ConfigurationView.{world_of}
use Rattle.world.proofs.Writing.{fails_on_the_way, numbers_fail, numbers_go_on, numbers_end}
use Rattle.world.proofs.simulation.state.write_links.Goals as goal

pub returns-in_err-write_links_from : goal.returns-in_err-write_links_from
returns-in_err-write_links_from g c =
    let w = world_of c.args.configuration.now in
    let below : c.loop-from.from < w.net.nodes = grind (arith, common_steps) in
    fails_on_the_way c.from_residual.result (link_lines w) _ _ _ _ c.from_residual.ensures.0
    (numbers_fail (links_from w) w.net.nodes c.loop-from.from _ _ _ below c.loop-from.invariant.0 c.in_err-write_links_from.ensures.0)
    (grind (arith, common_steps)) (grind (arith, common_steps))

pub loop-from-preserved : goal.loop-from-preserved
loop-from-preserved g c =
    let w = world_of c.args.configuration.now in
    let below : c.loop-from.from < w.net.nodes = grind (arith, common_steps) in
    let taken = numbers_go_on (links_from w) w.net.nodes c.loop-from.from _ _ _ below c.loop-from.invariant.0 c.in_ok-write_links_from.ensures.0 in
    (taken, grind (arith, common_steps))

pub returns : goal.returns
returns g c =
    let w = world_of c.args.configuration.now in
    (numbers_end (links_from w) w.net.nodes c.loop-from.from _ _ (grind (arith, common_steps)) c.loop-from.invariant.0, c.loop-from.invariant.1)
