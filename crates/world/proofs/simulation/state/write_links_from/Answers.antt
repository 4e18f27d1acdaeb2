use Rattle.std.proofs.Common.{◌≡◌, ◌∙◌, ap, ◌<◌, length, get_or, arith, Contains}
use Rattle.std.proofs.lemmas.Grind.{common_steps}
use Rattle.std.proofs.lemmas.List.Elements.{Contains-get_or}
use Rattle.topology.specs.Network.{neighbours_of}
use Rattle.world.specs.StateText.{link_line, links_from}
use Rattle.judge.specs.configuration.ConfigurationView.{world_of}
use Rattle.world.proofs.Writing.{fails_on_the_way, texts_fail_at, texts_go_on_at}
use Rattle.world.proofs.simulation.state.write_links_from.Goals as goal

pub write_link-requires-clause-to_in : goal.write_link-requires-clause-to_in
write_link-requires-clause-to_in g c =
    let same : c.neighbours-to-items.result.now ≡ neighbours_of c.args.configuration.now.links.net c.args.from =
    c.neighbours-to-items.ensures ∙ ap (λ n. neighbours_of n c.args.from) c.net.ensures in
    let near = neighbours_of c.args.configuration.now.links.net c.args.from in
    let there : c.loop-to.to-index < length near = rw same at c.loop-to-test.true in
    let holds : Contains near (get_or c.neighbours-to-items.result.now c.loop-to.to-index 0) =
    rw same (Contains-get_or near c.loop-to.to-index 0 there) in
    ((c.neighbours.ensures.joined c.args.configuration.now.links.net c.args.from (get_or c.neighbours-to-items.result.now c.loop-to.to-index 0)).0 holds).0

pub returns-in_err-write_link : goal.returns-in_err-write_link
returns-in_err-write_link g c =
    let w = world_of c.args.configuration.now in
    let near = neighbours_of w.net c.args.from in
    let same : c.neighbours-to-items.result.now ≡ near = c.neighbours-to-items.ensures ∙ ap (λ n. neighbours_of n c.args.from) c.net.ensures in
    fails_on_the_way c.from_residual.result (links_from w c.args.from) _ _ _ _ c.from_residual.ensures.0
    (texts_fail_at (link_line w c.args.from) _ near c.loop-to.to-index _ _ _ same c.loop-to-test.true c.loop-to.invariant.0 c.in_err-write_link.ensures.0)
    (grind (arith, common_steps)) (grind (arith, common_steps))

pub loop-to-preserved : goal.loop-to-preserved
loop-to-preserved g c =
    let w = world_of c.args.configuration.now in
    let near = neighbours_of w.net c.args.from in
    let same : c.neighbours-to-items.result.now ≡ near = c.neighbours-to-items.ensures ∙ ap (λ n. neighbours_of n c.args.from) c.net.ensures in
    (texts_go_on_at (link_line w c.args.from) _ near c.loop-to.to-index _ _ _ same c.loop-to-test.true c.loop-to.invariant.0 c.in_ok-write_link.ensures.0, grind (arith, common_steps))
