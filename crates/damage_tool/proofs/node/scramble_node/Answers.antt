use Rattle.std.proofs.Common.{◌≡◌, ◌∙◌, List, ℕ, ap, sym}
use Rattle.std.proofs.lemmas.List.{at_drop_all}
use Rattle.topology.specs.Ranges.{ranges_of}
use Rattle.topology.specs.declared.frame.Ranges.{Ranges}
use Rattle.run_model.specs.node_core.Site.{Site}
use Rattle.run_model.specs.node_core.View.{state_of}
use Rattle.damage_tool.specs.Draws.{draw_port}
use Rattle.damage_tool.specs.Scrambled.{ports_scrambled}
use Rattle.damage_tool.proofs.Ports.{ports-more}
use Rattle.damage_tool.proofs.node.scramble_node.Goals as goal

pub loop-port-preserved : goal.loop-port-preserved
loop-port-preserved g c =
    let port = c.draw_port-drawn in
    let before = c.loop-port.generator in
    let wrote = c.write_port.ensures in
    let r = ranges_of c.args.net.now in
    let same : c.ranges-ranges.result ≡ r = c.ranges-ranges.ensures.ranges ∙ ap (λ (s : Site). s.ranges) c.requires.site in (
      c.loop-port.invariant.0
          ∙ ports-more r c.neighbours-neighbours.result.now c.loop-port.port-index (state_of c.loop-port.node)
          (state_of c.write_port.new.node) before
          port.new.generator port.result c.loop-port-test.true (port.ensures.drawn ∙ ap (λ (s : Ranges). (draw_port s before).0) same)
          (port.ensures.generator ∙ ap (λ (s : Ranges). (draw_port s before).1) same) wrote.state,
      wrote.site ∙ c.loop-port.invariant.1,
    )

pub returns : goal.returns
returns g c =
    let loop = c.loop-port in
    let left = λ (xs : List ℕ). ports_scrambled (ranges_of c.args.net.now) xs (state_of loop.node) loop.generator in
    record {
      scrambled = sym (loop.invariant.0 ∙ at_drop_all left c.neighbours-neighbours.result.now loop.port-index c.loop-port-test.false);
      site = loop.invariant.1;
    }
