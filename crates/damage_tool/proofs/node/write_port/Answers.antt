use Rattle.std.proofs.Common.{◌<◌, ◌∙◌, sym, subst, IsTrue}
use Rattle.topology.specs.Ranges.{payload_fits}
use Rattle.run_model.specs.node_core.Site.{Site}
use Rattle.run_model.specs.node_core.View.{state_of}
use Rattle.damage_tool.proofs.Ports.{on-ok, written}
use Rattle.damage_tool.proofs.node.write_port.Goals as goal

pub returns-clause-state : goal.returns-clause-state
returns-clause-state g c =
    let d = c.args.drawn in
    let one = c.set_counters-counters.ensures in
    let two = c.set_staged-staged.ensures in
    let three = c.set_copy-copy.ensures in
    let four = c.set_value-value.ensures in
    let s1 = one.site in
    let s2 = two.site ∙ s1 in
    let s3 = three.site ∙ s2 in
    written c.args.port d (state_of c.args.node.now) (state_of c.set_counters-counters.new.self) (state_of c.set_staged-staged.new.self)
    (state_of c.set_copy-copy.new.self) (state_of c.set_value-value.new.self)
    (on-ok c.set_counters-counters.result (one.variant.1 c.requires.counters) one.ok)
    (on-ok c.set_staged-staged.result (two.variant.1 (subst (λ (s : Site). IsTrue (payload_fits s.ranges d.staged)) (sym s1) c.requires.staged)) two.ok)
    (on-ok c.set_copy-copy.result (three.variant.1 (subst (λ (s : Site). IsTrue (payload_fits s.ranges d.copy)) (sym s2) c.requires.copy)) three.ok)
    (on-ok c.set_value-value.result (four.variant.1 (subst (λ (s : Site). d.value < s.ranges.ring) (sym s3) c.requires.value)) four.ok)
