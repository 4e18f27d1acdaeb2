use Rattle.std.proofs.Common.{subst}
use Rattle.topology.specs.Network.{Network}
use Rattle.record_gathering.specs.Facts.{edge_facts}
use Rattle.gather_command.specs.Scene.{HasSet}
use Rattle.record_gathering.specs.configuration.ConfigurationView.{world_of}
use Rattle.gather_command.proofs.Scenes.{all-set}
use Rattle.gather_command.proofs.scene.set_up.Goals as goal

pub returns-clause-set : goal.returns-clause-set
returns-clause-set g c =
    let sink = g.K.EventSink in
    let laws = g.met.K.EventSink in
    let edges = subst (λ (n : Network). HasSet sink.takes sink.failures c.in_ok-scene.scene c.args.sink.now (edge_facts c.args.net.now n)
    c.set_edges.new.scene c.set_edges.new.sink) c.net.ensures c.in_ok-set_edges.ensures.set in
    all-set sink.takes sink.failures laws.takes_none laws.takes_both c.facts_join.ensures c.runs.ensures.join c.runs.ensures.frame
    c.args.net.now (world_of c.args.world.now) c.network_mark.result c.in_ok-scene.scene c.set_edges.new.scene c.set_nodes.new.scene
    c.set_all_links.new.scene c.args.sink.now c.set_edges.new.sink c.set_nodes.new.sink c.set_all_links.new.sink
    c.network_mark.ensures c.in_ok-scene.ensures edges c.in_ok-set_nodes.ensures.set
    c.in_ok-set_all_links.ensures.set
