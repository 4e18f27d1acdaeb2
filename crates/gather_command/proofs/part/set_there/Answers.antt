use Rattle.std.proofs.Common.{◌∙◌, ap, sym, subst}
use Rattle.record_gathering.specs.View.{GatheringView, gathered}
use Rattle.record_gathering.specs.configuration.ConfigurationView.{ConfigurationView, world_of}
use Rattle.gather_command.specs.Woven.{moved_to}
use Rattle.gather_command.specs.Scene.{IsSetUp}
use Rattle.gather_command.proofs.part.set_there.Goals as goal

pub moves_to-requires : goal.moves_to-requires
moves_to-requires g c =
    ap (λ (x : GatheringView). (gathered x).net.nodes) c.into_parts-gathering.ensures.gathering
    ∙ c.in_ok-scene.ensures.set.nodes
    ∙ sym c.requires

pub returns-clause-set : goal.returns-clause-set
returns-clause-set g c =
    let sink = g.S.EventSink in
    let old = c.args.weaving.now in
    let scene = c.in_ok-scene.scene in (
      scene,
      subst (λ (x : ConfigurationView). IsSetUp sink.takes sink.failures c.args.net.now (world_of x) c.args.sink.now scene c.set_up.new.sink)
          c.world.ensures c.in_ok-scene.ensures.set,
      c.moves_to.ensures ∙ ap (λ (x : GatheringView). moved_to old x c.into_parts-gathering.result.1) c.into_parts-gathering.ensures.gathering
          ∙ ap (moved_to old scene.gathering) c.into_parts-gathering.ensures.found,
    )
