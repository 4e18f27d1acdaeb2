use Rattle.std.proofs.Common.{◌∙◌, ap, map}
use Rattle.world.specs.judge.configuration.ConfigurationView.{world_of}
use Rattle.run_recording.specs.Seen.{mark_of_look, edges_of, places_of, sight_of}
use Rattle.run_recording.proofs.Sights.{marks_of_looks, sight_is}
use Rattle.run_recording.proofs.sight.NodesSight.of.Goals as goal

pub returns : goal.returns
returns g c =
    let w = world_of c.args.configuration.now in
    let places = c.places_of-places.ensures ∙ ap places_of c.net.ensures in
    let looks = c.looks_of-looks.ensures places in
    let edges = c.edges_of.ensures ∙ ap edges_of c.net-2.ensures in
    sight_is _ (sight_of w) places edges looks
    (c.marks_of.ensures ∙ ap (λ xs. map mark_of_look xs) looks ∙ marks_of_looks w)
    c.privileged.ensures c.lending.ensures
