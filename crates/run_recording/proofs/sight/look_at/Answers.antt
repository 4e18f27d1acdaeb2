use Rattle.std.proofs.Common.{◌∙◌, ap, ◌<◌, slice_index_or, arith}
use Rattle.std.proofs.lemmas.Grind.{common_steps}
use Rattle.world.specs.judge.configuration.ConfigurationView.{world_of}
use Rattle.run_recording.specs.Seen.{look_by, nowhere}
use Rattle.run_recording.proofs.Sights.{place_there, look_there}
use Rattle.run_recording.proofs.sight.look_at.Goals as goal

pub returns-then-v-nodes : goal.returns-then-v-nodes
returns-then-v-nodes g c =
    λ true.
    let w = world_of c.args.configuration.now in
    let v = c.args.v in
    let within : v < w.net.nodes = grind (arith, common_steps) in
    let place = ap (λ k. slice_index_or c.args.places.now k nowhere) c.from.ensures ∙ ap (λ xs. slice_index_or xs v nowhere) true ∙ place_there w.net v nowhere within c.requires in
    c.look_by.ensures ∙ ap (λ p. look_by w p v) place ∙ look_there w v within
