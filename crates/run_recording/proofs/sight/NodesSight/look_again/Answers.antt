use Rattle.std.proofs.Common.{◌∙◌, ap, sym, ◌<◌, ◌≤◌, slice_index_or, rules, arith}
use Rattle.std.proofs.lemmas.Grind.{common_steps}
use Rattle.world.specs.judge.configuration.ConfigurationView.{world_of}
use Rattle.run_recording.specs.Seen.{look_by, nowhere, places_of, sight_of}
use Rattle.run_recording.specs.SightSteps.{with_look}
use Rattle.run_recording.proofs.Sights.{look_again_is, same_look_is, no_look, place_there, changed_at}
use Rattle.run_recording.proofs.sight.NodesSight.look_again.Goals as goal

pub returns-then-is-clause-sight : goal.returns-then-is-clause-sight
returns-then-is-clause-sight g c =
    λ w seen differs.
    let new = world_of c.args.configuration.now in
    let v = c.args.v in
    let few : new.net.nodes ≤ 64 = rw c.net.ensures at c.nodes.ensures.network.limits.most in
    let within : v < new.net.nodes = grind (arith, common_steps) in
    let places = ap (λ s. s.places) seen ∙ ap places_of (sym differs.net) in
    let place = ap (λ k. slice_index_or c.args.self.now.places k nowhere) c.from-node.ensures ∙ ap (λ xs. slice_index_or xs v nowhere) places
    ∙ place_there new.net v nowhere within (omega (arith, within, few)) in
    let look = c.look_by-look.ensures ∙ ap (λ p. look_by new p v) place in
    let was = ap (λ k. slice_index_or c.args.self.now.looks k no_look) c.from-node.ensures ∙ ap (λ s. slice_index_or s.looks v no_look) seen in
    seen ∙ same_look_is w new v differs within few (sym look ∙ c.is.ensures c.if-is.true ∙ was)

pub returns-else-is-clause-sight : goal.returns-else-is-clause-sight
returns-else-is-clause-sight g c =
    λ w seen differs.
    let new = world_of c.args.configuration.now in
    let v = c.args.v in
    let few : new.net.nodes ≤ 64 = rw c.net.ensures at c.nodes.ensures.network.limits.most in
    let within : v < new.net.nodes = grind (arith, common_steps) in
    let places = ap (λ s. s.places) seen ∙ ap places_of (sym differs.net) in
    let place = ap (λ k. slice_index_or c.args.self.now.places k nowhere) c.from-node.ensures ∙ ap (λ xs. slice_index_or xs v nowhere) places
    ∙ place_there new.net v nowhere within (omega (arith, within, few)) in
    let look = c.look_by-look.ensures ∙ ap (λ p. look_by new p v) place in
    c.put.ensures
    ∙ ap (λ k. with_look c.args.self.now k c.look_by-look.result) c.from-node.ensures
    ∙ ap (λ s. with_look s v c.look_by-look.result) seen
    ∙ ap (with_look (sight_of w) v) look
    ∙ look_again_is w new v differs within few

pub returns-else-v-nodes-clause-sight : goal.returns-else-v-nodes-clause-sight
returns-else-v-nodes-clause-sight g c =
    λ w seen differs.
    let beyond : w.net.nodes ≤ c.args.v = grind (arith, common_steps) in
    seen ∙ ap sight_of (sym (differs.nowhere beyond))

pub returns-else-is-clause-change : goal.returns-else-is-clause-change
returns-else-is-clause-change g c =
    let new = world_of c.args.configuration.now in
    let v = c.args.v in
    let few : new.net.nodes ≤ 64 = rw c.net.ensures at c.nodes.ensures.network.limits.most in
    let within : v < new.net.nodes = grind (arith, common_steps) in
    let place : c.from-node.result < 64 = rw c.from-node.ensures (omega (arith, within, few)) in
    (place, rw c.put.ensures (changed_at c.args.self.now.marks c.from-node.result _ (search (rules, arith))))
