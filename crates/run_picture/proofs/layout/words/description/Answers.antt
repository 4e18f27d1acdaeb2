use Rattle.std.proofs.Common.{◌∙◌, ◌+◌, ap}
use Rattle.topology.specs.Network.{bound_of}
use Rattle.run_recording.specs.judge.Judging.{counted_up_to}
use Rattle.run_recording.specs.configuration.ConfigurationView.{world_of}
use Rattle.run_picture.specs.Words.{description_words}
use Rattle.run_picture.proofs.Words.{described, says_of}
use Rattle.run_picture.proofs.layout.words.description.Goals as goal

pub returns-clause-words : goal.returns-clause-words
returns-clause-words c =
    let r = c.args.recording.now in
    let end = world_of c.configuration-configuration.result.now in
    described c.events.result c.refused.result c.sweeps.result c.bound.result end _ _ _ c.in_ok-text.ensures c.in_ok-push_nodes.ensures
    c.in_ok-push_sweeps.ensures (c.bound.ensures ∙ ap bound_of c.net.ensures)
    ∙ ap (λ n. description_words n c.refused.result end c.sweeps.result) c.events.ensures
    ∙ ap (λ n. description_words r.events n end c.sweeps.result) c.refused.ensures
    ∙ ap (λ s. description_words r.events (counted_up_to (r.unread + r.judge.refused)) (world_of s) c.sweeps.result) c.configuration-configuration.ensures
    ∙ ap (λ n. description_words r.events (counted_up_to (r.unread + r.judge.refused)) (world_of r.judge.configuration) n) c.sweeps.ensures.count

pub returns-clause-says : goal.returns-clause-says
returns-clause-says c =
    λ start es recorded.
    let r = c.args.recording.now in
    let end = world_of c.configuration-configuration.result.now in
    says_of start es r c.sweeps.result _ c.sweeps.ensures.seen
    (described c.events.result c.refused.result c.sweeps.result c.bound.result end _ _ _ c.in_ok-text.ensures c.in_ok-push_nodes.ensures
    c.in_ok-push_sweeps.ensures (c.bound.ensures ∙ ap bound_of c.net.ensures)
    ∙ ap (λ n. description_words n c.refused.result end c.sweeps.result) c.events.ensures
    ∙ ap (λ n. description_words r.events n end c.sweeps.result) c.refused.ensures
    ∙ ap (λ s. description_words r.events (counted_up_to (r.unread + r.judge.refused)) (world_of s) c.sweeps.result) c.configuration-configuration.ensures)
    recorded
