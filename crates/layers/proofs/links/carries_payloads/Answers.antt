use Rattle.std.proofs.Common.{◌≡◌, ◌∙◌, ap, sym}
use Rattle.configuration.specs.ConfigurationView.{world_of}
use Rattle.layers.proofs.Payloads.{all-carried}
use Rattle.layers.proofs.links.carries_payloads.Goals as goal

pub returns : goal.returns
returns g c =
    let w = world_of c.args.configuration.now in
    let from = c.args.from in
    let to = c.args.to in
    let near = (w.node from).port to in
    let far = (w.node to).port from in
    let seq : near.seq ≡ c.new-start.result.seq = sym (c.new-start.ensures.seq ∙ c.seq.ensures ∙ ap (λ s. (s.port to).seq) c.node-near.ensures.state) in
    let staged : near.staged ≡ c.new-start.result.staged =
    sym (c.new-start.ensures.staged ∙ c.staged_for.ensures ∙ ap (λ s. (s.port to).staged) c.node-near.ensures.state) in
    all-carried near far (w.link from to) c.new-start.result c.after-copied.result c.after_payloads.result c.last.result c.copy_of.result c.is_good.result
    c.new-start.ensures.admits
    (λ other. c.after-copied.ensures.admits near other seq staged)
    (λ other. c.after_payloads.ensures.admits near other (seq ∙ sym c.after-copied.ensures.seq) (staged ∙ sym c.after-copied.ensures.staged))
    (c.last.ensures ∙ ap (λ s. (s.port from).last) c.node-far.ensures.state)
    (c.copy_of.ensures ∙ ap (λ s. (s.port from).copy) c.node-far.ensures.state)
    c.is_good.ensures
