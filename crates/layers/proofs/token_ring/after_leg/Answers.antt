use Rattle.std.proofs.Common.{◌≡◌, ◌∙◌, ap}
use Rattle.configuration.specs.ConfigurationView.{world_of}
use Rattle.layers.proofs.Rings.{three-follow}
use Rattle.layers.proofs.token_ring.after_leg.Goals as goal

pub returns-clause-follows : goal.returns-clause-follows
returns-clause-follows g c =
    let w = world_of c.args.configuration.now in
    let here = c.args.here in
    let onward = c.args.onward in
    let machine : c.value-machine.result ≡ (w.node here).value c.args.from = c.value-machine.ensures ∙ ap (λ s. s.value c.args.from) c.node.ensures.state in
    let staged : c.staged_for-staged.result.ring ≡ ((w.node here).port onward).staged.ring =
    ap (λ p. p.ring) c.staged_for-staged.ensures ∙ ap (λ s. (s.port onward).staged.ring) c.node-2.ensures.state in
    let copied : c.copy_of-copied.result.ring ≡ ((w.node onward).port here).copy.ring =
    ap (λ p. p.ring) c.copy_of-copied.ensures ∙ ap (λ s. (s.port here).copy.ring) c.node-3.ensures.state in
    three-follow c.args.reading c.after.result c.after-2.result c.after-3.result _ _ _ _ _ _ machine staged copied
    c.after.ensures.follows c.after-2.ensures.follows c.after-3.ensures.follows
