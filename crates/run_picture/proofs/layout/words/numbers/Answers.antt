use Rattle.std.proofs.Common.{◌∙◌, ◌++◌, ap}
use Rattle.topology.specs.Network.{bound_of}
use Rattle.run_picture.specs.Words.{size_words, limit_words, bound_words}
use Rattle.run_picture.proofs.Words.{three_parts}
use Rattle.run_picture.proofs.layout.words.numbers.Goals as goal

pub returns : goal.returns
returns c =
    let net = c.args.net.now in
    three_parts (size_words net) (limit_words net) (bound_words c.bound.result c.sharp_bound.result) _ _ _
    c.in_ok-text.ensures c.in_ok-push_limits.ensures c.in_ok-push_bounds.ensures
    ∙ ap (λ n. size_words net ++ (limit_words net ++ bound_words n c.sharp_bound.result)) c.bound.ensures
    ∙ ap (λ n. size_words net ++ (limit_words net ++ bound_words (bound_of net) n)) c.sharp_bound.ensures
