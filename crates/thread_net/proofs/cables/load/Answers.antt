use Rattle.std.proofs.Common.{rules, ap, ◌≡◌, ◌∙◌, ◌++◌, ◌∷◌, [], ◌+◌, take}
use Rattle.std.proofs.lemmas.List.{map_more}
use Rattle.std.proofs.lemmas.Option.{slice_get_within, get_or_from_slice_get}
use Rattle.judge.specs.configuration.LinksView.{under_way}
use Rattle.node_runner.specs.Ports.{stamped, opening}
use Rattle.thread_net.proofs.cables.load.Goals as goal

pub loop-index-preserved : goal.loop-index-preserved
loop-index-preserved g c =
    let old = under_way c.args.links.now c.args.from c.args.to in
    let k = c.loop-index.index in
    let i = c.get-item.result in
    let next : opening (take (k + 1) old) ≡ opening (take k old) ++ stamped 0 i ∷ [] =
    map_more (stamped 0) old k i (slice_get_within old k i c.get-item.ensures) ∙ ap (λ x. opening (take k old) ++ stamped 0 x ∷ []) (get_or_from_slice_get old k i i c.get-item.ensures) in
    search rules
