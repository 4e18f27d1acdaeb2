use Rattle.std.proofs.Common.{◌∙◌, sym}
use Rattle.run_model.specs.Links.{AreLinksStable}
use Rattle.run_model.specs.Tree.{IsTreeReached}
use Rattle.layers.specs.convergence.Ring.{IsTokenRingGood}
use Rattle.judge.specs.configuration.ConfigurationView.{world_of}
use Rattle.experiments.proofs.Layering.{stands-legitimate}
use Rattle.experiments.proofs.Watching.{last-by}
use Rattle.experiments.proofs.layers_seen.LayersSeen.looked.Goals as goal

pub returns-clause-layers : goal.returns-clause-layers
returns-clause-layers g c =
    let now = world_of c.args.configuration.now in
    let was = c.args.self in
    let links = c.are_links_stable-links in
    let tree = c.is_tree_reached-tree in
    let ring = c.is_token_ring_good-ring in
    let loans = c.are_loans_privileged-loans in
    record {
      links = last-by AreLinksStable now links.result c.args.sweeps was.links c.last_failure.result links.ensures c.last_failure.ensures;
      tree = last-by IsTreeReached now tree.result c.args.sweeps was.tree c.last_failure-2.result tree.ensures c.last_failure-2.ensures;
      ring = last-by IsTokenRingGood now ring.result c.args.sweeps was.ring c.last_failure-3.result ring.ensures c.last_failure-3.ensures;
      settled = λ s. stands-legitimate now links.result tree.result ring.result loans.result links.ensures tree.ensures ring.ensures loans.ensures
          (sym c.all_stand.ensures ∙ s);
    }
