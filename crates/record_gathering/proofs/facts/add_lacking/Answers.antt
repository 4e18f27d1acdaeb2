use Rattle.std.proofs.lemmas.List.{take_more}
use Rattle.record_gathering.specs.Facts.{lacking}
use Rattle.record_gathering.proofs.FactsJoin.{lacking-append, one-more}
use Rattle.record_gathering.proofs.facts.add_lacking.Goals as goal

pub loop-edge-preserved : goal.loop-edge-preserved
loop-edge-preserved g c =
    one-more (lacking c.args.joins c.args.net.now) (lacking-append c.args.joins c.args.net.now) _ _ _ _ _ _ (take_more c.args.edges.now c.loop-edge.edge-index _ c.loop-edge-test.true)
    c.loop-edge.invariant c.in_ok-add_change.ensures
