use Rattle.std.proofs.Common.{length}
use Rattle.topology.proofs.SearchByLevels.{IsSearch-start, IsSearch-round, IsSearched-end}
use Rattle.topology.proofs.graph.write_distances.Goals as goal

pub loop-level-preserved : goal.loop-level-preserved
loop-level-preserved c =
    let s = c.loop-level-test.ensures in
    IsSearch-round _ _ _ _ _ _ c.loop-level.invariant s.spreads s.covered c.requires.edges_in c.requires.few s.moved

pub returns-clause-searched : goal.returns-clause-searched
returns-clause-searched c =
    let s = c.loop-level-test.ensures in
    rw s.stayed (IsSearched-end _ _ _ _ _ c.loop-level.invariant (rw s.stayed at s.covered) c.requires.edges_in c.requires.few)

pub loop-level-init : goal.loop-level-init
loop-level-init c = rw (c.from.ensures, c.forget.ensures) (IsSearch-start c.args.edges.now c.args.root (length c.args.distances.now) c.requires.root_in c.requires.few)
