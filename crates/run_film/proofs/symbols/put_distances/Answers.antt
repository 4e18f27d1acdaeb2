use Rattle.std.proofs.Common.{arith}
use Rattle.run_film.proofs.Films.{defined_kept, grows_more, grows_none}
use Rattle.run_film.proofs.symbols.put_distances.Goals as goal

pub loop-distance-init : goal.loop-distance-init
loop-distance-init c = grows_none _ _

pub loop-distance-preserved : goal.loop-distance-preserved
loop-distance-preserved c =
    grows_more _ (λ old new d keeps was. defined_kept old new _ keeps was) _ _ _ _ c.loop-distance.invariant
    c.in_ok-put_distance.ensures.keeps c.in_ok-put_distance.ensures.distance

pub returns-clause-distances : goal.returns-clause-distances
returns-clause-distances c = λ u below. c.loop-distance.invariant.each u (omega (arith, below, c.nodes-distance-end.ensures.nodes, c.loop-distance-test.false, c.loop-distance.auto.distance-end))
