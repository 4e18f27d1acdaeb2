use Rattle.std.proofs.Common.{arith}
use Rattle.run_film.proofs.Films.{grows_more, grows_none}
use Rattle.run_film.proofs.Paired.{paired_kept}
use Rattle.run_film.proofs.pairs.put_pairs_of.Goals as goal

pub loop-w-init : goal.loop-w-init
loop-w-init c = grows_none _ _

pub loop-w-preserved : goal.loop-w-preserved
loop-w-preserved c =
    grows_more _ (λ old new u keeps was seen. paired_kept _ old new _ _ u keeps (was seen)) _ _ _ _ c.loop-w.invariant
    c.in_ok-put_pair.ensures.keeps c.in_ok-put_pair.ensures.pair

pub returns-clause-pairs : goal.returns-clause-pairs
returns-clause-pairs c = λ u below. c.loop-w.invariant.each u (omega (arith, below, c.nodes-w-end.ensures.nodes, c.loop-w-test.false, c.loop-w.auto.w-end))
