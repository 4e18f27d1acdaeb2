use Rattle.std.proofs.Common.{arith}
use Rattle.run_film.proofs.Films.{grows_more, grows_none}
use Rattle.run_film.proofs.Paired.{paired_kept}
use Rattle.run_film.proofs.pairs.put_pairs.Goals as goal

pub loop-v-init : goal.loop-v-init
loop-v-init c = grows_none _ _

pub loop-v-preserved : goal.loop-v-preserved
loop-v-preserved c =
    grows_more _ (λ old new u keeps was w below seen. paired_kept _ old new _ u w keeps (was w below seen)) _ _ _ _ c.loop-v.invariant
    c.in_ok-put_pairs_of.ensures.keeps c.in_ok-put_pairs_of.ensures.pairs

pub returns-clause-pairs : goal.returns-clause-pairs
returns-clause-pairs c = λ u below. c.loop-v.invariant.each u (omega (arith, below, c.nodes-v-end.ensures.nodes, c.loop-v-test.false, c.loop-v.auto.v-end))
