use Rattle.judge.proofs.Judging.{judging-counts}
use Rattle.judge.proofs.judge.Judge.sweeps.Goals as goal

pub returns-clause-sweeps : goal.returns-clause-sweeps
returns-clause-sweeps g c = rw (← c.self.view_is) (λ start es seen. (seen.judging.count, judging-counts c.below.ensures start es _ _ _ _ seen.judging, seen.judging.sweeps_are))
