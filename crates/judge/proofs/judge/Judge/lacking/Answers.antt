use Rattle.judge.proofs.judge.Judge.lacking.Goals as goal

pub returns-clause-lacking : goal.returns-clause-lacking
returns-clause-lacking g c = rw (← c.self.view_is, c.lacking.ensures) (λ start es seen. (seen.judging.done, seen.judging.stretch, seen.judging.count, seen.judging.since, seen.judging.counted, seen.judging.kept.lacking))
