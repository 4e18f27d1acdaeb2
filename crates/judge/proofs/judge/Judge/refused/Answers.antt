use Rattle.judge.proofs.judge.Judge.refused.Goals as goal

pub returns-clause-refused : goal.returns-clause-refused
returns-clause-refused g c = rw (← c.self.view_is) (λ start es seen. seen.judging.refused_are)
