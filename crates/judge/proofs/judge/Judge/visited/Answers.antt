use Rattle.judge.proofs.judge.Judge.visited.Goals as goal

pub returns-clause-visited : goal.returns-clause-visited
returns-clause-visited g c = rw (← c.self.view_is) (λ start es seen. seen.visited)
