use Rattle.run_film.proofs.pairs.put_pair.Goals as goal

pub returns-in_ok-put_seen-clause-pair : goal.returns-in_ok-put_seen-clause-pair
returns-in_ok-put_seen-clause-pair c = λ yes. c.in_ok-put_seen.ensures.seen
