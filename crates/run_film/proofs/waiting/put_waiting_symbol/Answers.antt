use Rattle.run_film.proofs.waiting.put_waiting_symbol.Goals as goal

pub returns-in_ok-put_symbol-clause-waiting : goal.returns-in_ok-put_symbol-clause-waiting
returns-in_ok-put_symbol-clause-waiting c = λ yes. c.in_ok-put_symbol.ensures.defined _ c.in_ok-waiting_symbol.ensures
