use Rattle.run_film.proofs.frames.put_frame.Goals as goal

pub returns-in_ok-put_symbol-clause-frame : goal.returns-in_ok-put_symbol-clause-frame
returns-in_ok-put_symbol-clause-frame c = λ yes. c.in_ok-put_symbol.ensures.defined _ c.in_ok-frame_symbol.ensures
