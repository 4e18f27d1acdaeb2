use Rattle.run_film.proofs.playing.film.Goals as goal

pub returns-clause-plays : goal.returns-clause-plays
returns-clause-plays c = λ reel opening is first. rw (c.shown_of.ensures.shown reel opening is first) at c.scene.ensures
