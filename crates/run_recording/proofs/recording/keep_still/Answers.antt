use Rattle.run_recording.proofs.recording.keep_still.Goals as goal

pub returns-then-holds-clause-shows : goal.returns-then-holds-clause-shows
returns-then-holds-clause-shows g c =
    λ w stills sight there reeled.
    let held = rw c.holds.ensures at c.if-holds.true in
    rw held (c.push_still.ensures.shows w stills sight there (rw c.in-Some.is at reeled))
