use Rattle.std.proofs.Common.{◌∙◌, ap}
use Rattle.run_recording.specs.UnderWay.{under_way_of}
use Rattle.run_recording.proofs.recording.push_still.Goals as goal

pub returns-clause-shows : goal.returns-clause-shows
returns-clause-shows g c =
    λ w stills sight there shown.
    let is = c.still_of.ensures w sight (c.under_way_of.ensures ∙ ap under_way_of there) in
    rw (← is) (c.push.ensures.shows stills shown)
