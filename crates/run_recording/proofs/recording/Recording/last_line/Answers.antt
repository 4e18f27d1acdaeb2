use Rattle.std.proofs.Common.{◌∙◌, ap, [], ◌∷◌, ◌++◌}
use Rattle.std.proofs.lemmas.Grind.{flat_map-append}
use Rattle.std.specs.Option.{option_to_list}
use Rattle.world.specs.events_text.EventsText.{ended_lines}
use Rattle.world.specs.SimulatedText.{said_event, said_events}
use Rattle.run_recording.proofs.recording.Recording.last_line.Goals as goal

pub returns-in-Some-clause-text : goal.returns-in-Some-clause-text
returns-in-Some-clause-text g c =
    λ start bytes h.
    let now = rw (← c.self.view_is) at h in
    let ended = ended_lines bytes in
    let lines_are = c.last.ensures bytes now.stands ∙ ap (λ line. ended ++ option_to_list line) c.in-Some.is in
    rw (lines_are, flat_map-append said_event ended (c.in-Some.line ∷ [])) (c.rare_line.ensures.records start (said_events ended) h.recorded)
