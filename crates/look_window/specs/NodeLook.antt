-- What a node says to lookers.
use Rattle.std.specs.Prelude.{ℕ, List}
use Rattle.turn_watch.specs.declared.notes.TurnNotes.{TurnNotes}
use Rattle.node_core.specs.Site.{Site}
use Rattle.node_core.specs.State.{LocalState}
use Rattle.node_texts.specs.declared.look_parts.ProcessPart.{ProcessPart}
use Rattle.node_texts.specs.LookText.{look_text, link_parts, loan_part, turn_part}
use Rattle.look_window.specs.NodeStatus.{line_of}

-- the text of what its status line says, of what was noted about its links, loans and turns, of its process,
-- and of how often the token came round
abbrev pub node_look : Site → LocalState → TurnNotes → ProcessPart → List ℕ → ℕ → List ℕ
node_look site s notes process version now =
    look_text (line_of site s) (link_parts notes.links now site.neighbours) (loan_part notes.loans now)
    (turn_part notes.turns notes.limit now) process version notes.rounds.count
