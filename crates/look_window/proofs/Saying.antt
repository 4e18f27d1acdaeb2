-- What is shown begins with what the status line says.
use Rattle.std.proofs.Common.{◌≡◌, ◌++◌, ℕ, List, codes, append_assoc}
use Rattle.turn_watch.specs.declared.notes.TurnNotes.{TurnNotes}
use Rattle.node_core.specs.Site.{Site}
use Rattle.node_core.specs.State.{LocalState}
use Rattle.node_texts.specs.declared.look_parts.ProcessPart.{ProcessPart}
use Rattle.node_texts.specs.LookText.{links_text, link_parts, loan_part, rest_text, rounds_text, status_part, turn_part}
use Rattle.look_window.specs.NodeStatus.{NodesWriteTheirLines, line_of}
use Rattle.look_window.specs.Laws.{LooksSayTheStatus}

-- what stands after the status line's values
abbrev after-status : Site → TurnNotes → ProcessPart → List ℕ → ℕ → List ℕ
after-status site notes process version now =
    (codes ",\"links\":[" ++ (links_text (link_parts notes.links now site.neighbours) ++ codes "]"))
    ++ (rest_text (loan_part notes.loans now) (turn_part notes.turns notes.limit now) process version
    ++ rounds_text notes.rounds.count)

pub says : NodesWriteTheirLines → LooksSayTheStatus
says writes site s notes process version now =
    let after : List ℕ = after-status site notes process version now in
    (line_of site s, after, writes site s, append_assoc (codes "{") (status_part (line_of site s)) after)
