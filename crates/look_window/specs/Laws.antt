-- What is shown begins with what the node's status line says, and what is counted are moves.
use Rattle.std.specs.Prelude.{◌≡◌, ◌++◌, ◌<◌, ◌&&◌, ℕ, Bool, List, codes, Some, is_none}
use Rattle.turn_watch.specs.declared.notes.TurnNotes.{TurnNotes}
use Rattle.turn_watch.specs.Rounds.{has_moved}
use Rattle.node_core.specs.Site.{Site}
use Rattle.node_core.specs.State.{LocalState}
use Rattle.node_core.specs.Status.{status_line}
use Rattle.node_core.specs.euler_ring.Cycle.{is_on}
use Rattle.node_core.specs.Machines.{tree_of, may_move}
use Rattle.node_core.specs.Step.{recomputed, ticked}
use Rattle.node_texts.specs.declared.look_parts.ProcessPart.{ProcessPart}
use Rattle.node_texts.specs.declared.status_line.StatusLine.{StatusLine}
use Rattle.node_texts.specs.StatusText.{status_text}
use Rattle.node_texts.specs.LookText.{status_part}
use Rattle.look_window.specs.Counted.{machine_from}
use Rattle.look_window.specs.NodeLook.{node_look}

-- the line for lookers begins with the values of the status line that the node would write then
abbrev pub LooksSayTheStatus : Type 0
LooksSayTheStatus =
    (site : Site) (s : LocalState) (notes : TurnNotes) (process : ProcessPart) (version : List ℕ) (now : ℕ)
    → (line : StatusLine) × (rest : List ℕ)
    × (status_line site s ≡ status_text line ++ codes "\n")
    × (node_look site s notes process version now ≡ codes "{" ++ (status_part line ++ rest))

-- the machine from t moves in a tick: it is on the tree and may move, and the node lends to nobody after it
abbrev pub is_moved : Site → LocalState → ℕ → Bool
is_moved site s t =
    is_none (ticked site s).desk.lent
    && (is_on (tree_of site (recomputed site s)) t && may_move site (recomputed site s) t)

-- for a machine whose value is in range, and that is seen before a tick and after it, one move is
-- counted if it moved, and none if it did not
abbrev pub MovesAreCounted : Type 0
MovesAreCounted =
    (site : Site) (s : LocalState) (t : ℕ) → s.value t < site.ranges.ring → 1 < site.ranges.ring
    → has_moved (Some (machine_from s t)) (Some (machine_from (ticked site s) t)) ≡ is_moved site s t
