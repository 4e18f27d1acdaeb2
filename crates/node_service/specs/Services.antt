-- What a node does for its clients: it serves their lines, and tickets leave.
use Rattle.std.specs.Prelude.{◌≡◌, ℕ, Bool, false, ◌==◌, if◌then◌else◌, List, ◌∷◌, ◌++◌, ⊤, []}
use Rattle.lock_desk.specs.Desk.{after_leave}
use Rattle.lock_desk.specs.declared.client_line.ClientLine.{ClientLine}
use Rattle.node_core.specs.State.{LocalState}
use Rattle.node_service.specs.Answers.{after_line}
use Rattle.node_service.specs.Deeds.{Deed, Leaves}
use Rattle.node_service.specs.Noting.{deeds_of_line}

-- a line of the client with a ticket is served, or a ticket leaves
pub data Service : Type 0 where
  Line : (t : ℕ) (line : ClientLine) → Service
  Goes : (t : ℕ) → Service

-- the deeds of which services consist
abbrev pub deeds_of_all : List Service → List Deed
deeds_of_all [] = []
deeds_of_all (Line t line ∷ rest) = deeds_of_line t line ++ deeds_of_all rest
deeds_of_all (Goes t ∷ rest) = Leaves t ∷ deeds_of_all rest

-- The lines of the client with ticket t among these services, each with the state in which the node was
-- when it came.
abbrev pub lines_of : ℕ → List Service → LocalState → List (ClientLine × LocalState)
lines_of t [] s = []
lines_of t (Line u line ∷ rest) s =
    (if u == t then (line, s) ∷ [] else []) ++ lines_of t rest (after_line u line s)
lines_of t (Goes u ∷ rest) s = lines_of t rest (record s { desk = after_leave u s.desk })

-- the only tickets that leave are those that no connected client has
abbrev pub AreGone : (ℕ → Bool) → List Service → Type 0
AreGone connected [] = ⊤
AreGone connected (Line t line ∷ rest) = AreGone connected rest
AreGone connected (Goes t ∷ rest) = (connected t ≡ false) × AreGone connected rest
