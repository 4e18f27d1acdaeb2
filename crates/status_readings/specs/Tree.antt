-- The order in which a watch shows nodes.
use Rattle.std.specs.Prelude.{ℕ, zero, suc, ◌-◌, Bool, true, false, not, ◌==◌, if◌then◌else◌, List, [], ◌∷◌, ◌++◌, length}
use Rattle.std.specs.Prelude.{Option, None, Some}
use Rattle.std.specs.List.{list_any}
use Rattle.node_texts.specs.declared.status_line.StatusLine.{StatusLine}
use Rattle.status_readings.specs.declared.answers.NodeAnswer.{NodeAnswer}
use Rattle.status_readings.specs.declared.tree.Row.{Row}

abbrev pub line_parent : Option StatusLine → Option ℕ
line_parent None = None
line_parent (Some line) = line.parent

-- the parent that a node names
abbrev pub parent_named : NodeAnswer → Option ℕ
parent_named answer = line_parent answer.line

abbrev pub is_this : Option ℕ → ℕ → Bool
is_this None node = false
is_this (Some named) node = named == node

-- a node names this one as its parent
abbrev pub has_parent : NodeAnswer → ℕ → Bool
has_parent answer parent = is_this (parent_named answer) parent

-- a node was asked
abbrev pub is_asked : List NodeAnswer → ℕ → Bool
is_asked all node = list_any (λ answer. answer.node == node) all

abbrev pub is_unasked : List NodeAnswer → Option ℕ → Bool
is_unasked all None = true
is_unasked all (Some parent) = not (is_asked all parent)

-- a node names no parent that was asked
abbrev pub is_top : List NodeAnswer → NodeAnswer → Bool
is_top all answer = is_unasked all (parent_named answer)

-- the rows of those nodes that name this one as their parent
abbrev pub child_rows : (NodeAnswer → List Row) → ℕ → List NodeAnswer → List Row
child_rows rows_of parent [] = []
child_rows rows_of parent (answer ∷ answers) =
    (if has_parent answer parent then rows_of answer else []) ++ child_rows rows_of parent answers

-- a node and all nodes under it, at most this many levels in all; for a node at the left, as many
-- as there are nodes
abbrev pub below : List NodeAnswer → ℕ → NodeAnswer → List Row
below all zero answer = []
below all (suc left) answer =
    (record { depth = length all - suc left; answer = answer }) ∷ child_rows (below all left) answer.node all

-- those of these nodes that name no parent that was asked, and all nodes under them
abbrev pub top_rows : List NodeAnswer → List NodeAnswer → List Row
top_rows all [] = []
top_rows all (answer ∷ answers) =
    (if is_top all answer then below all (length all) answer else []) ++ top_rows all answers

-- a node is in one of these rows
abbrev pub is_placed : List Row → ℕ → Bool
is_placed rows node = list_any (λ row. row.answer.node == node) rows

-- the nodes that are in none of these rows
abbrev pub rest_rows : List Row → List NodeAnswer → List Row
rest_rows rows [] = []
rest_rows rows (answer ∷ answers) =
    if is_placed rows answer.node then rest_rows rows answers
    else (record { depth = 0; answer = answer }) ∷ rest_rows rows answers

-- all nodes: those at the left with all under them, then the others
abbrev pub tree_rows : List NodeAnswer → List Row
tree_rows answers = top_rows answers answers ++ rest_rows (top_rows answers answers) answers
