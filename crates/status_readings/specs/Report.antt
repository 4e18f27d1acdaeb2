-- What `status` prints.
use Rattle.std.specs.Prelude.{ℕ, Bool, false, List, [], ◌∷◌, ◌++◌, length, filter, Option, Some}
use Rattle.std.specs.Prelude.{None, is_some, codes, decimal}
use Rattle.node_texts.specs.declared.status_line.StatusLine.{StatusLine}
use Rattle.status_readings.specs.declared.answers.NodeAnswer.{NodeAnswer}
use Rattle.node_texts.specs.StatusText.{status_text}

-- the line of a node, or that it gave no answer
abbrev pub answer_text : ℕ → Option StatusLine → List ℕ
answer_text node None = codes "node " ++ (decimal node ++ codes " no answer\n")
answer_text node (Some line) = status_text line ++ codes "\n"

-- the lines of all nodes
abbrev pub answer_lines : List NodeAnswer → List ℕ
answer_lines [] = []
answer_lines (answer ∷ answers) = answer_text answer.node answer.line ++ answer_lines answers

-- a node that says that it is privileged, or that it lends; one that gave no answer says neither
abbrev pub line_is_privileged : Option StatusLine → Bool
line_is_privileged None = false
line_is_privileged (Some line) = line.token

abbrev pub line_lends : Option StatusLine → Bool
line_lends None = false
line_lends (Some line) = is_some line.lent

abbrev pub is_privileged : NodeAnswer → Bool
is_privileged answer = line_is_privileged answer.line

abbrev pub lends : NodeAnswer → Bool
lends answer = line_lends answer.line

-- how many nodes are privileged, and how many lend
abbrev pub counts_line : ℕ → ℕ → List ℕ
counts_line privileged lending =
    codes "privileged " ++ (decimal privileged
    ++ (codes " lending " ++ (decimal lending ++ codes "\n")))

-- the lines of all nodes, how many are privileged, and how many lend
abbrev pub report_text : List NodeAnswer → List ℕ
report_text answers =
    answer_lines answers
    ++ counts_line (length (filter is_privileged answers)) (length (filter lends answers))

-- a node gave an answer
abbrev pub has_answered : NodeAnswer → Bool
has_answered answer = is_some answer.line
