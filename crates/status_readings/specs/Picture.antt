-- What a watch shows at one time.
use Rattle.std.specs.Prelude.{ℕ, zero, suc, ◌/◌, ◌%◌, Bool, true, false, List, [], ◌∷◌, ◌++◌, length, filter}
use Rattle.std.specs.Prelude.{Option, None, Some, if◌then◌else◌, ◌==◌, codes, decimal}
use Rattle.node_texts.specs.declared.status_line.StatusLine.{StatusLine}
use Rattle.status_readings.specs.declared.answers.NodeAnswer.{NodeAnswer}
use Rattle.status_readings.specs.Report.{counts_line, is_privileged, lends}
use Rattle.status_readings.specs.declared.minute.NodeLoans.{NodeLoans}
use Rattle.status_readings.specs.declared.minute.Rates.{Rates}
use Rattle.status_readings.specs.declared.tree.Row.{Row}
use Rattle.status_readings.specs.Minute.{present_at}
use Rattle.status_readings.specs.SecondsText.{seconds_text}
use Rattle.status_readings.specs.Tree.{tree_rows}

-- two spaces for each node above
abbrev pub indent : ℕ → List ℕ
indent zero = []
indent (suc depth) = indent depth ++ codes "  "

abbrev pub token_text : Bool → List ℕ
token_text true = codes " token"
token_text false = []

-- to whom a node lends, and for how long it has
abbrev pub lent_text : Option ℕ → Option ℕ → List ℕ
lent_text None present = []
lent_text (Some ticket) None = codes " lent " ++ decimal ticket
lent_text (Some ticket) (Some micros) =
    codes " lent " ++ (decimal ticket ++ (codes " for " ++ (seconds_text micros ++ codes " s")))

-- how many tickets wait, if any
abbrev pub waiting_text : ℕ → List ℕ
waiting_text waiting = if waiting == 0 then [] else codes " waiting " ++ decimal waiting

-- what a node says
abbrev pub said_text : StatusLine → Option ℕ → List ℕ
said_text line present =
    codes " distance " ++ (decimal line.distance ++ (token_text line.token
    ++ (lent_text line.lent present ++ waiting_text line.waiting)))

abbrev pub said_or_none : Option StatusLine → Option ℕ → List ℕ
said_or_none None present = codes " no answer"
said_or_none (Some line) present = said_text line present

-- the line of a row
abbrev pub row_text : List NodeLoans → Row → List ℕ
row_text loans row =
    indent row.depth ++ (codes "node " ++ (decimal row.answer.node
    ++ (said_or_none row.answer.line (present_at loans row.answer.node) ++ codes "\n")))

abbrev pub row_lines : List NodeLoans → List Row → List ℕ
row_lines loans [] = []
row_lines loans (row ∷ rows) = row_text loans row ++ row_lines loans rows

-- a number of tenths, with one decimal
abbrev pub tenths_text : ℕ → List ℕ
tenths_text tenths = decimal (tenths / 10) ++ (codes "." ++ decimal (tenths % 10))

-- how many loans there were, and how long the longest was
abbrev pub loans_line : Rates → List ℕ
loans_line rates =
    codes "last minute: " ++ (tenths_text rates.tenths
    ++ (codes " loans a second, longest " ++ (seconds_text rates.longest ++ codes " s\n")))

-- how often the token came round
abbrev pub rounds_line : Rates → List ℕ
rounds_line rates =
    codes "last minute: the token came round " ++ (tenths_text rates.rounds ++ codes " times a second\n")

-- both, if they are known
abbrev pub rates_lines : Option Rates → List ℕ
rates_lines None = []
rates_lines (Some rates) = loans_line rates ++ rounds_line rates

-- all lines
abbrev pub picture_text : List NodeAnswer → List NodeLoans → Option Rates → List ℕ
picture_text answers loans rates =
    row_lines loans (tree_rows answers)
    ++ (counts_line (length (filter is_privileged answers)) (length (filter lends answers))
    ++ rates_lines rates)
