-- What a node is asked, and where.
use Rattle.std.specs.Prelude.{◌≡◌, ℕ, Bool, ◌||◌, nat_lt, List, [], ◌∷◌, map, length, is_some, Option, None, Some, if◌then◌else◌}
use Rattle.std.specs.Str.{is_utf8}
use Rattle.lock_desk.specs.ClientText.{client_lines}
use Rattle.lock_desk.specs.declared.client_line.ClientLine.TheVariants as line
use Rattle.desk_sockets.specs.DeskSockets.{desk_path, look_path}
use Rattle.status_readings.specs.declared.answers.NodeAnswer.{NodeAnswer}
use Rattle.status_readings.specs.declared.minute.NodeLoans.{NodeLoans}
use Rattle.status_readings.specs.LookSaid.{line_loans}
use Rattle.status_command.specs.Answering.{answer_in, first_line}
use Rattle.status_command.specs.declared.question.Question.{Question}
use Rattle.status_command.specs.declared.question.Question.TheVariants.{Status, Look}
use Rattle.status_command.specs.declared.asking.Asked.{Asked}

-- the status line is asked for at the node's desk, the line for lookers at its window
abbrev pub question_path : Question → List ℕ → ℕ → List ℕ
question_path Status folder node = desk_path folder node
question_path Look folder node = look_path folder node

-- a desk reads these words as the question; a window is asked nothing
abbrev pub AreWordsOf : Question → List ℕ → Type 0
AreWordsOf Status words = client_lines words ≡ line.Status ∷ []
AreWordsOf Look words = words ≡ []

-- the most bytes of the answer's line
abbrev pub most_bytes : Question → ℕ
most_bytes Status = 96
most_bytes Look = 8192

-- the answer is there once its first line has come, or more bytes than that line may have
abbrev pub is_answered : Question → List ℕ → Bool
is_answered question came = is_some (first_line came) || nat_lt (most_bytes question) (length came)

-- which nodes were asked, in their order
abbrev pub nodes_in : List Asked → List ℕ
nodes_in all = map (λ asked. asked.node) all

-- what each node answered, in their order
abbrev pub answers_in : List Asked → List NodeAnswer
answers_in [] = []
answers_in (asked ∷ all) = answer_in asked.node asked.came.items ∷ answers_in all

-- the nodes of these answers
abbrev pub nodes_of : List NodeAnswer → List ℕ
nodes_of answers = map (λ answer. answer.node) answers

-- these bytes, if they are a text; else an empty text
abbrev pub text_or_empty : List ℕ → List ℕ
text_or_empty line = if is_utf8 line then line else []

abbrev pub line_or_empty : Option (List ℕ) → List ℕ
line_or_empty None = []
line_or_empty (Some line) = text_or_empty line

-- the first line that came, if it is a text; else an empty text
abbrev pub text_in : Asked → List ℕ
text_in asked = line_or_empty (first_line asked.came.items)

-- what each node said of its loans, in their order
abbrev pub loans_in : List Asked → List NodeLoans
loans_in [] = []
loans_in (asked ∷ all) = record { node = asked.node; said = line_loans (text_in asked) } ∷ loans_in all
