-- The lines of a desk, as its clients read them.
use Rattle.std.specs.Prelude.{◌≡◌, ℕ, if◌then◌else◌, List, [], ◌∷◌, map, codes}
use Rattle.std.specs.Str.{bytes_eq}
use Rattle.byte_lines.specs.Lines.{whole_lines}
use Rattle.lock_client.specs.declared.answer.Answer.{Answer}
use Rattle.lock_client.specs.declared.answer.Answer.TheVariants.{Granted, Lost, Released, Full, Twice, Stranger, Unknown, Other}

-- the line of an answer, without its newline
abbrev pub answer_text : Answer → List ℕ
answer_text Granted = codes "granted"
answer_text Lost = codes "lost"
answer_text Released = codes "released"
answer_text Full = codes "full"
answer_text Twice = codes "twice"
answer_text Stranger = codes "stranger"
answer_text Unknown = codes "unknown"
answer_text Other = []

-- the answers that a desk gives a client
abbrev pub known_answers : List Answer
known_answers = Granted ∷ Lost ∷ Released ∷ Full ∷ Twice ∷ Stranger ∷ Unknown ∷ []

-- the first of these answers whose line this is, byte for byte
abbrev pub first_known : List ℕ → List Answer → Answer
first_known line [] = Other
first_known line (answer ∷ answers) =
    if bytes_eq line (answer_text answer) then answer else first_known line answers

-- what a line says
abbrev pub answer_line : List ℕ → Answer
answer_line line = first_known line known_answers

-- what the bytes of a desk say, line by line
abbrev pub answer_lines : List ℕ → List Answer
answer_lines bytes = map answer_line (whole_lines bytes)

-- each answer's line is read back as that answer
abbrev pub AnswersAreRead : Type 0
AnswersAreRead = (answer : Answer) → answer_line (answer_text answer) ≡ answer
