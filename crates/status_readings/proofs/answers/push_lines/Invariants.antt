use Rattle.std.proofs.Common.{◌≡◌, ◌++◌, string_bytes, drop}
use Rattle.status_readings.specs.Report.{answer_lines}
use Rattle.status_readings.proofs.answers.push_lines.Given as goal

-- what is written, and the lines of the others after it, are all that must be written
abbrev pub invariant-loop-answer : goal.invariant-loop-answer
invariant-loop-answer l = string_bytes l.initial.text
    ++ answer_lines l.answers ≡ string_bytes l.text ++ answer_lines (drop l.answer-index l.answers)
