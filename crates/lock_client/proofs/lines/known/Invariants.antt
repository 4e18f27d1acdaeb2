use Rattle.std.proofs.Common.{◌≡◌, drop}
use Rattle.lock_client.specs.Lines.{answer_line, first_known, known_answers}
use Rattle.lock_client.proofs.lines.known.Given as goal

abbrev pub invariant-loop-answer : goal.invariant-loop-answer
invariant-loop-answer l = answer_line l.line ≡ first_known l.line (drop l.answer-index known_answers)
