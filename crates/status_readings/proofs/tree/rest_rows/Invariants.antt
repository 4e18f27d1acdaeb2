use Rattle.std.proofs.Common.{◌≡◌, ◌++◌, drop}
use Rattle.status_readings.specs.Tree.{rest_rows}
use Rattle.status_readings.proofs.tree.rest_rows.Given as goal

-- what is there, and the rows that are left, are all
abbrev pub invariant-loop-answer : goal.invariant-loop-answer
invariant-loop-answer l = rest_rows l.rows l.answers
    ≡ l.rest.items ++ rest_rows l.rows (drop l.answer-index l.answers)
