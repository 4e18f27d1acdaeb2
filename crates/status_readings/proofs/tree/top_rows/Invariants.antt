use Rattle.std.proofs.Common.{◌≡◌, ◌++◌, drop}
use Rattle.status_readings.specs.Tree.{top_rows}
use Rattle.status_readings.proofs.tree.top_rows.Given as goal

-- what is there, and the rows that are left, are all
abbrev pub invariant-loop-answer : goal.invariant-loop-answer
invariant-loop-answer l = top_rows l.answers l.answers
    ≡ l.rows.items ++ top_rows l.answers (drop l.answer-index l.answers)
