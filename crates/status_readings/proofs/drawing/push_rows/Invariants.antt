use Rattle.std.proofs.Common.{◌≡◌, ◌++◌, string_bytes, drop}
use Rattle.status_readings.specs.Picture.{row_lines}
use Rattle.status_readings.proofs.drawing.push_rows.Given as goal

-- what is written, and the lines that are left, are all that must be written
abbrev pub invariant-loop-row : goal.invariant-loop-row
invariant-loop-row l = string_bytes l.initial.text
    ++ row_lines l.loans l.rows ≡ string_bytes l.text ++ row_lines l.loans (drop l.row-index l.rows)
