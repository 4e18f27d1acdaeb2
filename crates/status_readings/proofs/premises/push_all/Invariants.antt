use Rattle.std.proofs.Common.{◌≡◌, ◌++◌, string_bytes, drop}
use Rattle.status_readings.specs.PremisesText.{premises_text}
use Rattle.status_readings.proofs.premises.push_all.Given as goal

-- what is written, and the lines that are left, are all that must be written
abbrev pub invariant-loop-line : goal.invariant-loop-line
invariant-loop-line l = string_bytes l.initial.text
    ++ premises_text l.lines ≡ string_bytes l.text ++ premises_text (drop l.line-index l.lines)
