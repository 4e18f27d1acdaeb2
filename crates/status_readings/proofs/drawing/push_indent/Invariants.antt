use Rattle.std.proofs.Common.{◌≡◌, ◌++◌, string_bytes}
use Rattle.status_readings.specs.Picture.{indent}
use Rattle.status_readings.proofs.drawing.push_indent.Given as goal

-- the spaces so far
abbrev pub invariant-loop : goal.invariant-loop
invariant-loop l = string_bytes l.text ≡ string_bytes l.fn.text ++ indent l.counter
