use Rattle.std.proofs.Common.{◌≡◌, ◌++◌, string_bytes, drop}
use Rattle.status_readings.specs.LinksText.{link_lines}
use Rattle.status_readings.proofs.looks.push_lines.Given as goal

-- what is written, and the lines that are left, are all that must be written
abbrev pub invariant-loop-link : goal.invariant-loop-link
invariant-loop-link l = string_bytes l.initial.text
    ++ link_lines l.node l.links ≡ string_bytes l.text ++ link_lines l.node (drop l.link-index l.links)
