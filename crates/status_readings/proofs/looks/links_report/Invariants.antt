use Rattle.std.proofs.Common.{◌≡◌, ◌++◌, string_bytes, drop}
use Rattle.status_readings.specs.LinksText.{links_text}
use Rattle.status_readings.proofs.looks.links_report.Given as goal

-- what is written, and the lines that are left, are all that must be written
abbrev pub invariant-loop-said : goal.invariant-loop-said
invariant-loop-said l = links_text l.all ≡ string_bytes l.text ++ links_text (drop l.said-index l.all)
