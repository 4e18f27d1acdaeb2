use Rattle.std.proofs.Common.{◌≤◌}
use Rattle.subcommands.proofs.worst.until.Given as goal

-- there was at least one batch
abbrev pub invariant-loop : goal.invariant-loop
invariant-loop g l = 16 ≤ l.latest.searches
