use Rattle.std.proofs.Common.{◌≡◌, ◌++◌, take}
use Rattle.record_gathering.specs.Differences.{harms_in}
use Rattle.record_gathering.proofs.entries.add_harms.Given as goal

abbrev pub invariant-loop-harm : goal.invariant-loop-harm
invariant-loop-harm g l = l.events.items ≡ l.fn.events.items ++ harms_in (take l.harm-index l.harms)
