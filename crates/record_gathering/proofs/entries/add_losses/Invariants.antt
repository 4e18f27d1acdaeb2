use Rattle.std.proofs.Common.{◌≡◌, ◌++◌}
use Rattle.record_gathering.specs.Entries.{losses}
use Rattle.record_gathering.proofs.entries.add_losses.Given as goal

abbrev pub invariant-loop-lost : goal.invariant-loop-lost
invariant-loop-lost g l = l.events.items ≡ l.fn.events.items ++ losses l.from l.to l.lost
