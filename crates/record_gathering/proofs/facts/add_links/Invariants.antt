use Rattle.std.proofs.Common.{◌≡◌, ◌++◌}
use Rattle.configuration.specs.ConfigurationView.{world_of}
use Rattle.record_gathering.specs.Facts.{links_from}
use Rattle.record_gathering.proofs.facts.add_links.Given as goal

abbrev pub invariant-loop-to : goal.invariant-loop-to
invariant-loop-to g l = l.facts.items ≡ l.fn.facts.items ++ links_from (world_of l.world) l.from l.to
