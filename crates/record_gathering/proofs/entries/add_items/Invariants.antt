use Rattle.std.proofs.Common.{◌≡◌, ◌++◌, take}
use Rattle.configuration.specs.ConfigurationView.{world_of}
use Rattle.record_gathering.specs.Entries.{item_events}
use Rattle.record_gathering.proofs.entries.add_items.Given as goal

abbrev pub invariant-loop-index : goal.invariant-loop-index
invariant-loop-index g l =
    l.events.items ≡ l.fn.events.items ++ item_events l.from l.to (take l.index ((world_of l.world).link l.from l.to))
