use Rattle.std.proofs.Common.{◌≡◌, ◌++◌, drop}
use Rattle.status_command.specs.Windows.{without_room}
use Rattle.status_command.proofs.windows.without_room.Given as goal

-- the nodes so far, and those that are left, are all
abbrev pub invariant-loop-asked : goal.invariant-loop-asked
invariant-loop-asked l = without_room l.all ≡ l.nodes.items ++ without_room (drop l.asked-index l.all)
