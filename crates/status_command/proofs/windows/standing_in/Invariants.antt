use Rattle.std.proofs.Common.{◌≡◌, drop}
use Rattle.status_command.specs.Windows.{standing_in}
use Rattle.status_command.proofs.windows.standing_in.Given as goal

-- none of those looked at so far is of this node
abbrev pub invariant-loop-asked : goal.invariant-loop-asked
invariant-loop-asked l = standing_in l.node l.windows ≡ standing_in l.node (drop l.asked-index l.windows)
