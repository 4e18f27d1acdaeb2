use Rattle.std.proofs.Common.{◌≤◌, ◌-◌}
use Rattle.node_state_file.proofs.file_store.fill.Given as goal

-- no more was read than there is room for
abbrev pub invariant-loop-count : goal.invariant-loop-count
invariant-loop-count g l = l.count ≤ 1277

abbrev pub decreases-loop-count : goal.decreases-loop-count
decreases-loop-count g l = 1277 - l.count
