use Rattle.std.proofs.Common.{◌≡◌, ◌++◌, ◌-◌, drop}
use Rattle.status_readings.specs.Tree.{below, child_rows}
use Rattle.status_readings.proofs.tree.+push_below.Given as goal

abbrev pub decreases-push_below : goal.decreases-push_below
decreases-push_below l = l.left

-- what is there, and the rows of the children that are left, are all
abbrev pub invariant-loop-child : goal.invariant-loop-child
invariant-loop-child l = l.fn.rows.items ++ below l.all l.left l.answer
    ≡ l.rows.items ++ child_rows (below l.all (l.left - 1)) l.answer.node (drop l.child-index l.all)
