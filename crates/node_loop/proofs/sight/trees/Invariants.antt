use Rattle.std.proofs.Common.{false, take}
use Rattle.euler_ring.specs.Cycle.{is_on}
use Rattle.node_core.specs.Machines.{tree_of}
use Rattle.node_core.specs.View.{site_in, state_of}
use Rattle.node_loop.proofs.Sights.{AreSeen, OnlyTrue}
use Rattle.node_loop.proofs.sight.trees.Given as goal

abbrev pub invariant-loop-w : goal.invariant-loop-w
invariant-loop-w g l =
    let on = is_on (tree_of (site_in l.fn.node) (state_of l.fn.node)) in
    AreSeen on false (take l.w-index (site_in l.fn.node).neighbours) l.trees × OnlyTrue on l.trees
