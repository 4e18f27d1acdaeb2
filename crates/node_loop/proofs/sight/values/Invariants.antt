use Rattle.std.proofs.Common.{take}
use Rattle.node_core.specs.View.{site_in, state_of}
use Rattle.node_loop.proofs.Sights.{AreSeen, NoneElse}
use Rattle.node_loop.proofs.sight.values.Given as goal

abbrev pub invariant-loop-w : goal.invariant-loop-w
invariant-loop-w g l =
    let ws = take l.w-index (site_in l.fn.node).neighbours in
    AreSeen (state_of l.fn.node).value 0 ws l.values × NoneElse ws l.values
