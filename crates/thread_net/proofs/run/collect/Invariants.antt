use Rattle.std.proofs.Common.{◌≡◌, ◌≤◌, ◌+◌, ◌++◌, ◌&&◌, vec_len, vec_capacity}
use Rattle.std.specs.Vec.Iter.{into_iter_items, into_iter_len}
use Rattle.thread_net.specs.Outcomes.{runners_in, have_run}
use Rattle.thread_net.proofs.run.collect.Given as goal

abbrev pub invariant-loop-outcome : goal.invariant-loop-outcome
invariant-loop-outcome l =
    let left = into_iter_items l.outcome-iterator in
    (vec_len l.runners + into_iter_len l.outcome-iterator ≤ vec_capacity l.runners)
    × (l.runners.items ++ runners_in left ≡ runners_in l.fn.outcomes.items)
    × ((l.all_ran && have_run left) ≡ have_run l.fn.outcomes.items)
