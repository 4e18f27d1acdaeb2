use Rattle.std.proofs.Common.{◌≡◌, ◌+◌, ◌≤◌, ◌++◌, vec_len, vec_capacity}
use Rattle.std.specs.Vec.Iter.{into_iter_items, into_iter_len}
use Rattle.node_runner.specs.weaving.Journals.{entries_in}
use Rattle.thread_net.specs.Cables.{rows_of}
use Rattle.thread_net.specs.Seats.{nodes_of, entries_of_all}
use Rattle.thread_net.specs.Tables.{rows_in}
use Rattle.thread_net.proofs.seats.unseat_all.Given as goal

abbrev pub invariant-loop-runner : goal.invariant-loop-runner
invariant-loop-runner g l =
    let left = into_iter_items l.runner-iterator in
    let more = into_iter_len l.runner-iterator in
    (vec_len l.seats.nodes + more ≤ vec_capacity l.seats.nodes)
    × (vec_len l.seats.journals + more ≤ vec_capacity l.seats.journals)
    × (vec_len l.seats.rows + more ≤ vec_capacity l.seats.rows)
    × (l.seats.nodes.items ++ nodes_of left ≡ nodes_of l.fn.runners.items)
    × (entries_in l.seats.journals.items ++ entries_of_all left ≡ entries_of_all l.fn.runners.items)
    × (rows_in l.seats.rows.items ++ rows_of left ≡ rows_of l.fn.runners.items)
